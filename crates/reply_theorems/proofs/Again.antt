-- What a user may rely on of Forward Open and Forward Close replies, backwards: a reply that was read, with zero in its reserved bytes and, if a
-- success, no extended word, is the one that is written of what was read; behind it stands what the reader passed over. Assumes nothing.
use Prim.Native.Nat.{ℕ, zero, suc, ◌+◌, ◌*◌, ◌-◌, ◌/◌, ◌≤◌}
use mathlib.Core.Path.{◌≡◌, refl, sym, ap, ◌∙◌}
use mathlib.Core.List.{List, [], ◌++◌, append_assoc}
use mathlib.Core.Bool.{Bool, true, false}
use native.Mathlib.Omega.{arith}
use lib.ListN.{length, get_or, drop}
use Rattle.std.specs.Prelude.{Option, Some, None}
use Rattle.wire.specs.Numbers.{value_of, Bytes}
use Rattle.wire.specs.Parts.{part}
use Rattle.wire.specs.Answers.{done}
use Rattle.wire.specs.Records.{Field, bytes_of, laid, widths, fields_at}
use Rattle.wire.proofs.Rules.{done_same, all_were, then_were}
use Rattle.wire.proofs.Choice.{pick_past}
use Rattle.wire.proofs.Folds.{joined_append}
use Rattle.wire.proofs.Records.{fields_were}
use Rattle.wire.proofs.Stores.{part_length, part_split}
use Rattle.connection.specs.declared.ForwardOpenSuccess.{ForwardOpenSuccess}
use Rattle.connection.specs.declared.ForwardCloseSuccess.{ForwardCloseSuccess}
use Rattle.connection.specs.declared.ForwardRequestFail.{ForwardRequestFail}
use Rattle.statuses.specs.Statuses.{is_ok}
use Rattle.statuses.specs.Layouts.{header_fields}
use Rattle.reply_header.specs.Headers.{most_words, data_from, status_at, read_header}
use Rattle.reply_header.specs.declared.MessageReply.{MessageReply}
use Rattle.reply_header.proofs.HeaderLaws.{Header, header_was}
use Rattle.success_encode.specs.Replies.{success, app_fields, open_success_fields, close_success_fields, open_reply_bytes, close_reply_bytes}
use Rattle.failure_encode.specs.Failures.{failure_fields, failure_bytes}
use Rattle.reply_read.specs.Reads.{app_data, fail_size, fail_at, read_fail, reply_data, read_reply, open_success_at, read_open_reply, close_success_at, read_close_reply}
use Rattle.reply_read.specs.declared.Reply.TheVariants.{Success as succeeded, Failure as failed}

-- ---- what an accepted success says of the input
pub record SuccessWas {A : Type 0} (fields : List ℕ → ℕ → A) (size : ℕ) (s : List ℕ) (m : MessageReply) (x : A) (start len : ℕ) : Type 0 where
  pub header : Header s m
  pub served : is_ok m.status ≡ true
  pub fields_are : fields s m.data_start ≡ x
  pub starts : m.data_start + size + 2 ≡ start
  pub sized : 2 * get_or s (m.data_start + size) 0 ≡ len
  pub here : start + len ≤ length s

app_was : (s : List ℕ) (at n : ℕ) → app_data s at ≡ done n → (2 * get_or s at 0 ≡ n) × (at + 2 + n ≤ length s)
unfolding app_data
app_was s at n h =
    let w = all_were _ _ n h in
    let q : 2 * get_or s at 0 ≡ n = done_same w.1 in
    (q, omega (arith, w.0.1.0))

pub success_was : {A : Type 0} (fields : List ℕ → ℕ → A) (size : ℕ) (routing : Bool) (s : List ℕ) (m : MessageReply) (x : A) (start len : ℕ)
    → read_reply fields size routing s ≡ done (succeeded m x start len) → SuccessWas fields size s m x start len
unfolding read_reply reply_data
success_was {A} fields size routing s m x start len h =
    let v = then_were _ _ _ h in
    go v.found v.is (is_ok v.found.status) refl v.then
  where
    go : (n : MessageReply) → read_header s ≡ done n → (t : Bool) → is_ok n.status ≡ t → reply_data fields size routing s n ≡ done (succeeded m x start len)
        → SuccessWas fields size s m x start len
    go n is true e f =
        let w = then_were (app_data s (n.data_start + size)) _ (succeeded m x start len) (rw e at f) in
        let g = done_same w.then in
        let a : n ≡ m = cc in
        let b : fields s n.data_start ≡ x = cc in
        let c : n.data_start + size + 2 ≡ start = cc in
        let d : w.found ≡ len = cc in
        let l = app_was s (n.data_start + size) w.found w.is in
        rw (← a) (record { header = header_was s n is; served = e; fields_are = b; starts = c; sized = l.0 ∙ d; here = omega (arith, l.1) })
    go n is false e f =
        let w = then_were (read_fail routing s n.data_start) _ (succeeded m x start len) (rw e at f) in
        let g = w.then in
        absurd (let z : ◌≡◌ {A = ℕ} 0 1 = cc in omega arith)

-- ---- a header without an extended word

no_word : (s : List ℕ) → (status_at s).extended ≡ None → get_or s 3 0 ≡ 0
no_word s = go (get_or s 3 0) refl
  where
    go : (n : ℕ) → get_or s 3 0 ≡ n → (status_at s).extended ≡ None → get_or s 3 0 ≡ 0
    go zero e h = e
    go (suc n) e h =
        let v : Option ℕ = Some (value_of 2 (drop 4 s)) in
        let g : v ≡ None = pick_past (get_or s 3 0) 0 None v v (λ z. omega arith) refl ∙ h in
        absurd (let z : ◌≡◌ {A = ℕ} 0 1 = cc in omega arith)

no_fault : (g : ℕ) (x : Option ℕ) → is_ok (record { general = g; extended = x }) ≡ true → g ≡ 0
no_fault zero x h = refl
no_fault (suc g) x h =
    let e : false ≡ true = pick_past (suc g) 0 true false false (λ z. omega arith) refl ∙ h in
    absurd (let z : ◌≡◌ {A = ℕ} 0 1 = cc in omega arith)

-- status 0 with no extended word, and zero in the reserved bytes: the one behind the service, and the one before the application data
pub record Plain (s : List ℕ) (m : MessageReply) (start : ℕ) : Type 0 where
  pub bare : m.status.extended ≡ None
  pub first : get_or s 1 0 ≡ 0
  pub second : get_or s (start - 1) 0 ≡ 0

-- what then stands where
record PlainWas {A : Type 0} (fields : List ℕ → ℕ → A) (size : ℕ) (s : List ℕ) (m : MessageReply) (x : A) (start len : ℕ) : Type 0 where
  service : get_or s 0 0 ≡ m.reply_service
  general : get_or s 2 0 ≡ 0
  words : get_or s 3 0 ≡ 0
  starts : start ≡ 4 + size + 2
  sized : get_or s (4 + size) 0 ≡ length (part s start len) / 2
  reserved : get_or s (4 + size + 1) 0 ≡ 0
  fields_are : fields s 4 ≡ x
  here : start + len ≤ length s

plain_was : {A : Type 0} (fields : List ℕ → ℕ → A) (size : ℕ) (routing : Bool) (s : List ℕ) (m : MessageReply) (x : A) (start len : ℕ)
    → read_reply fields size routing s ≡ done (succeeded m x start len) → Plain s m start → PlainWas fields size s m x start len
plain_was fields size routing s m x start len h p =
    let w = success_was fields size routing s m x start len h in
    let n : get_or s 3 0 ≡ 0 = no_word s (ap (λ (k : MessageReply). k.status.extended) w.header.is ∙ p.bare) in
    let d : data_from s ≡ m.data_start = ap (λ (k : MessageReply). k.data_start) w.header.is in
    let f : m.data_start ≡ 4 = omega arith in
    let e : start ≡ 4 + size + 2 = omega (arith, w.starts) in
    let l : length (part s start len) ≡ len = part_length s start len (omega (arith, w.here)) in
    let z : 2 * get_or s (4 + size) 0 ≡ len = ap (λ (k : ℕ). 2 * get_or s (k + size) 0) (sym f) ∙ w.sized in
    let r : start - 1 ≡ 4 + size + 1 = omega arith in
    record {
      service = ap (λ (k : MessageReply). k.reply_service) w.header.is;
      general = no_fault (get_or s 2 0) (status_at s).extended (ap (λ (k : MessageReply). is_ok k.status) w.header.is ∙ w.served);
      words = n;
      starts = e;
      sized = omega arith;
      reserved = ap (λ (k : ℕ). get_or s k 0) (sym r) ∙ p.second;
      fields_are = ap (fields s) (sym f) ∙ w.fields_are;
      here = w.here;
    }

-- what was read is a record, its application data, and what follows it
module _ (s : List ℕ) (start len : ℕ) (F G : List Field) (b : Bytes s) (here : start + len ≤ length s) (wide : start ≡ widths F)
    (same : fields_at F s 0 ≡ G) where
  again : s ≡ (laid G ++ part s start len) ++ drop (start + len) s
  again =
      fields_were F G s (part s start len ++ drop (start + len) s) 0 start b (omega arith) (omega arith) same (part_split s start len)
      ∙ sym (append_assoc (laid G) (part s start len) (drop (start + len) s))

-- ---- Forward Open

pub open_reply_written_of_read : (routing : Bool) (s : List ℕ) (m : MessageReply) (o : ForwardOpenSuccess) (start len : ℕ) → Bytes s
    → read_open_reply routing s ≡ done (succeeded m o start len) → Plain s m start
    → s ≡ open_reply_bytes m.reply_service o (part s start len) ++ drop (start + len) s
unfolding open_reply_bytes
open_reply_written_of_read routing s m o start len b h p =
    let q = plain_was open_success_at 24 routing s m o start len h p in
    again s start len (header_fields 0 success ++ (open_success_fields (open_success_at s 4) ++ app_fields []))
    (header_fields m.reply_service success ++ (open_success_fields o ++ app_fields (part s start len))) b q.here q.starts
    (rw (q.service, p.first, q.general, q.words, q.sized, q.reserved, ← q.fields_are))

-- ---- Forward Close

pub close_reply_written_of_read : (routing : Bool) (s : List ℕ) (m : MessageReply) (c : ForwardCloseSuccess) (start len : ℕ) → Bytes s
    → read_close_reply routing s ≡ done (succeeded m c start len) → Plain s m start
    → s ≡ close_reply_bytes m.reply_service c (part s start len) ++ drop (start + len) s
unfolding close_reply_bytes
close_reply_written_of_read routing s m c start len b h p =
    let q = plain_was close_success_at 8 routing s m c start len h p in
    again s start len (header_fields 0 success ++ (close_success_fields (close_success_at s 4) ++ app_fields []))
    (header_fields m.reply_service success ++ (close_success_fields c ++ app_fields (part s start len))) b q.here q.starts
    (rw (q.service, p.first, q.general, q.words, q.sized, q.reserved, ← q.fields_are))

-- ---- failure: where the byte behind the service is zero

pub record FailureWas (routing : Bool) (s : List ℕ) (m : MessageReply) (f : ForwardRequestFail) : Type 0 where
  pub header : Header s m
  pub fields_are : fail_at routing s m.data_start ≡ f
  pub here : m.data_start + fail_size routing ≤ length s

pub failure_was : {A : Type 0} (fields : List ℕ → ℕ → A) (size : ℕ) (routing : Bool) (s : List ℕ) (m : MessageReply) (f : ForwardRequestFail)
    → read_reply fields size routing s ≡ done (failed m f) → FailureWas routing s m f
unfolding read_reply reply_data read_fail
failure_was {A} fields size routing s m f h =
    let v = then_were _ _ _ h in
    go v.found v.is (is_ok v.found.status) refl v.then
  where
    go : (n : MessageReply) → read_header s ≡ done n → (t : Bool) → is_ok n.status ≡ t → reply_data fields size routing s n ≡ done (failed m f)
        → FailureWas routing s m f
    go n is true e g =
        let w = then_were (app_data s (n.data_start + size)) _ (failed m f) (rw e at g) in
        let q = w.then in
        absurd (let z : ◌≡◌ {A = ℕ} 0 1 = cc in omega arith)
    go n is false e g =
        let w = then_were (read_fail routing s n.data_start) _ (failed m f) (rw e at g) in
        let u = all_were _ _ w.found w.is in
        let q = done_same w.then in
        let a : n ≡ m = cc in
        let b : w.found ≡ f = cc in
        rw (← a) (record { header = header_was s n is; fields_are = done_same u.1 ∙ b; here = u.0.0 })

header_again : (s : List ℕ) → Bytes s → data_from s ≤ length s → get_or s 3 0 ≤ most_words → get_or s 1 0 ≡ 0
    → laid (header_fields (get_or s 0 0) (status_at s)) ++ drop (data_from s) s ≡ s
header_again s b l few z = go (get_or s 3 0) refl
  where
    go : (n : ℕ) → get_or s 3 0 ≡ n → laid (header_fields (get_or s 0 0) (status_at s)) ++ drop (data_from s) s ≡ s
    go zero e =
        sym (fields_were (header_fields 0 (record { general = 0; extended = None })) (header_fields (get_or s 0 0) (status_at s)) s (drop (data_from s) s) 0 (data_from s) b (omega arith) l (rw (e, z)) refl)
    go (suc n) e =
        let v : Option ℕ = Some (value_of 2 (drop 4 s)) in
        let o : get_or s 3 0 ≡ 1 = omega arith in
        let w : (status_at s).extended ≡ v = sym (pick_past (get_or s 3 0) 0 None v v (λ q. omega arith) refl) in
        sym (fields_were (header_fields 0 (record { general = 0; extended = Some 0 })) (header_fields (get_or s 0 0) (status_at s)) s (drop (data_from s) s) 0 (data_from s) b (omega arith) l (rw (w, o, z)) refl)

fail_again : (routing : Bool) (s : List ℕ) (at : ℕ) → Bytes s → at + fail_size routing ≤ length s
    → laid (failure_fields (fail_at routing s at)) ++ drop (at + fail_size routing) s ≡ drop at s
fail_again routing s at b l = go routing l
  where
    four : value_of 4 (drop (at + 2 + 2) s) ≡ value_of 4 (drop (at + 4) s)
    four = let n : at + 2 + 2 ≡ at + 4 = omega arith in ap (λ (k : ℕ). value_of 4 (drop k s)) n

    eight : get_or s (at + 2 + 2 + 4) 0 ≡ get_or s (at + 8) 0
    eight = let n : at + 2 + 2 + 4 ≡ at + 8 = omega arith in ap (λ (k : ℕ). get_or s k 0) n

    go : (t : Bool) → at + fail_size t ≤ length s → laid (failure_fields (fail_at t s at)) ++ drop (at + fail_size t) s ≡ drop at s
    go false h = let F : List Field = failure_fields (fail_at false s at) in sym (fields_were F F s (drop (at + 8) s) at (at + 8) b (omega arith) h (rw four) refl)
    go true h = let F : List Field = failure_fields (fail_at true s at) in sym (fields_were F F s (drop (at + 9) s) at (at + 9) b (omega arith) h (rw (four, eight)) refl)

pub failure_written_of_read : {A : Type 0} (fields : List ℕ → ℕ → A) (size : ℕ) (routing : Bool) (s : List ℕ) (m : MessageReply) (f : ForwardRequestFail) → Bytes s
    → read_reply fields size routing s ≡ done (failed m f) → get_or s 1 0 ≡ 0
    → s ≡ failure_bytes m.reply_service m.status f ++ drop (m.data_start + fail_size routing) s
unfolding failure_bytes
failure_written_of_read fields size routing s m f b h z =
    let w : FailureWas routing s m f = failure_was fields size routing s m f h in
    let v : Header s m = w.header in
    let H : List Field = header_fields m.reply_service m.status in
    let at : ℕ = m.data_start in
    let rest : List ℕ = drop (at + fail_size routing) s in
    let x : laid H ++ drop at s ≡ s
    = ap (λ (k : MessageReply). laid (header_fields k.reply_service k.status) ++ drop k.data_start s) (sym v.is) ∙ header_again s b v.inside v.few z in
    let y : laid (failure_fields f) ++ rest ≡ drop at s
    = ap (λ (g : ForwardRequestFail). laid (failure_fields g) ++ rest) (sym w.fields_are) ∙ fail_again routing s at b w.here in
    sym x
    ∙ ap (λ (l : List ℕ). laid H ++ l) (sym y)
    ∙ sym (append_assoc (laid H) (laid (failure_fields f)) rest)
    ∙ ap (λ (l : List ℕ). l ++ rest) (sym (joined_append bytes_of H (failure_fields f)))
