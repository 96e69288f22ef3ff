-- What a user may rely on of Forward Open and Forward Close replies: what was written is read, whatever follows it. Assumes nothing.
use Prim.Native.Nat.{ℕ, ◌+◌, ◌*◌, ◌/◌, ◌%◌, ◌≤◌, ◌<◌}
use mathlib.Core.Path.{◌≡◌, refl, sym, ap, ◌∙◌}
use mathlib.Core.List.{List, [], ◌∷◌, ◌++◌, append_assoc}
use native.Mathlib.Nat.{zero-add}
use mathlib.Core.Bool.{Bool, true, false}
use native.Mathlib.Omega.{arith}
use lib.ListN.{length, get_or, drop, length-append}
use Rattle.std.specs.Prelude.{Option, Some, None}
use Rattle.wire.specs.Numbers.{value_of}
use Rattle.wire.specs.Parts.{part}
use Rattle.wire.specs.Answers.{done, under}
use Rattle.wire.specs.Records.{Field, bytes_of, laid, widths, AllHold, fields_at}
use Rattle.wire.proofs.Rules.{all_keep, then_done}
use Rattle.wire.proofs.Choice.{pick_past}
use Rattle.wire.proofs.Folds.{joined_append}
use Rattle.wire.proofs.Records.{field, fields_back, laid_size, past_laid}
use Rattle.wire.proofs.Stores.{part_front}
use Rattle.connection.specs.Limits.{max_record, max_app_data}
use Rattle.connection.specs.declared.ForwardOpenSuccess.{ForwardOpenSuccess}
use Rattle.connection.specs.declared.ForwardCloseSuccess.{ForwardCloseSuccess}
use Rattle.connection.specs.declared.ForwardRequestFail.{ForwardRequestFail}
use Rattle.connection_words.specs.Requests.{triad}
use Rattle.statuses.specs.Statuses.{is_ok}
use Rattle.statuses.specs.Layouts.{header_fields}
use Rattle.statuses.specs.declared.Status.{Status}
use Rattle.reply_header.specs.Headers.{read_header}
use Rattle.reply_header.specs.declared.MessageReply.{MessageReply}
use Rattle.success_encode.specs.Replies.{success, app_fields, open_success_fields, close_success_fields, open_reply_bytes, close_reply_bytes}
use Rattle.failure_encode.specs.Failures.{remaining_fields, failure_fields, failure_bytes}
use Rattle.reply_read.specs.Reads.{app_data, fail_size, remaining_at, fail_at, read_fail, reply_data, read_reply, open_success_at, close_success_at}
use Rattle.reply_read.specs.declared.Reply.TheVariants.{Success as succeeded, Failure as failed}
use Rattle.reply_theorems.proofs.Headers.{headed, WordFits, header_read_of_written}

-- ---- application data that a writer takes

pub record AppFits (app : List ℕ) : Type 0 where
  pub short : length app ≤ max_app_data
  pub even : length app % 2 ≡ 0

words_small : (app : List ℕ) → AppFits app → length app / 2 < 256
words_small app f = omega (arith, f.short)

app_back : (s app : List ℕ) (at : ℕ) → AppFits app → at + 2 + length app ≤ length s → get_or s at 0 ≡ length app / 2 → app_data s at ≡ done (length app)
unfolding app_data
app_back s app at f l e =
    let n : 2 * get_or s at 0 ≡ length app = omega (arith, f.even) in
    all_keep _ _ (omega arith, (omega arith, tt)) ∙ rw n

both_hold : (a b : List Field) → AllHold a → AllHold b → AllHold (a ++ b)
both_hold [] b h g = g
both_hold (x ∷ a) b h g = (h.0, both_hold a b h.1 g)

-- ---- a success, either one

-- bytes that were written, behind them whatever follows, are read as x; and where the application data is said to lie it lies
pub record SuccessBack {A : Type 0} (fields : List ℕ → ℕ → A) (size : ℕ) (routing : Bool) (service : ℕ) (x : A) (bytes app rest : List ℕ) : Type 0 where
  pub read : read_reply fields size routing (bytes ++ rest)
      ≡ done (succeeded (headed service success (size + 2 + length app + length rest)) x (4 + size + 2) (length app))
  pub app_is : part (bytes ++ rest) (4 + size + 2) (length app) ≡ app

-- the fields fs of a record of `size` bytes; `from` makes the record of all fields of a reply, and the size of the application data is number i of them
module _ {A : Type 0} (fields : List ℕ → ℕ → A) (size : ℕ) (routing : Bool) (service : ℕ) (x : A) (fs : List Field) (app rest : List ℕ) where
  abbrev record_of : List Field
  record_of = header_fields service success ++ (fs ++ app_fields app)

  abbrev reply_of : List ℕ
  reply_of = (laid record_of ++ app) ++ rest

  success_back : (from : List Field → A) (i : ℕ) → from record_of ≡ x → from (fields_at record_of reply_of 0) ≡ fields reply_of 4
      → field i (fields_at record_of reply_of 0) ≡ get_or reply_of (4 + size) 0 → field i record_of ≡ length app / 2 → widths record_of ≡ 4 + size + 2
      → service < 256 → AllHold fs → AppFits app → 4 + size + 2 + length app + length rest ≤ max_record → SuccessBack fields size routing service x (laid record_of ++ app) app rest
  unfolding read_reply reply_data
  success_back from i is got there worth wide b h f small =
      let s : List ℕ = reply_of in
      let here : drop 0 s ≡ laid record_of ++ (app ++ rest) = append_assoc (laid record_of) app rest in
      let holds : AllHold record_of
      = both_hold (header_fields service success) (fs ++ app_fields app) (b, (omega arith, (omega arith, (omega arith, tt))))
      (both_hold fs (app_fields app) h (words_small app f, (omega arith, tt))) in
      let e : fields_at record_of s 0 ≡ record_of = fields_back record_of s (app ++ rest) 0 holds here in
      let l : length s ≡ 4 + size + 2 + length app + length rest = omega (arith, ap length here, laid_size record_of (app ++ rest), length-append app rest) in
      let place : 4 + size + 2 ≡ 0 + widths record_of = omega arith in
      let d : List ℕ = (laid (fs ++ app_fields app) ++ app) ++ rest in
      let n : length d ≡ size + 2 + length app + length rest = omega arith in
      record {
        read =
            then_done _ _ (headed service success (length d)) (header_read_of_written service success d tt (omega arith))
            ∙ then_done _ _ (length app) (app_back s app (4 + size) f (omega arith) (sym there ∙ ap (field i) e ∙ worth))
            ∙ rw (sym got ∙ ap from e ∙ is, n);
        app_is = part_front s app rest (4 + size + 2) (ap (λ (k : ℕ). drop k s) place ∙ past_laid s record_of (app ++ rest) 0 here);
      }

pub open_reply_read_of_written : (routing : Bool) (service : ℕ) (o : ForwardOpenSuccess) (app rest : List ℕ) → service < 256 → AllHold (open_success_fields o) → AppFits app
    → 30 + length app + length rest ≤ max_record → SuccessBack open_success_at 24 routing service o (open_reply_bytes service o app) app rest
unfolding open_reply_bytes
open_reply_read_of_written routing service o app rest =
    success_back open_success_at 24 routing service o (open_success_fields o) app rest
    (λ fs. record {
      o_t_connection_id = field 4 fs;
      t_o_connection_id = field 5 fs;
      connection_serial_number = field 6 fs;
      originator_vendor_id = field 7 fs;
      originator_serial_number = field 8 fs;
      o_t_api = field 9 fs;
      t_o_api = field 10 fs;
    })
    11 refl refl refl refl refl

pub close_reply_read_of_written : (routing : Bool) (service : ℕ) (c : ForwardCloseSuccess) (app rest : List ℕ) → service < 256 → AllHold (close_success_fields c) → AppFits app
    → 14 + length app + length rest ≤ max_record → SuccessBack close_success_at 8 routing service c (close_reply_bytes service c app) app rest
unfolding close_reply_bytes
close_reply_read_of_written routing service c app rest =
    success_back close_success_at 8 routing service c (close_success_fields c) app rest
    (λ fs. record { connection_serial_number = field 4 fs; originator_vendor_id = field 5 fs; originator_serial_number = field 6 fs })
    7 refl refl refl refl refl

-- ---- failure: read as it was written where the reader is told of a routing error exactly if the record has a remaining path size

abbrev pub has_size : Option ℕ → Bool
has_size None = false
has_size (Some w) = true

fail_wide : (f : ForwardRequestFail) → widths (failure_fields f) ≡ fail_size (has_size f.remaining_path_size)
fail_wide f = go f.remaining_path_size
  where
    go : (x : Option ℕ) → 2 + (2 + (4 + widths (remaining_fields x))) ≡ fail_size (has_size x)
    go None = refl
    go (Some w) = refl

fail_back : (s rest : List ℕ) (at : ℕ) (f : ForwardRequestFail) → AllHold (failure_fields f) → drop at s ≡ laid (failure_fields f) ++ rest
    → fail_at (has_size f.remaining_path_size) s at ≡ f
fail_back s rest at f = go f.connection_serial_number f.originator_vendor_id f.originator_serial_number f.remaining_path_size
  where
    go : (a b c : ℕ) (x : Option ℕ) → AllHold (triad a b c ++ remaining_fields x) → drop at s ≡ laid (triad a b c ++ remaining_fields x) ++ rest
        → fail_at (has_size x) s at
        ≡ record { connection_serial_number = a; originator_vendor_id = b; originator_serial_number = c; remaining_path_size = x }
    go a b c x h p =
        let F : List Field = triad a b c ++ remaining_fields x in
        let e : fields_at F s at ≡ F = fields_back F s rest at h p in
        let i : value_of 2 (drop at s) ≡ a = ap (field 0) e in
        let j : value_of 2 (drop (at + 2) s) ≡ b = ap (field 1) e in
        let n : at + 4 ≡ at + 2 + 2 = omega arith in
        let k : value_of 4 (drop (at + 4) s) ≡ c = ap (λ (q : ℕ). value_of 4 (drop q s)) n ∙ ap (field 2) e in
        rw (i, j, k, remaining x e)
      where
        remaining : (y : Option ℕ) → fields_at (triad a b c ++ remaining_fields y) s at ≡ triad a b c ++ remaining_fields y → remaining_at (has_size y) s at ≡ y
        remaining None e = refl
        remaining (Some w) e =
            let n : at + 8 ≡ at + 2 + 2 + 4 = omega arith in
            ap (λ (q : ℕ). Some (get_or s q 0)) n ∙ ap (λ (l : List Field). Some (field 3 l)) e

-- the failure and whatever follows
module _ (service : ℕ) (st : Status) (f : ForwardRequestFail) (rest : List ℕ) where
  abbrev fail_of_lem : List ℕ
  fail_of_lem = laid (header_fields service st ++ failure_fields f) ++ rest

  -- where the failure record stands
  abbrev place : ℕ
  place = widths (header_fields service st)

  split : fail_of_lem ≡ laid (header_fields service st) ++ (laid (failure_fields f) ++ rest)
  split =
      ap (λ (l : List ℕ). l ++ rest) (joined_append bytes_of (header_fields service st) (failure_fields f))
      ∙ append_assoc (laid (header_fields service st)) (laid (failure_fields f)) rest

  fail_here : drop place fail_of_lem ≡ laid (failure_fields f) ++ rest
  fail_here = ap (λ (k : ℕ). drop k fail_of_lem) (sym (zero-add place)) ∙ past_laid fail_of_lem (header_fields service st) (laid (failure_fields f) ++ rest) 0 split

  module _ {A : Type 0} (fields : List ℕ → ℕ → A) (size : ℕ) where
    pub failure_read_of_written : (st.general ≡ 0 → ⊥) → WordFits st.extended → AllHold (failure_fields f) → widths (header_fields service st) + widths (failure_fields f) + length rest ≤ max_record
        → read_reply fields size (has_size f.remaining_path_size) (failure_bytes service st f ++ rest) ≡ done (failed (headed service st (widths (failure_fields f) + length rest)) f)
    unfolding read_reply reply_data read_fail failure_bytes
    failure_read_of_written bad word h small =
        let s : List ℕ = fail_of_lem in
        let d : List ℕ = laid (failure_fields f) ++ rest in
        let routing : Bool = has_size f.remaining_path_size in
        let n : length d ≡ widths (failure_fields f) + length rest = laid_size (failure_fields f) rest in
        let l : length s ≡ place + length d = ap length split ∙ laid_size (header_fields service st) d in
        let m : MessageReply = headed service st (length d) in
        let e : read_header s ≡ done m = rw split (header_read_of_written service st d word (omega arith)) in
        let no : is_ok st ≡ false = sym (pick_past st.general 0 true false false bad refl) in
        let y : read_fail routing s place ≡ done (fail_at routing s place)
        = all_keep (under (length s) (place + fail_size routing) 1 ∷ []) (done (fail_at routing s place)) (omega (arith, fail_wide f), tt) in
        let z : reply_data fields size routing s m ≡ done (failed m (fail_at routing s place))
        = rw no (then_done (read_fail routing s place) (λ g. done (failed m g)) (fail_at routing s place) y) in
        then_done (read_header s) (reply_data fields size routing s) m e ∙ z ∙ rw (fail_back s rest place f h fail_here, n)
