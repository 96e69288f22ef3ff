-- What a user may rely on of reply headers: what was written is read, the data is exactly the rest, and nothing of it is looked at. Assumes nothing.
use Prim.Native.Nat.{ℕ, zero, suc, ◌+◌, ◌-◌, ◌≤◌, ◌<◌}
use mathlib.Core.Path.{◌≡◌, refl, sym, ap, ◌∙◌}
use mathlib.Core.List.{List, [], ◌∷◌, ◌++◌}
use native.Mathlib.Omega.{arith}
use lib.ListN.{length, get_or, take, drop, length-append}
use lib.Seq.{length-take-le}
use Rattle.std.specs.Prelude.{Option, Some, None}
use Rattle.wire.specs.Numbers.{value_of, low_first}
use Rattle.wire.specs.Parts.{part}
use Rattle.wire.specs.Answers.{done}
use Rattle.wire.specs.Records.{laid, widths}
use Rattle.wire.proofs.Rules.{all_keep}
use Rattle.wire.proofs.Numbers.{value_low, value_two}
use Rattle.wire.proofs.Stores.{part_last}
use Rattle.connection.specs.Limits.{max_record}
use Rattle.statuses.specs.Layouts.{header_fields}
use Rattle.statuses.specs.declared.Status.{Status}
use Rattle.reply_header.specs.Headers.{data_from, status_at, read_header}
use Rattle.reply_header.specs.declared.MessageReply.{MessageReply}
use Rattle.reply_header.proofs.HeaderLaws.{Header, header_was}

-- a header, and behind it so many bytes of data
abbrev pub headed : ℕ → Status → ℕ → MessageReply
headed service st n = record { reply_service = service; status = st; data_start = widths (header_fields service st); data_len = n }

-- ---- read of written

-- the extended word is one that two bytes hold
abbrev pub WordFits : Option ℕ → Type 0
WordFits None = Unit {0}
WordFits (Some w) = w < 65536

pub header_read_of_written : (service : ℕ) (st : Status) (d : List ℕ) → WordFits st.extended → widths (header_fields service st) + length d ≤ max_record
    → read_header (laid (header_fields service st) ++ d) ≡ done (headed service st (length d))
unfolding read_header
header_read_of_written service st d h small = go st.general st.extended h small
  where
    go : (g : ℕ) (x : Option ℕ) → WordFits x → widths (header_fields service (record { general = g; extended = x })) + length d ≤ max_record
        → read_header (laid (header_fields service (record { general = g; extended = x })) ++ d)
        ≡ done (headed service (record { general = g; extended = x }) (length d))
    go g None f l =
        let s : List ℕ = service ∷ 0 ∷ g ∷ 0 ∷ d in
        let n : length s - 4 ≡ length d = omega arith in
        all_keep _ _ (omega arith, (omega arith, (omega arith, (omega arith, tt)))) ∙ rw n
    go g (Some w) f l =
        let s : List ℕ = service ∷ 0 ∷ g ∷ 1 ∷ (low_first 2 w ++ d) in
        let n : length s - 6 ≡ length d = omega arith in
        all_keep _ _ (omega arith, (omega arith, (omega arith, (omega arith, tt)))) ∙ rw (value_low 2 w d f, n)

-- ---- the data is exactly the rest

pub record Rest (s : List ℕ) (m : MessageReply) : Type 0 where
  pub whole : m.data_start + m.data_len ≡ length s
  pub is : part s m.data_start m.data_len ≡ drop m.data_start s

pub header_rest : (s : List ℕ) (m : MessageReply) → read_header s ≡ done m → Rest s m
header_rest s m h =
    let w : Header s m = header_was s m h in
    let l : data_from s + (length s - data_from s) ≡ length s = omega (arith, w.inside) in
    rw (← w.is) (record { whole = l; is = part_last s (data_from s) (length s - data_from s) (omega (arith, l)) })

-- ---- and nothing of it is looked at: behind the same header other data gets the same answer, but for its length

same_front : (s d : List ℕ) (k i : ℕ) → i < k → k ≤ length s → get_or (take k s ++ d) i 0 ≡ get_or s i 0
same_front s d zero i h l = absurd (omega arith)
same_front [] d (suc k) i h l = absurd (omega arith)
same_front (x ∷ s) d (suc k) zero h l = refl
same_front (x ∷ s) d (suc k) (suc i) h l = same_front s d k i (omega arith) (omega arith)

-- the extended status is the word count's and, where there is a word, the word's
extended_same : (s t : List ℕ) (n : ℕ) → get_or s 3 0 ≡ n → get_or t 3 0 ≡ n → (1 ≤ n → value_of 2 (drop 4 t) ≡ value_of 2 (drop 4 s))
    → (status_at t).extended ≡ (status_at s).extended
extended_same s t zero p q f = rw (p, q)
extended_same s t (suc n) p q f = rw (p, q, f (omega arith))

pub header_alone : (s d : List ℕ) (m : MessageReply) → read_header s ≡ done m → m.data_start + length d ≤ max_record
    → read_header (take m.data_start s ++ d)
    ≡ done (record { reply_service = m.reply_service; status = m.status; data_start = m.data_start; data_len = length d })
unfolding read_header
header_alone s d m h = let w : Header s m = header_was s m h in rw (← w.is) (go w)
  where
    go : Header s m → data_from s + length d ≤ max_record
        → read_header (take (data_from s) s ++ d)
        ≡ done (record { reply_service = get_or s 0 0; status = status_at s; data_start = data_from s; data_len = length d })
    go w small =
        let k : ℕ = data_from s in
        let t : List ℕ = take k s ++ d in
        let front : (i : ℕ) → i < k → get_or t i 0 ≡ get_or s i 0 = λ i l. same_front s d k i l w.inside in
        let a : get_or t 0 0 ≡ get_or s 0 0 = front 0 (omega arith) in
        let b : get_or t 2 0 ≡ get_or s 2 0 = front 2 (omega arith) in
        let e : get_or t 3 0 ≡ get_or s 3 0 = front 3 (omega arith) in
        let n : length t ≡ k + length d = length-append (take k s) d ∙ ap (λ (j : ℕ). j + length d) (length-take-le k s w.inside) in
        let r : length t - data_from s ≡ length d = omega arith in
        let v : 1 ≤ get_or s 3 0 → value_of 2 (drop 4 t) ≡ value_of 2 (drop 4 s)
        = λ l. sym (value_two t 4 (get_or s 4 0) (get_or s 5 0) (sym (front 4 (omega arith))) (sym (front 5 (omega arith)))) ∙ value_two s 4 (get_or s 4 0) (get_or s 5 0) refl refl in
        all_keep _ _ (omega arith, (omega arith, (omega arith, (omega (arith, w.few), tt))))
        ∙ rw (a, b, extended_same s t (get_or s 3 0) refl e v, e, r)
