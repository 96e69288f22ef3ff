-- Laws of stores in a row and of parts that are lent, over any element. Assumes nothing.
use mathlib.Core.Path.{◌≡◌, refl, sym, ap, ◌∙◌}
use mathlib.Core.List.{List, [], ◌∷◌, ◌++◌, append-nil}
use Prim.Native.Nat.{ℕ, zero, suc, ◌+◌, ◌*◌, ◌/◌, ◌%◌, ◌-◌, ◌≤◌, ◌<◌}
use native.Mathlib.Nat.{add-zero, zero-add, add-suc, suc-add, le-add_right, le_of_lt, add-sub_cancel_left, mul-add-div, div-div-eq-div-mul}
use native.Mathlib.Numerals.{add-one}
use native.Mathlib.Omega.{arith}
use lib.ListN.{length, take, drop, set, get_or, length-set, length-drop, take-append-drop, drop_of_length-le}
use lib.Seq.{sets, take-set-le, drop-set-add, sets-eq, length-sets, length-take-le, take-suc, take_all, set_comm, set_out, take-append_seam, drop-append_seam, drop-drop}
use Rattle.wire.specs.Numbers.{low_first}
use Rattle.wire.specs.Parts.{part, overlay}

module _ {A : Type 0} where
  -- two runs, the second where the first ends, are one run
  pub sets_append : (l a b : List A) (n : ℕ) → sets (sets l n a) (n + length a) b ≡ sets l n (a ++ b)
  sets_append l [] b n = ap (λ (k : ℕ). sets l k b) (add-zero n)
  sets_append l (x ∷ a) b n =
      ap (λ (k : ℕ). sets (sets (set l n x) (suc n) a) k b) (add-suc n (length a) ∙ sym (suc-add n (length a)))
      ∙ sets_append (set l n x) a b (suc n)

  -- a store where the run before it ends
  pub sets_onto : (old x y a b : List A) (n at : ℕ) → x ≡ sets old n a → at ≡ n + length a → y ≡ sets x at b → y ≡ sets old n (a ++ b)
  sets_onto old x y a b n at e h f = f ∙ ap (λ (k : ℕ). sets x k b) h ∙ ap (λ (l : List A). sets l (n + length a) b) e ∙ sets_append old a b n

  -- a run that begins past n changes only what is past n
  pub sets_part : (l a : List A) (n i : ℕ) → sets l (n + i) a ≡ take n l ++ sets (drop n l) i a
  sets_part l [] n i = sym (take-append-drop n l)
  sets_part l (x ∷ a) n i =
      ap (λ (k : ℕ). sets (set l (n + i) x) k a) (sym (add-suc n i))
      ∙ sets_part (set l (n + i) x) a n (suc i)
      ∙ ap (λ (t : List A). t ++ sets (drop n (set l (n + i) x)) (suc i) a) (take-set-le n l (n + i) x (le-add_right n i))
      ∙ ap (λ (d : List A). take n l ++ sets d (suc i) a) (drop-set-add n l i x)

  -- a run past the end changes nothing
  pub sets_past : (l a : List A) (n : ℕ) → length l ≤ n → sets l n a ≡ l
  sets_past l [] n h = refl
  sets_past l (x ∷ a) n h = ap (λ (d : List A). sets d (suc n) a) (set_out l n x h) ∙ sets_past l a (suc n) (omega arith)

  -- of a run that goes past the end only the front is stored
  pub sets_front : (l a : List A) (n k : ℕ) → length l ≤ n + k → k ≤ length a → sets l n (take k a) ≡ sets l n a
  sets_front l a n k h g =
      let e : length (take k a) ≡ k = length-take-le k a g in
      let p : length (sets l n (take k a)) ≤ n + length (take k a) = omega (arith, length-sets l n (take k a)) in
      sym (sets_past (sets l n (take k a)) (drop k a) (n + length (take k a)) p)
      ∙ sets_append l (take k a) (drop k a) n
      ∙ ap (λ (d : List A). sets l n d) (take-append-drop k a)

  -- a turn of a loop that stores s from n on: one element more
  pub sets_more : (l s : List A) (n i : ℕ) (z : A) → i < length s → set (sets l n (take i s)) (n + i) (get_or s i z) ≡ sets l n (take (i + 1) s)
  sets_more l s n i z h =
      ap (λ (k : ℕ). set (sets l n (take i s)) (n + k) (get_or s i z)) (sym (length-take-le i s (le_of_lt h)))
      ∙ sets_append l (take i s) (get_or s i z ∷ []) n
      ∙ ap (λ (t : List A). sets l n t) (sym (take-suc s i z h))
      ∙ ap (λ (k : ℕ). sets l n (take k s)) (sym (add-one i))

  -- a store before a run may come after it
  pub set_before : (l a : List A) (n i : ℕ) (v : A) → i < n → set (sets l n a) i v ≡ sets (set l i v) n a
  set_before l [] n i v h = refl
  set_before l (x ∷ a) n i v h =
      set_before (set l n x) a (suc n) i v (omega arith)
      ∙ ap (λ (d : List A). sets d (suc n) a) (set_comm l n i x v (λ e. omega arith))

  -- so may a run before a run
  pub sets_before : (l a b : List A) (n i : ℕ) → i + length b ≤ n → sets (sets l n a) i b ≡ sets (sets l i b) n a
  sets_before l a [] n i h = refl
  sets_before l a (x ∷ b) n i h =
      ap (λ (d : List A). sets d (suc i) b) (set_before l a n i x (omega arith))
      ∙ sets_before (set l i x) a b n (suc i) (omega arith)

  -- what stands before a run may be stored after it
  pub sets_ahead : (old front rest : List A) (at : ℕ) → at ≡ length front → sets (sets old at rest) 0 front ≡ sets old 0 (front ++ rest)
  sets_ahead old front rest at e =
      sets_before old rest front at 0 (omega arith)
      ∙ ap (λ (k : ℕ). sets (sets old 0 front) k rest) (e ∙ sym (zero-add (length front)))
      ∙ sets_append old front rest 0

  -- ---- lending: a callee that is lent `&mut l[n..]` sees `take (length l - n) (drop n l)`

  -- the part is all from n on
  pub lent_all : (l : List A) (n : ℕ) → take (length l - n) (drop n l) ≡ drop n l
  lent_all l n = take_all (length l - n) (drop n l) (simp length-drop (omega arith))

  pub length_lent : (l : List A) (n : ℕ) → length (take (length l - n) (drop n l)) ≡ length l - n
  length_lent l n = ap length (lent_all l n) ∙ length-drop n l

  -- what was stored from the start of the part, said of the whole when the part is back
  pub sets_lent : (l a : List A) (n : ℕ) → take n l ++ (sets (take (length l - n) (drop n l)) 0 a ++ drop (length l - n) (drop n l)) ≡ sets l n a
  sets_lent l a n =
      ap (λ (d : List A). take n l ++ (sets d 0 a ++ drop (length l - n) (drop n l))) (lent_all l n)
      ∙ ap (λ (d : List A). take n l ++ (sets (drop n l) 0 a ++ d)) (drop_of_length-le (drop n l) {i = length l - n} (simp length-drop (omega arith)))
      ∙ ap (λ (d : List A). take n l ++ d) (append-nil (sets (drop n l) 0 a))
      ∙ sym (sets_part l a n 0)
      ∙ ap (λ (k : ℕ). sets l k a) (add-zero n)

-- ---- parts with a start and a length

-- the code's way to say a part
pub part_span : (s : List ℕ) (start len : ℕ) → take (start + len - start) (drop start s) ≡ part s start len
part_span s start len = ap (λ (k : ℕ). take k (drop start s)) (add-sub_cancel_left start len)

pub part_length : (s : List ℕ) (start len : ℕ) → len ≤ length s - start → length (part s start len) ≡ len
part_length s start len h = length-take-le len (drop start s) (rw (length-drop start s) h)

part_none : (s : List ℕ) (start len : ℕ) → length s ≤ start → part s start len ≡ []
part_none s start len h = rw (drop_of_length-le s h) (none len)
  where
    none : (k : ℕ) → take {A = ℕ} k [] ≡ []
    none zero = refl
    none (suc k) = refl

pub part_past : (s : List ℕ) (start len n : ℕ) → n ≡ length s → n ≤ start → take (n - n) (drop n s) ≡ part s start len
part_past s start len n e h =
    let z : n - n ≡ 0 = omega arith in
    rw z (sym (part_none s start len (omega arith)))

pub part_rest : (s : List ℕ) (start len n : ℕ) → n ≡ length s → n - start ≤ len → take (n - start) (drop start s) ≡ part s start len
part_rest s start len n e h =
    take_all (n - start) (drop start s) (simp length-drop (omega arith))
    ∙ sym (take_all len (drop start s) (simp length-drop (omega arith)))

-- what stands from a place on, past the first part of it
pub past_part : (s a b : List ℕ) (at : ℕ) → drop at s ≡ a ++ b → drop (at + length a) s ≡ b
past_part s a b at e = sym (drop-drop (length a) at s) ∙ ap (drop (length a)) e ∙ drop-append_seam a b

pub part_front : (s a b : List ℕ) (at : ℕ) → drop at s ≡ a ++ b → part s at (length a) ≡ a
part_front s a b at e = ap (take (length a)) e ∙ take-append_seam a b

-- a list that stands at the end
pub part_end : (s a : List ℕ) (at : ℕ) → drop at s ≡ a → part s at (length a) ≡ a
part_end s a at e = ap (take (length a)) e ∙ take_all (length a) a (omega arith)

pub part_split : (s : List ℕ) (at len : ℕ) → drop at s ≡ part s at len ++ drop (at + len) s
part_split s at len = sym (take-append-drop len (drop at s)) ∙ ap (λ (l : List ℕ). part s at len ++ l) (drop-drop len at s)

pub part_last : (s : List ℕ) (at len : ℕ) → length s ≤ at + len → part s at len ≡ drop at s
part_last s at len h = take_all len (drop at s) (simp length-drop (omega arith))

pub ruleset part_laws = (part_past, part_rest, part_span)

-- ---- what the stores' ends say

pub store_past : (l : List ℕ) (at b : ℕ) → length l ≤ at → l ≡ set l at b
store_past l at b h = sym (set_out l at b h)

pub store_two : (old a b : List ℕ) (at v : ℕ) → a ≡ set old at (v % 256) → b ≡ set a (at + 1) (v / 256 % 256) → b ≡ sets old at (low_first 2 v)
store_two old a b at v e f = rw (f, e, add-one at)

pub store_low_past : (k : ℕ) (old : List ℕ) (at v : ℕ) → length old ≤ at → old ≡ sets old at (low_first k v)
store_low_past k old at v h = sym (sets_past old (low_first k v) at h)

-- the second byte of a number's low half is that of the number
second_byte : (w : ℕ) → w % 65536 / 256 % 256 ≡ w / 256 % 256
second_byte w =
    let e : w ≡ 256 * (256 * (w / 65536)) + w % 65536 = omega arith in
    let f : w / 256 ≡ 256 * (w / 65536) + w % 65536 / 256 = ap (λ (k : ℕ). k / 256) e ∙ mul-add-div (omega arith) (256 * (w / 65536)) (w % 65536) in
    omega arith

-- the low half and the high half of four bytes
halves : (v : ℕ) → low_first 2 (v % 65536) ++ low_first 2 (v / 65536 % 65536) ≡ low_first 4 v
halves v =
    let t : v / 256 / 256 ≡ v / 65536 = div-div-eq-div-mul v 256 256 in
    let a : v % 65536 % 256 ≡ v % 256 = omega arith in
    let c : v / 65536 % 65536 % 256 ≡ v / 65536 % 256 = omega arith in
    rw (t, a, second_byte v, c, second_byte (v / 65536))

pub store_four : (old a b : List ℕ) (at v : ℕ) → a ≡ sets old at (low_first 2 (v % 65536)) → b ≡ sets a (at + 2) (low_first 2 (v / 65536 % 65536)) → b ≡ sets old at (low_first 4 v)
store_four old a b at v e f =
    sets_onto old a b (low_first 2 (v % 65536)) (low_first 2 (v / 65536 % 65536)) at (at + 2) e refl f ∙ ap (λ (l : List ℕ). sets old at l) (halves v)

pub ruleset store_laws = (store_past, store_two, store_four, store_low_past)

-- ---- a loop that copies the first n of src to `at`
pub record Copying (old : List ℕ) (at : ℕ) (src : List ℕ) (n : ℕ) (out : List ℕ) (i : ℕ) : Type 0 where
  pub most : i ≤ n
  pub is : out ≡ sets old at (take i src)
  pub same : length out ≡ length old

pub copy_first : (old : List ℕ) (at : ℕ) (src : List ℕ) (n : ℕ) → Copying old at src n old 0
copy_first old at src n = record { most = omega arith; is = refl; same = refl }

module _ (old : List ℕ) (at : ℕ) (src : List ℕ) (n : ℕ) (out : List ℕ) (i : ℕ) (w : Copying old at src n out i) where
  pub copy_more : i < n → n ≤ length src → Copying old at src n (set out (at + i) (get_or src i 0)) (i + 1)
  copy_more h g =
      record {
        most = omega arith;
        is = ap (λ (l : List ℕ). set l (at + i) (get_or src i 0)) w.is ∙ sets_more old src at i 0 (omega arith);
        same = length-set out (at + i) (get_or src i 0) ∙ w.same;
      }

  pub copy_ends : n ≤ i → out ≡ sets old at (take n src)
  copy_ends h = let e : i ≡ n = omega arith in w.is ∙ rw e

pub ruleset copy_laws = (copy_first, copy_more, copy_ends)

-- ---- the ends of a copy that may go past the end

-- a run past the end stores nothing
pub run_past : (old : List ℕ) (at : ℕ) (src : List ℕ) → length old ≤ at → old ≡ sets old at src
run_past old at src h = sym (sets_past old src at h)

module _ (old : List ℕ) (at : ℕ) (src new : List ℕ) where
  pub run_whole : new ≡ sets old at (take (length src) src) → new ≡ sets old at src
  run_whole e = e ∙ ap (λ (l : List ℕ). sets old at l) (take_all (length src) src (omega arith))

  pub run_front : length old - at < length src → new ≡ sets old at (take (length old - at) src) → new ≡ sets old at src
  run_front h e = e ∙ sets_front old src at (length old - at) (omega arith) (omega arith)

pub ruleset run_laws = (run_past, run_whole, run_front)

-- bytes stored at the front lie over it
pub sets_overlay : (old bytes : List ℕ) → length bytes ≤ length old → sets old 0 bytes ≡ overlay bytes old
unfolding overlay
sets_overlay old bytes h = sets-eq bytes old 0 (omega arith) ∙ ap (λ (k : ℕ). bytes ++ drop k old) (zero-add (length bytes))
