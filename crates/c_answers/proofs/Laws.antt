-- Laws of answers as numbers, and of filled runs. Assumes nothing.
use Prim.Native.Nat.{ℕ, ◌+◌, ◌≤◌, ◌<◌}
use mathlib.Core.Path.{◌≡◌, refl, sym, ap, ◌∙◌, subst}
use mathlib.Core.List.{List, ◌++◌}
use native.Mathlib.Nat.{zero-add}
use native.Mathlib.Omega.{arith}
use lib.ListN.{length, drop, get_or, set}
use Rattle.std.specs.Prelude.{Result, Ok, Err}
use Rattle.wire.specs.Refusals.{number}
use Rattle.wire.specs.Parts.{overlay}
use Rattle.wire.specs.Answers.{Answer, done, refused, paper, with_room, written}
use Rattle.wire.proofs.Rules.{rules}
use Rattle.wire.proofs.Answers.{room_kept, room_was}
use Rattle.wire.proofs.Stores.{Copying, copy_first, copy_more, copy_ends, run_whole}
use Rattle.c_answers.specs.Codes.{two_to63, code, run_answer, run_left, run_of, Told}
use Rattle.wire.specs.declared.Refusal.{Refusal}
use Rattle.wire.specs.declared.Refusal.TheVariants.{Short, Room, Limit, Code, Form, Words, Offset, Leftover, Depth, Envelope, Outside}

pub number_known : (e : Refusal) → (1 ≤ number e) × (number e ≤ 11)
number_known Short = (omega arith, omega arith)
number_known Room = (omega arith, omega arith)
number_known Limit = (omega arith, omega arith)
number_known Code = (omega arith, omega arith)
number_known Form = (omega arith, omega arith)
number_known Words = (omega arith, omega arith)
number_known Offset = (omega arith, omega arith)
number_known Leftover = (omega arith, omega arith)
number_known Depth = (omega arith, omega arith)
number_known Envelope = (omega arith, omega arith)
number_known Outside = (omega arith, omega arith)

-- ---- an answer as a number

-- what another function answers, handed on as a number
pub code_told : (x y : Answer ℕ) (r : ℕ) → r ≡ code x → x ≡ y → r ≡ code y
code_told x y r e h = e ∙ ap code h

pub code_done : (n : ℕ) (y : Answer ℕ) → done n ≡ y → n ≡ code y
code_done n y h = ap code h

pub ruleset told_laws = (code_told, code_done)

-- ---- the loop that fills a run
pub copy_next : (old src : List ℕ) (n : ℕ) (out : List ℕ) (i : ℕ) → Copying old 0 src n out i → i < n → n ≤ length src
    → Copying old 0 src n (set out i (get_or src i 0)) (i + 1)
copy_next old src n out i w h g = subst (λ (k : ℕ). Copying old 0 src n (set out k (get_or src i 0)) (i + 1)) (zero-add i) (copy_more old 0 src n out i w h g)

pub ruleset front_laws = (copy_next, copy_first, copy_ends, run_whole)

-- ---- a run is filled where it has room
module _ (src old : List ℕ) where
  pub fill_full : (r : ℕ) → length old < length src → r ≡ code (refused 2) → r ≡ code (with_room (done (length src)) (length old))
  fill_full r l e = let z : refused 2 ≡ with_room (done (length src)) (length old) = search rules in e ∙ ap code z

  pub fill_kept : length old < length src → old ≡ written (with_room (done (length src)) (length old)) src old
  fill_kept l = let z : refused 2 ≡ with_room (done (length src)) (length old) = search rules in ap (λ (x : Answer ℕ). written x src old) z

  pub fill_size : length src ≤ length old → length src ≡ code (with_room (done (length src)) (length old))
  fill_size l = ap code (sym (room_kept (done (length src)) (length old) (length src) refl l))

  pub fill_stored : (front : List ℕ) → length src ≤ length old → front ≡ src → front ++ drop (length src) old ≡ written (with_room (done (length src)) (length old)) src old
  unfolding overlay
  fill_stored front l e =
      ap (λ (z : List ℕ). z ++ drop (length src) old) e
      ∙ ap (λ (x : Answer ℕ). written x src old) (sym (room_kept (done (length src)) (length old) (length src) refl l))

pub ruleset fill_laws = (fill_full, fill_kept, fill_size, fill_stored)

-- ---- the ends of a function for C that hands on what another answers

-- a reader of any answers, whose numbers f are told: it answered w, which says x, and w is y
module _ {A R : Type 0} (paper : R → Answer A) (f : A → List ℕ) (x : Answer A) (old : List ℕ) (w y : R) (is : paper w ≡ x) (h : w ≡ y) where
  meant : run_of f (paper y) ≡ run_of f x
  meant = ap (λ (z : R). run_of f (paper z)) (sym h) ∙ ap (run_of f) is

  pub told_answer : (r : ℕ) → r ≡ code (run_answer (run_of f (paper y)) old) → r ≡ code (run_answer (run_of f x) old)
  told_answer r e = e ∙ ap (λ (a : Answer (List ℕ)). code (run_answer a old)) meant

  pub told_left : (new : List ℕ) → new ≡ run_left (run_of f (paper y)) old → new ≡ run_left (run_of f x) old
  told_left new e = e ∙ ap (λ (a : Answer (List ℕ)). run_left a old) meant

  -- another function made the numbers
  module _ (src : List ℕ) (n : done src ≡ run_of f (paper y)) where
    pub made_answer : (r : ℕ) → r ≡ code (with_room (done (length src)) (length old)) → r ≡ code (run_answer (run_of f x) old)
    made_answer r e = e ∙ ap (λ (a : Answer (List ℕ)). code (run_answer a old)) (n ∙ meant)

    pub made_left : (new : List ℕ) → new ≡ written (with_room (done (length src)) (length old)) src old → new ≡ run_left (run_of f x) old
    made_left new e = e ∙ ap (λ (a : Answer (List ℕ)). run_left a old) (n ∙ meant)

-- the same, each end by itself
module _ {A R : Type 0} (paper : R → Answer A) (f : A → List ℕ) (x : Answer A) (old : List ℕ) (w : R) (is : paper w ≡ x) where
  module _ (k : ℕ) (h : paper w ≡ refused k) where
    pub run_refused : (r : ℕ) → r ≡ code (refused k) → r ≡ code (run_answer (run_of f x) old)
    run_refused = told_answer (λ a. a) f x old (paper w) (refused k) is h

    pub run_kept : old ≡ run_left (run_of f x) old
    run_kept = told_left (λ a. a) f x old (paper w) (refused k) is h old refl

  module _ (v : A) (src : List ℕ) (h : paper w ≡ done v) (n : src ≡ f v) where
    pub run_answer_lem : (r : ℕ) → r ≡ code (with_room (done (length src)) (length old)) → r ≡ code (run_answer (run_of f x) old)
    run_answer_lem = made_answer (λ a. a) f x old (paper w) (done v) is h src (ap done n)

    pub run_stored : (new : List ℕ) → new ≡ written (with_room (done (length src)) (length old)) src old → new ≡ run_left (run_of f x) old
    run_stored = made_left (λ a. a) f x old (paper w) (done v) is h src (ap done n)

-- answers that are told apart have numbers of their own
pub told_apart : (x y : Answer ℕ) → Told x → Told y → code x ≡ code y → x ≡ y
told_apart (done m) (done n) a b h = ap done h
told_apart (done m) (refused k) a b h = absurd (omega (arith, b.0, b.1))
told_apart (refused k) (done m) a b h = absurd (omega (arith, a.0, a.1))
told_apart (refused j) (refused k) a b h = ap refused (omega (arith, a.0, a.1, b.0, b.1))

-- what a writer answers is told apart, as long as it was lent less than half of all that can be numbered
pub wrote_told : (w : Result ℕ Refusal) (y : Answer ℕ) (room : ℕ) → paper w ≡ with_room y room → room < two_to63 → Told (with_room y room)
wrote_told (Ok n) y room h l =
    let f : (y ≡ done n) × (n ≤ room) = room_was y room n (sym h) in
    let g : n ≤ room = f.1 in
    let t : n < two_to63 = omega arith in
    subst Told h t
wrote_told (Err e) y room h l = subst Told h (number_known e)

-- so is a count below that half
pub counted_told : (c : Result ℕ Refusal) → ((n : ℕ) → c ≡ Ok n → n < two_to63) → Told (paper c)
counted_told (Ok n) f = f n refl
counted_told (Err e) f = number_known e
