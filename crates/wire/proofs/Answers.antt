-- Answers: each has one form in the code, and a writer's ends. Assumes nothing.
use Prim.Native.Nat.{ℕ, ◌+◌, ◌-◌, ◌≤◌, ◌<◌}
use mathlib.Core.Path.{◌≡◌, refl, sym, ap, ◌∙◌}
use mathlib.Core.List.{List, [], ◌∷◌}
use native.Mathlib.Nat.{zero-add, add_assoc}
use native.Mathlib.Omega.{arith}
use lib.ListN.{length, get_or}
use lib.Seq.{sets}
use Rattle.std.specs.declared.result.Result.{Result}
use Rattle.std.specs.declared.result.Result.TheVariants.{Ok, Err}
use Rattle.wire.specs.Refusals.{number}
use Rattle.wire.specs.Answers.{Answer, done, refused, paper, under, plus, with_room, written}
use Rattle.wire.specs.declared.Refusal.{Refusal}
use Rattle.wire.specs.declared.Refusal.TheVariants.{Short, Room, Limit, Code, Form, Words, Offset, Leftover, Depth, Envelope, Outside}
use Rattle.wire.proofs.Rules.{rules, never, done_same, all_keep, all_were}
use Rattle.wire.proofs.Stores.{sets_overlay}

-- ---- document 01's numbers tell refusals, and so answers, apart

-- what can be read back from its form tells itself apart by it
pub one_by : {A B : Type 0} (form : A → B) (back : B → A) → ((x : A) → back (form x) ≡ x) → (x y : A) → form x ≡ form y → x ≡ y
one_by form back is x y e = sym (is x) ∙ ap back e ∙ is y

pub refusal_of : ℕ → Refusal
refusal_of n = get_or (Short ∷ Room ∷ Limit ∷ Code ∷ Form ∷ Words ∷ Offset ∷ Leftover ∷ Depth ∷ Envelope ∷ Outside ∷ []) (n - 1) Outside

pub number_back : (e : Refusal) → refusal_of (number e) ≡ e
unfolding refusal_of
number_back = elim [ Short ↦ refl | Room ↦ refl | Limit ↦ refl | Code ↦ refl | Form ↦ refl | Words ↦ refl | Offset ↦ refl | Leftover ↦ refl | Depth ↦ refl | Envelope ↦ refl | Outside ↦ refl ]

pub number_one : (a b : Refusal) → number a ≡ number b → a ≡ b
number_one = one_by number refusal_of number_back

-- an answer of the code, from its form on paper
abbrev pub from_paper : {A : Type 0} → Answer A → Result A Refusal
from_paper (done x) = Ok x
from_paper (refused k) = Err (refusal_of k)

pub answer_one : {A : Type 0} (a b : Result A Refusal) → paper a ≡ paper b → a ≡ b
answer_one = one_by paper from_paper (elim [ Ok x ↦ refl | Err e ↦ ap Err (number_back e) ])

-- ---- sums

pub plus_none : (y : Answer ℕ) → plus (done 0) y ≡ y
plus_none (done k) = ap done (zero-add k)
plus_none (refused k) = refl

pub plus_assoc : (x y z : Answer ℕ) → plus (plus x y) z ≡ plus x (plus y z)
plus_assoc (done a) (done b) (done c) = ap done (add_assoc a b c)
plus_assoc (done a) (done b) (refused k) = refl
plus_assoc (done a) (refused k) z = refl
plus_assoc (refused k) y z = refl

pub record Parts (x y : Answer ℕ) (n : ℕ) : Type 0 where
  pub first : ℕ
  pub second : ℕ
  pub first_is : x ≡ done first
  pub second_is : y ≡ done second
  pub sum : n ≡ first + second

pub plus_parts : (x y : Answer ℕ) (n : ℕ) → plus x y ≡ done n → Parts x y n
plus_parts (done a) (done b) n h = record { first = a; second = b; first_is = refl; second_is = refl; sum = cc }
plus_parts (done a) (refused k) n h = never h
plus_parts (refused k) y n h = never h

-- ---- room

pub room_kept : (y : Answer ℕ) (room n : ℕ) → y ≡ done n → n ≤ room → with_room y room ≡ done n
room_kept y room n e h = ap (λ (x : Answer ℕ). with_room x room) e ∙ all_keep (under room n 2 ∷ []) (done n) (h, tt)

pub room_was : (y : Answer ℕ) (room n : ℕ) → with_room y room ≡ done n → (y ≡ done n) × (n ≤ room)
room_was (done m) room n h =
    let w = all_were (under room m 2 ∷ []) (done m) n h in
    (w.1, omega (arith, w.0.0, done_same w.1))
room_was (refused k) room n h = never h

-- ---- the three ends of a writer that sized its bytes as y: what it answers, and what the lent output then holds
module _ (y : Answer ℕ) (bytes old : List ℕ) (r : Result ℕ Refusal) (is : paper r ≡ y) where
  after : (w : Answer ℕ) {new : List ℕ} → w ≡ with_room y (length old) → new ≡ written w bytes old → new ≡ written (with_room y (length old)) bytes old
  after w e b = b ∙ ap (λ (x : Answer ℕ). written x bytes old) e

  pub refused_answer : (e : Refusal) → r ≡ Err e → refused (number e) ≡ with_room y (length old)
  refused_answer e h = ap (λ (x : Answer ℕ). with_room x (length old)) (sym (ap paper h) ∙ is)

  pub refused_bytes : (e : Refusal) → r ≡ Err e → old ≡ written (with_room y (length old)) bytes old
  refused_bytes e h = after (refused (number e)) (refused_answer e h) refl

  module _ (n : ℕ) (h : r ≡ Ok n) where
    fits : done n ≡ y
    fits = sym (ap paper h) ∙ is

    pub full_answer : length old < n → refused 2 ≡ with_room y (length old)
    full_answer l =
        let z : refused 2 ≡ with_room (done n) (length old) = search rules in
        z ∙ ap (λ (x : Answer ℕ). with_room x (length old)) fits

    pub full_bytes : length old < n → old ≡ written (with_room y (length old)) bytes old
    full_bytes l = after (refused 2) (full_answer l) refl

    pub written_answer : n ≤ length old → done n ≡ with_room y (length old)
    written_answer l =
        let z : done n ≡ with_room (done n) (length old) = search rules in
        z ∙ ap (λ (x : Answer ℕ). with_room x (length old)) fits

    pub written_bytes : (new : List ℕ) → n ≤ length old → n ≡ length bytes → new ≡ sets old 0 bytes → new ≡ written (with_room y (length old)) bytes old
    written_bytes new l s e = after (done n) (written_answer l) (e ∙ sets_overlay old bytes (omega arith))

pub ruleset writer_laws = (refused_answer, refused_bytes, full_answer, full_bytes, written_answer, written_bytes)
