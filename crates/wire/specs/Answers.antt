-- Answers, and rules in the order in which they are judged. Assumes nothing: these are definitions.
use Rattle.std.specs.Prelude.{ℕ, ◌+◌, ◌≤◌, ◌<◌, ◌≡◌, List, [], ◌∷◌, Bool, true, false, not, length, ltb, eqb}
use Rattle.std.proofs.lemmas.List.Edits.{sets}
use Rattle.std.specs.declared.result.Result.{Result}
use Rattle.std.specs.declared.result.Result.TheVariants.{Ok, Err}
use Rattle.wire.specs.Refusals.{number}
use Rattle.wire.specs.declared.Refusal.{Refusal}
use Rattle.wire.specs.Parts.{overlay}

-- what was asked for, or document 01's number of a refusal
pub data Answer (A : Type 0) : Type 0 where
  done : A → Answer A
  refused : ℕ → Answer A

-- what a function answers, with its refusal's number
abbrev pub paper : {A : Type 0} → Result A Refusal → Answer A
paper (Ok x) = done x
paper (Err e) = refused (number e)

-- what follows is asked only where there was no refusal
abbrev pub and_then : {A B : Type 0} → Answer A → (A → Answer B) → Answer B
and_then (done x) f = f x
and_then (refused k) f = refused k

-- ---- rules

-- `under x a e` refuses with e where x is under a, `over x a e` where x is over a, `other x a e` where x is not a
pub data Rule : Type 0 where
  under over other : ℕ → ℕ → ℕ → Rule

unfoldable pub breaks : Rule → Bool
breaks (under x a e) = ltb x a
breaks (over x a e) = ltb a x
breaks (other x a e) = not (eqb x a)

abbrev pub number_of : Rule → ℕ
number_of (under x a e) = e
number_of (over x a e) = e
number_of (other x a e) = e

-- the refusal of the first rule that is broken, else the answer
unfoldable pub judged : {A : Type 0} → List Rule → Answer A → Answer A
judged [] y = y
judged (r ∷ rs) y = elim (breaks r) [ true ↦ refused (number_of r) | false ↦ judged rs y ]

-- what a rule asks, how it is broken, and what a list of them asks
abbrev pub Keeps : Rule → Type 0
Keeps (under x a e) = a ≤ x
Keeps (over x a e) = x ≤ a
Keeps (other x a e) = x ≡ a

abbrev pub Breaks : Rule → Type 0
Breaks (under x a e) = x < a
Breaks (over x a e) = a < x
Breaks (other x a e) = x ≡ a → ⊥

abbrev pub KeepsAll : List Rule → Type 0
KeepsAll [] = Unit {0}
KeepsAll (r ∷ rs) = Keeps r × KeepsAll rs

-- ---- sizes

-- the first refusal, else the sum
abbrev pub plus : Answer ℕ → Answer ℕ → Answer ℕ
plus (done m) (done n) = done (m + n)
plus (done m) (refused k) = refused k
plus (refused k) y = refused k

-- a size that needs so much room: 2 where there is less
abbrev pub with_room : Answer ℕ → ℕ → Answer ℕ
with_room (done n) room = judged (under room n 2 ∷ []) (done n)
with_room (refused k) room = refused k

-- what the lent output holds after a writer's answer: its bytes and then what was there, or all as it was
abbrev pub written : Answer ℕ → List ℕ → List ℕ → List ℕ
written (done n) bytes old = overlay bytes old
written (refused k) bytes old = old

-- a size that is at most so much: 3 past it
abbrev pub within_limit : ℕ → ℕ → Answer ℕ
within_limit most n = judged (over n most 3 ∷ []) (done n)

-- the number of an answer, 0 of a refusal
abbrev pub or_zero : Answer ℕ → ℕ
or_zero (done n) = n
or_zero (refused k) = 0

-- ---- what a function that stores bytes at the front of a list leaves: how many there were, and the list

pub record Put (bytes old : List ℕ) (r : ℕ) (new : List ℕ) : Type 0 where
  pub size : r ≡ length bytes
  pub stored : new ≡ sets old 0 bytes

-- the same of bytes from a place on: where they end, and the list

pub record PutAt (at : ℕ) (bytes old : List ℕ) (r : ℕ) (new : List ℕ) : Type 0 where
  pub ends : r ≡ at + length bytes
  pub stored : new ≡ sets old at bytes
