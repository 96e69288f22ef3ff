-- Each public function takes every argument, and its contract leaves one answer.
-- Assumes nothing.
use mathlib.Core.Path.{◌≡◌, refl, ap}
use Rattle.std.specs.Prelude.{Result, Ok, Err}
use Rattle.exact.specs.Exact.{Exact, exact, says, same}
use Rattle.wire.specs.Answers.{Answer, done, refused}
use Rattle.wire.specs.declared.Refusal.{Refusal}
use Rattle.wire.proofs.Answers.{one_by, number_back, refusal_of}
use Rattle.open_read.specs.Reads.{Opened, opened, paper_open}
use Rattle.open_read.specs.declared.OpenRead.{OpenRead}
use Rattle.open_read.specs.contracts.read_forward_open

-- ---- an answer's form on paper says which answer it is

from_open : Answer Opened → Result OpenRead Refusal
from_open (done (opened o k n)) = Ok (record { options = o; path_start = k; path_len = n })
from_open (refused k) = Err (refusal_of k)

pub open_one : (a b : Result OpenRead Refusal) → paper_open a ≡ paper_open b → a ≡ b
unfolding from_open
open_one = one_by paper_open from_open (elim [ Ok r ↦ refl | Err e ↦ ap Err (number_back e) ])

-- ---- the reader

pub read_forward_open_exact : Exact read_forward_open.ended (λ _ _. read_forward_open.clauses)
read_forward_open_exact = exact (λ w κs a. (tt, λ m. tt)) (λ w κs a g z e. search says) (λ t. (open_one t.z t.z' (same t.said t.said'), refl))
