-- Each public function takes every argument, and its contract leaves one answer.
-- Assumes nothing.
use mathlib.Core.Path.{◌≡◌, refl, ap}
use Rattle.std.specs.Prelude.{Result, Ok, Err}
use Rattle.exact.specs.Exact.{Exact, exact, says, same}
use Rattle.wire.specs.Answers.{Answer, done, refused}
use Rattle.wire.specs.declared.Refusal.{Refusal}
use Rattle.wire.proofs.Answers.{one_by, refusal_of, number_back}
use Rattle.close_read.specs.Reads.{Closed, closed, paper_close}
use Rattle.close_read.specs.declared.CloseRead.{CloseRead}
use Rattle.close_read.specs.contracts.read_forward_close

-- ---- an answer's form on paper says which answer it is

from_close : Answer Closed → Result CloseRead Refusal
from_close (done (closed c start len)) = Ok (record { request = c; path_start = start; path_len = len })
from_close (refused k) = Err (refusal_of k)

pub close_one : (a b : Result CloseRead Refusal) → paper_close a ≡ paper_close b → a ≡ b
unfolding from_close
close_one = one_by paper_close from_close (elim [ Ok c ↦ refl | Err e ↦ ap Err (number_back e) ])

-- ---- the reader

pub read_forward_close_exact : Exact read_forward_close.ended (λ _ _. read_forward_close.clauses)
read_forward_close_exact = exact (λ w κs a. (tt, λ m. tt)) (λ w κs a g z e. search says) (λ t. (close_one t.z t.z' (same t.said t.said'), refl))
