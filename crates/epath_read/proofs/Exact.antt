-- The public function takes every argument, and its contract leaves one answer. Assumes nothing.
use Prim.Native.Nat.{ℕ}
use mathlib.Core.Path.{◌≡◌, refl, ap}
use Rattle.std.specs.Prelude.{Result, Ok, Err}
use Rattle.wire.specs.Answers.{Answer, done, refused}
use Rattle.wire.specs.declared.Refusal.{Refusal}
use Rattle.exact.specs.Exact.{Exact, exact, says, same}
use Rattle.wire.proofs.Answers.{one_by, number_back, refusal_of}
use Rattle.epath_read.specs.Reads.{PathFound, paper_path}
use Rattle.epath_sizes.specs.declared.Path.{Path}
use Rattle.epath_read.specs.contracts.read_path

-- an answer, from its form on paper
abbrev from_path : Answer ℕ → Path → Result Path Refusal
from_path (done n) p = Ok p
from_path (refused k) p = Err (refusal_of k)

pub path_one : (a b : Result Path Refusal) → paper_path a ≡ paper_path b → a ≡ b
path_one = one_by paper_path (λ (f : PathFound). from_path f.answer f.path) (elim [ Ok p ↦ refl | Err e ↦ ap Err (number_back e) ])

pub read_path_exact : Exact read_path.ended (λ _ _. read_path.clauses)
read_path_exact = exact (λ w κs a. (tt, λ m. tt)) (λ w κs a g z e. search says) (λ t. (path_one t.z t.z' (same t.said t.said'), refl))
