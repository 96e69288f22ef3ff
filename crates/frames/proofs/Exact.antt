-- Each public function takes every argument, and its contract leaves one answer, one state and one content of the buffer.
-- Assumes nothing.
use mathlib.Core.Path.{◌≡◌, refl, ap}
use Rattle.exact.specs.Exact.{Exact, exact, says, same}
use Rattle.wire.proofs.Answers.{one_by, refusal_of, number_back}
use Rattle.frames.specs.Calls.{Handed, all, frame, paper_took}
use Rattle.std.specs.Prelude.{Option, Some, None, Result, Ok, Err}
use Rattle.wire.specs.Answers.{Answer, done, refused}
use Rattle.wire.specs.declared.Refusal.{Refusal}
use Rattle.frames.specs.declared.Frame.{Frame}
use Rattle.frames.specs.contracts.reset_state
use Rattle.frames.specs.contracts.step
use Rattle.frames.specs.contracts.take_scrap
use Rattle.frames.specs.contracts.reset

-- an answer's form on paper says which answer it is
took_of : Answer Handed → Result (Option Frame) Refusal
took_of (done all) = Ok None
took_of (done (frame n k)) = Ok (Some (record { length = n; taken = k }))
took_of (refused k) = Err (refusal_of k)

took_back : (r : Result (Option Frame) Refusal) → took_of (paper_took r) ≡ r
unfolding took_of
took_back (Ok None) = refl
took_back (Ok (Some f)) = refl
took_back (Err e) = ap Err (number_back e)

pub took_one : (a b : Result (Option Frame) Refusal) → paper_took a ≡ paper_took b → a ≡ b
took_one = one_by paper_took took_of took_back

pub reset_state_exact : Exact reset_state.ended (λ _ _. reset_state.clauses)
reset_state_exact = exact (λ w κs a. (tt, λ m. tt)) (λ w κs a g z e. search says) (λ t. (same t.said t.said', refl))

pub step_exact : Exact step.ended (λ _ _. step.clauses)
step_exact = exact (λ w κs a. (tt, λ m. tt)) (λ w κs a g z e. search says) (λ t. (
  (λ i. record { state = same t.said.1.0 t.said'.1.0 i; took = took_one t.z.took t.z'.took (same t.said.0 t.said'.0) i }),
  λ i. (tt, (same t.said.1.1 t.said'.1.1 i, (tt, tt))),
))

pub take_scrap_exact : Exact take_scrap.ended (λ _ _. take_scrap.clauses)
take_scrap_exact = exact (λ w κs a. (tt, λ m. tt)) (λ w κs a g z e. search says) (λ t. (
  took_one t.z t.z' (same t.said.0 t.said'.0),
  λ i. (same t.said.1.0 t.said'.1.0 i, (same t.said.1.1 t.said'.1.1 i, (tt, tt))),
))

pub reset_exact : Exact reset.ended (λ _ _. reset.clauses)
reset_exact = exact (λ w κs a. (tt, λ m. tt)) (λ w κs a g z e. search says) (λ t. (refl, λ i. (same t.said t.said' i, tt)))
