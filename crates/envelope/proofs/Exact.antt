-- The public function takes every argument, and its contract leaves one answer.
-- Assumes nothing.
use mathlib.Core.Path.{◌≡◌, refl, ap}
use Rattle.exact.specs.Exact.{Exact, exact, says, same}
use Rattle.std.specs.Prelude.{Result, Ok, Err}
use Rattle.wire.specs.Answers.{Answer, done, refused}
use Rattle.wire.specs.declared.Refusal.{Refusal}
use Rattle.wire.proofs.Answers.{one_by, refusal_of, number_back}
use Rattle.envelope.specs.Envelopes.{Held, unconnected, connected, paper_envelope}
use Rattle.envelope.specs.declared.EnvelopeRead.{EnvelopeRead}
use Rattle.envelope.specs.declared.EnvelopeRead.TheVariants.{Unconnected, Connected}
use Rattle.envelope.specs.contracts.read_envelope

-- an answer's form on paper says which answer it is
read_of : Answer Held → Result EnvelopeRead Refusal
read_of (done (unconnected k n)) = Ok (Unconnected k n)
read_of (done (connected c k n)) = Ok (Connected c k n)
read_of (refused k) = Err (refusal_of k)

read_back : (r : Result EnvelopeRead Refusal) → read_of (paper_envelope r) ≡ r
unfolding read_of
read_back (Ok (Unconnected k n)) = refl
read_back (Ok (Connected c k n)) = refl
read_back (Err e) = ap Err (number_back e)

pub envelope_one : (a b : Result EnvelopeRead Refusal) → paper_envelope a ≡ paper_envelope b → a ≡ b
envelope_one = one_by paper_envelope read_of read_back

pub read_envelope_exact : Exact read_envelope.ended (λ _ _. read_envelope.clauses)
read_envelope_exact = exact (λ w κs a. (tt, λ m. tt)) (λ w κs a g z e. search says) (λ t. (envelope_one t.z t.z' (same t.said t.said'), refl))
