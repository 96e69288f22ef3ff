-- Each public function takes every argument, and its contract leaves one answer.
-- Assumes nothing.
use mathlib.Core.Path.{◌≡◌, refl, ap}
use Rattle.std.specs.Prelude.{Result, Ok, Err}
use Rattle.exact.specs.Exact.{Exact, exact, says, same}
use Rattle.wire.specs.Answers.{Answer, done, refused}
use Rattle.wire.specs.declared.Refusal.{Refusal}
use Rattle.wire.proofs.Answers.{one_by, number_back, refusal_of}
use Rattle.connection_words.specs.Fields.{Transport, transport, paper_transport}
use Rattle.connection_words.specs.declared.TransportRead.{TransportRead}
use Rattle.transport_words.specs.contracts.fields.transport_byte
use Rattle.transport_words.specs.contracts.fields.transport_class_trigger
use Rattle.transport_words.specs.contracts.fields.transport_of

-- ---- an answer's form on paper says which answer it is

from_transport : Answer Transport → Result TransportRead Refusal
from_transport (done (transport d t c)) = Ok (record { direction = d; trigger = t; class = c })
from_transport (refused k) = Err (refusal_of k)

pub transport_one : (a b : Result TransportRead Refusal) → paper_transport a ≡ paper_transport b → a ≡ b
unfolding from_transport
transport_one = one_by paper_transport from_transport (elim [ Ok t ↦ refl | Err e ↦ ap Err (number_back e) ])

-- ---- the byte

pub transport_byte_exact : Exact transport_byte.ended (λ _ _. transport_byte.clauses)
transport_byte_exact = exact (λ w κs a. (tt, λ m. tt)) (λ w κs a g z e. search says) (λ t. (same t.said t.said', refl))

pub transport_class_trigger_exact : Exact transport_class_trigger.ended (λ _ _. transport_class_trigger.clauses)
transport_class_trigger_exact = exact (λ w κs a. (tt, λ m. tt)) (λ w κs a g z e. search says) (λ t. (same t.said t.said', refl))

pub transport_of_exact : Exact transport_of.ended (λ _ _. transport_of.clauses)
transport_of_exact = exact (λ w κs a. (tt, λ m. tt)) (λ w κs a g z e. search says) (λ t. (transport_one t.z t.z' (same t.said t.said'), refl))
