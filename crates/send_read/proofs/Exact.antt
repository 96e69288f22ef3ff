-- Each public function takes every argument, and its contract leaves one answer.
-- Assumes nothing.
use mathlib.Core.Path.{◌≡◌, refl, ap}
use Rattle.std.specs.Prelude.{Result, Ok, Err}
use Rattle.exact.specs.Exact.{Exact, exact, says, same}
use Rattle.wire.specs.Answers.{Answer, done, refused}
use Rattle.wire.specs.declared.Refusal.{Refusal}
use Rattle.wire.proofs.Answers.{one_by, refusal_of, number_back}
use Rattle.send_read.specs.Reads.{Sent, sent, paper_send}
use Rattle.send_read.specs.declared.SendRead.{SendRead}
use Rattle.send_read.specs.contracts.read_unconnected_send

-- ---- an answer's form on paper says which answer it is

from_send : Answer Sent → Result SendRead Refusal
from_send (done (sent u from m start len)) = Ok (record { send = u; message_start = from; message_len = m; path_start = start; path_len = len })
from_send (refused k) = Err (refusal_of k)

pub send_one : (a b : Result SendRead Refusal) → paper_send a ≡ paper_send b → a ≡ b
unfolding from_send
send_one = one_by paper_send from_send (elim [ Ok r ↦ refl | Err e ↦ ap Err (number_back e) ])

-- ---- the reader

pub read_unconnected_send_exact : Exact read_unconnected_send.ended (λ _ _. read_unconnected_send.clauses)
read_unconnected_send_exact = exact (λ w κs a. (tt, λ m. tt)) (λ w κs a g z e. search says) (λ t. (send_one t.z t.z' (same t.said t.said'), refl))
