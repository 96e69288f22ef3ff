-- What the function for C reads of an envelope, as a run of numbers at the places of include/barkcushion.h.
-- Assumes nothing: these are definitions.
use Rattle.std.specs.Prelude.{ℕ, List, [], ◌∷◌}
use Rattle.wire.specs.Answers.{Answer}
use Rattle.envelope.specs.Envelopes.{Held, unconnected, connected, read_envelope}
use Rattle.c_answers.specs.Codes.{run_of}

-- 1 and the count of connected data, or 0 and 0; start and length of the data
abbrev pub held_numbers : Held → List ℕ
held_numbers (unconnected start len) = 0 ∷ 0 ∷ start ∷ len ∷ []
held_numbers (connected count start len) = 1 ∷ count ∷ start ∷ len ∷ []

abbrev pub envelope_run : List ℕ → Answer (List ℕ)
envelope_run s = run_of held_numbers (read_envelope s)
