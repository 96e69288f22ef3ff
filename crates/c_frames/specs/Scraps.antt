-- What a call for C answers and leaves, over the collector's own calls: a state is three numbers, at the places of include/barkcushion.h.
-- Assumes nothing: these are definitions.
use Rattle.std.specs.Prelude.{ℕ, List, [], ◌∷◌, Bool, length, get_or, ltb, eqb}
use Rattle.wire.specs.Choice.{pick}
use Rattle.wire.specs.Answers.{Answer, done, refused}
use Rattle.frames.specs.Calls.{flag, Handed, all, frame, scrap_answer, state_after, buffer_after}
use Rattle.frames.specs.declared.FrameState.{FrameState}

-- held, length, and 1 where it is refused, else 0
abbrev pub state_numbers : FrameState → List ℕ
state_numbers s = s.held ∷ s.length ∷ flag s.refused ∷ []

-- the other way; a third number above 1 says neither, and such a run is refused with 11 and stays, and all that is lent with it
abbrev pub state_in : List ℕ → FrameState
state_in run = record { held = get_or run 0 0; length = get_or run 1 0; refused = eqb (get_or run 2 0) 1 }

abbrev pub says_neither : List ℕ → Bool
says_neither run = ltb 1 (get_or run 2 0)

-- how many bytes of a scrap were taken, of all that it has, and the length of the frame that lies there then: 0 where there is none, on a refusal as it was
abbrev pub taken_of : Answer Handed → ℕ → Answer ℕ
taken_of (refused k) size = refused k
taken_of (done all) size = done size
taken_of (done (frame n m)) size = done m

abbrev pub frame_told : Answer Handed → ℕ → ℕ
frame_told (refused k) old = old
frame_told (done all) old = 0
frame_told (done (frame n m)) old = n

-- ---- a run, a lent buffer and a scrap: the answer, and what run, buffer and frame hold afterwards
abbrev pub taken_answer : List ℕ → List ℕ → List ℕ → Answer ℕ
taken_answer run buffer scrap = pick (says_neither run) (refused 11) (taken_of (scrap_answer (state_in run) buffer scrap) (length scrap))

abbrev pub numbers_after : List ℕ → List ℕ → List ℕ → List ℕ
numbers_after run buffer scrap = pick (says_neither run) run (state_numbers (state_after (state_in run) buffer scrap))

abbrev pub bytes_after : List ℕ → List ℕ → List ℕ → List ℕ
bytes_after run buffer scrap = pick (says_neither run) buffer (buffer_after (state_in run) buffer scrap)

abbrev pub frame_after : List ℕ → List ℕ → List ℕ → ℕ → ℕ
frame_after run buffer scrap old = pick (says_neither run) old (frame_told (scrap_answer (state_in run) buffer scrap) old)
