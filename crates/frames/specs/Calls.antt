-- What a call of the collector answers and leaves, executable; rules and numbers from document 02, Wish 1. Assumes nothing: these are definitions.
use Rattle.std.specs.Prelude.{ℕ, ◌+◌, ◌-◌, List, [], ◌∷◌, ◌++◌, Bool, true, false, length, take, ltb, eqb, Option, Some, None, Result, Ok, Err}
use Rattle.std.proofs.lemmas.List.Edits.{sets}
use Rattle.wire.specs.Choice.{pick}
use Rattle.wire.specs.Refusals.{number}
use Rattle.wire.specs.Answers.{Answer, done, refused, Rule, under, over, other, judged}
use Rattle.frames.specs.Frames.{header_size, max_frame, frame_length, Opening, no_header, too_long, begun, whole, opening_of}
use Rattle.frames.specs.declared.FrameState.{FrameState}
use Rattle.frames.specs.declared.Frame.{Frame}
use Rattle.wire.specs.declared.Refusal.{Refusal}

-- nothing held, nothing refused
abbrev pub reset_state : FrameState
reset_state = record { held = 0; length = 0; refused = false }

abbrev pub flag : Bool → ℕ
flag b = pick b 1 0

-- 11 for a state that no calls from a reset leave: with less than a header a length; with a header a refusal, a frame that is longer than any, or one
-- that is whole already
abbrev pub state_rules : FrameState → List Rule
state_rules s =
    pick (ltb s.held header_size) (other s.length 0 11 ∷ [])
    (other (flag s.refused) 0 11 ∷ over s.length max_frame 11 ∷ under s.length (s.held + 1) 11 ∷ [])

-- then 2 for a buffer that is shorter than a header, than what is held or than the known frame, and for a state that says refused
abbrev pub room_rules : FrameState → ℕ → List Rule
room_rules s room = under room header_size 2 ∷ under room s.held 2 ∷ under room s.length 2 ∷ other (flag s.refused) 0 2 ∷ []

abbrev pub admitted : {A : Type 0} → FrameState → ℕ → Answer A → Answer A
admitted s room y = judged (state_rules s ++ room_rules s room) y

-- the bytes since the last frame's end: those that are kept, then the scrap's
abbrev pub since : ℕ → List ℕ → List ℕ → List ℕ
since held buffer scrap = take held buffer ++ scrap

-- the frame that they begin has the length which the state knows, else the one in its header
abbrev pub length_of : ℕ → List ℕ → ℕ
length_of known bytes = pick (eqb known 0) (frame_length bytes) known

-- what they begin with
unfoldable pub brought : FrameState → List ℕ → List ℕ → Opening
brought s buffer scrap = opening_of (length buffer) (length_of s.length (since s.held buffer scrap)) (since s.held buffer scrap)

-- a state, a lent buffer and a scrap: refused as above, else that
unfoldable pub outcome : FrameState → List ℕ → List ℕ → Answer Opening
outcome s buffer scrap = admitted s (length buffer) (done (brought s buffer scrap))

-- ---- what follows from it: the answer, the state, the buffer

-- all of the scrap was taken; or a frame of so many bytes lies at the front of the buffer, and so much of the scrap was taken
pub data Handed : Type 0 where
  all : Handed
  frame : ℕ → ℕ → Handed

abbrev pub answer_of : Answer Opening → ℕ → Answer Handed
answer_of (refused k) held = refused k
answer_of (done no_header) held = done all
answer_of (done too_long) held = refused 2
answer_of (done (begun n)) held = done all
answer_of (done (whole n)) held = done (frame n (n - held))

-- a frame that is too long is refused for good, and one that is handed out is a reset
abbrev pub state_of : Answer Opening → FrameState → List ℕ → FrameState
state_of (refused k) s scrap = s
state_of (done no_header) s scrap = record { held = s.held + length scrap; length = 0; refused = false }
state_of (done too_long) s scrap = record { held = s.held; length = s.length; refused = true }
state_of (done (begun n)) s scrap = record { held = s.held + length scrap; length = n; refused = false }
state_of (done (whole n)) s scrap = reset_state

-- only what is taken is stored, behind what is kept
abbrev pub buffer_of : Answer Opening → ℕ → List ℕ → List ℕ → List ℕ
buffer_of (refused k) held buffer scrap = buffer
buffer_of (done no_header) held buffer scrap = sets buffer held scrap
buffer_of (done too_long) held buffer scrap = buffer
buffer_of (done (begun n)) held buffer scrap = sets buffer held scrap
buffer_of (done (whole n)) held buffer scrap = sets buffer held (take (n - held) scrap)

abbrev pub scrap_answer : FrameState → List ℕ → List ℕ → Answer Handed
scrap_answer s buffer scrap = answer_of (outcome s buffer scrap) s.held

abbrev pub state_after : FrameState → List ℕ → List ℕ → FrameState
state_after s buffer scrap = state_of (outcome s buffer scrap) s scrap

abbrev pub buffer_after : FrameState → List ℕ → List ℕ → List ℕ
buffer_after s buffer scrap = buffer_of (outcome s buffer scrap) s.held buffer scrap

-- ---- what the functions answer

abbrev pub paper_took : Result (Option Frame) Refusal → Answer Handed
paper_took (Ok None) = done all
paper_took (Ok (Some f)) = done (frame f.length f.taken)
paper_took (Err e) = refused (number e)
