-- A driver of the collector: what it is handed out, and what stands then. Assumes nothing: these are definitions.
use Rattle.std.specs.Prelude.{ℕ, zero, suc, List, [], ◌∷◌, ◌++◌, length, take, drop}
use Rattle.wire.specs.Numbers.{Bytes}
use Rattle.wire.specs.Answers.{Answer, done, refused}
use Rattle.frames.specs.Calls.{reset_state, Handed, all, frame, scrap_answer, state_after, buffer_after}
use Rattle.frames.specs.declared.FrameState.{FrameState}

-- the state and the buffer as they stand, and the frames that were handed out, first to last
pub record Driven : Type 0 where
  pub state : FrameState
  pub buffer : List ℕ
  pub handed : List (List ℕ)

-- frames that came before
abbrev pub behind : List (List ℕ) → Driven → Driven
behind fs d = record { state = d.state; buffer = d.buffer; handed = fs ++ d.handed }

-- one scrap: a call, and where it handed out a frame, which lies at the front of the buffer, another with what is left of the scrap. A frame takes a
-- byte at least, so the scrap's length bounds the calls; with nothing to give there is none to make
abbrev pub gives : ℕ → FrameState → List ℕ → List ℕ → Driven
gives zero s buffer scrap = record { state = s; buffer = buffer; handed = [] }
gives (suc k) s buffer scrap =
    elim (scrap_answer s buffer scrap) [
      | refused e ↦ record { state = state_after s buffer scrap; buffer = buffer_after s buffer scrap; handed = [] }
      | done all ↦ record { state = state_after s buffer scrap; buffer = buffer_after s buffer scrap; handed = [] }
      | done (frame n m) ↦ behind (take n (buffer_after s buffer scrap) ∷ []) (gives k (state_after s buffer scrap) (buffer_after s buffer scrap) (drop m scrap))
    ]

-- scraps, one after the other, over one buffer
abbrev pub drive : FrameState → List ℕ → List (List ℕ) → Driven
drive s buffer [] = record { state = s; buffer = buffer; handed = [] }
drive s buffer (scrap ∷ scraps) =
    let d : Driven = gives (length scrap) s buffer scrap in
    behind d.handed (drive d.state d.buffer scraps)

-- ---- calls of any kind

-- what a call took of its scrap, and the frame that it handed out
abbrev pub taken_by : Answer Handed → List ℕ → List ℕ
taken_by (refused k) scrap = []
taken_by (done all) scrap = scrap
taken_by (done (frame n m)) scrap = take m scrap

abbrev pub handed_by : Answer Handed → List ℕ → List (List ℕ)
handed_by (refused k) buffer = []
handed_by (done all) buffer = []
handed_by (done (frame n m)) buffer = take n buffer ∷ []

-- calls from a reset over one buffer, each with whatever scrap: the state and the buffer that they leave, all the bytes that they took, end to end,
-- and the frames that they handed out, first to last
pub data Called : FrameState → List ℕ → List ℕ → List (List ℕ) → Type 0 where
  reset : (buffer : List ℕ) → Bytes buffer → Called reset_state buffer [] []
  call : (s : FrameState) (buffer stream : List ℕ) (frames : List (List ℕ)) (scrap : List ℕ) → Called s buffer stream frames → Bytes scrap
      → Called (state_after s buffer scrap) (buffer_after s buffer scrap) (stream ++ taken_by (scrap_answer s buffer scrap) scrap) (frames ++ handed_by (scrap_answer s buffer scrap) (buffer_after s buffer scrap))

-- a state that some calls leave, over some buffer
pub record Left (s : FrameState) : Type 0 where
  pub buffer : List ℕ
  pub stream : List ℕ
  pub frames : List (List ℕ)
  pub calls : Called s buffer stream frames
