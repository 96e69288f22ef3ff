-- A state that says refused, and a buffer that is shorter than a header: what a call answers and leaves then. Assumes nothing.
use Prim.Native.Nat.{ℕ, ◌≤◌, ◌<◌}
use mathlib.Core.Path.{◌≡◌, refl, sym, ap}
use mathlib.Core.List.{List}
use mathlib.Core.Bool.{true}
use mathlib.Core.Logic.{◌⊎◌, inl, inr}
use native.Mathlib.Omega.{arith}
use lib.ListN.{length}
use Rattle.wire.specs.Answers.{Answer, done, refused, judged}
use Rattle.wire.proofs.Numbers.{below_or}
use Rattle.frames.specs.Frames.{header_size, Opening}
use Rattle.frames.specs.Calls.{reset_state, room_rules, brought, outcome, answer_of, state_of, buffer_of, scrap_answer, state_after, buffer_after}
use Rattle.frames.specs.declared.FrameState.{FrameState}
use Rattle.frames.proofs.CallLaws.{room_header, room_refused, admit_few}

-- refused: less than a header is held
pub record Stuck (s : FrameState) : Type 0 where
  pub few : s.held < header_size
  pub none : s.length ≡ 0
  pub said : s.refused ≡ true

-- each call is refused with 2, and nothing changes
module _ (s : FrameState) (u : Stuck s) (buffer scrap : List ℕ) where
  refused_two : outcome s buffer scrap ≡ refused 2
  unfolding outcome
  refused_two = sym (admit_few s (length buffer) (done (brought s buffer scrap)) (refused 2) u.few u.none (go (below_or (length buffer) header_size)))
    where
      go : (length buffer < header_size) ⊎ (header_size ≤ length buffer) → refused 2 ≡ judged (room_rules s (length buffer)) (done (brought s buffer scrap))
      go (inl h) = room_header s (length buffer) (done (brought s buffer scrap)) h
      go (inr h) = room_refused s (length buffer) (done (brought s buffer scrap)) h (omega (arith, u.few)) (omega (arith, u.none)) u.said

  pub stuck_answer : scrap_answer s buffer scrap ≡ refused 2
  stuck_answer = ap (λ (o : Answer Opening). answer_of o s.held) refused_two

  pub stuck_state : state_after s buffer scrap ≡ s
  stuck_state = ap (λ (o : Answer Opening). state_of o s scrap) refused_two

  pub stuck_buffer : buffer_after s buffer scrap ≡ buffer
  stuck_buffer = ap (λ (o : Answer Opening). buffer_of o s.held buffer scrap) refused_two

-- over a buffer that is shorter than a header a call from a reset is refused, and nothing changes
module _ (buffer : List ℕ) (h : length buffer < header_size) (scrap : List ℕ) where
  narrow_two : outcome reset_state buffer scrap ≡ refused 2
  unfolding outcome
  narrow_two = sym (admit_few reset_state (length buffer) (done (brought reset_state buffer scrap)) (refused 2) (omega arith) refl (room_header reset_state (length buffer) (done (brought reset_state buffer scrap)) h))

  pub narrow_answer : scrap_answer reset_state buffer scrap ≡ refused 2
  narrow_answer = ap (λ (o : Answer Opening). answer_of o 0) narrow_two

  pub narrow_state : state_after reset_state buffer scrap ≡ reset_state
  narrow_state = ap (λ (o : Answer Opening). state_of o reset_state scrap) narrow_two

  pub narrow_buffer : buffer_after reset_state buffer scrap ≡ buffer
  narrow_buffer = ap (λ (o : Answer Opening). buffer_of o 0 buffer scrap) narrow_two
