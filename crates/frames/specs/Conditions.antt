-- What private functions ask of their callers. No promise cites it; it stands here since a clause may cite nothing of its own crate but specs/.
-- Assumes nothing.
use Rattle.std.specs.Prelude.{ℕ, ◌≤◌, ◌<◌, ◌≡◌}
use Rattle.frames.specs.Frames.{header_size}
use Rattle.frames.specs.declared.FrameState.{FrameState}

-- a state and a buffer that serve
pub record Serves (s : FrameState) (room : ℕ) : Type 0 where
  pub kept : s.held ≤ room
  pub headless : s.length ≡ 0 → s.held < header_size
  pub known : (s.length ≡ 0 → ⊥) → s.held < s.length
