-- The sizes' ends, and what a size that was answered says of the reply. Assumes nothing.
use Prim.Native.Nat.{ℕ, ◌+◌, ◌≤◌, ◌<◌}
use mathlib.Core.Path.{◌≡◌, sym, ap, ◌∙◌}
use mathlib.Core.List.{[], ◌∷◌}
use native.Mathlib.Omega.{arith}
use lib.ListN.{length}
use Rattle.std.specs.Prelude.{Option, Result, Ok}
use Rattle.wire.specs.Answers.{done, refused, paper, under}
use Rattle.wire.specs.declared.Refusal.{Refusal}
use Rattle.wire.proofs.Rules.{rules, all_were}
use Rattle.connection.specs.declared.ForwardRequestFail.{ForwardRequestFail}
use Rattle.statuses.specs.declared.Status.{Status}
use Rattle.failure_encode.specs.Failures.{failure_bytes}
use Rattle.failure_encode.specs.Sizes.{word_width, remaining_width, failure_width, failure_size}
use Rattle.failure_encode.proofs.Lengths.{failure_length}

-- ---- forwards: what the code's ends answer
module _ (s : Status) (f : ForwardRequestFail) where
  pub failure_none : s.general ≡ 0 → refused 4 ≡ failure_size s f
  unfolding failure_size
  failure_none h = let g : s.general < 1 = omega arith in search rules

  pub failure_is : (n : ℕ) (x : Option ℕ) (y : Option ℕ) → (s.general ≡ 0 → ⊥) → s.extended ≡ x → f.remaining_path_size ≡ y
      → n ≡ 12 + word_width x + remaining_width y → done n ≡ failure_size s f
  unfolding failure_size
  failure_is n x y h e g q =
      let k : 1 ≤ s.general = omega (arith, h) in
      let z : done (failure_width s f) ≡ failure_size s f = search rules in
      let w : 12 + word_width x + remaining_width y ≡ failure_width s f = rw (e, g) in
      ap done (q ∙ w) ∙ z

pub ruleset failure_ends = (failure_none, failure_is)

-- ---- backwards: a size that was answered
module _ (r : Result ℕ Refusal) (size : ℕ) (h : r ≡ Ok size) where
  pub failure_sized : (service : ℕ) (s : Status) (f : ForwardRequestFail) → paper r ≡ failure_size s f → size ≡ length (failure_bytes service s f)
  unfolding failure_size
  failure_sized service s f is =
      let k = all_were (under s.general 1 4 ∷ []) (done (failure_width s f)) size (sym is ∙ ap paper h) in
      let e : done (failure_width s f) ≡ done size = k.1 in
      let q : size ≡ failure_width s f = cc in
      q ∙ sym (failure_length service s f)
