-- Laws of the encoding's own pieces: numbers by width, port heads by case, pads. Assumes nothing.
use Prim.Native.Nat.{ℕ, ◌+◌, ◌%◌, ◌≤◌, ◌<◌}
use mathlib.Core.Path.{◌≡◌}
use mathlib.Core.List.{List, [], ◌∷◌, ◌++◌, append-nil}
use mathlib.Core.Bool.{Bool, true, false}
use native.Mathlib.Omega.{arith}
use lib.ListN.{length}
use lib.Dec.{leb}
use borrow.Author.Tests.{le-leb, lt-leb}
use Rattle.wire.specs.Numbers.{low_first}
use Rattle.wire.specs.Choice.{pick}
use Rattle.epath_sizes.specs.Segments.{logical, padded, port_head, far_port}
use Rattle.epath_sizes.specs.Limits.{near_port, far_port_code, long_link}

-- what holds of both holds of the one that is picked
pub pick_each : {A : Type 0} (P : A → Type 0) (b : Bool) (x y : A) → P x → P y → P (pick b x y)
pick_each P true x y p q = p
pick_each P false x y p q = q

-- ---- numbers
module _ (code v : ℕ) where
  -- what holds of each width of a logical segment holds of it
  pub logical_each : (P : List ℕ → Type 0) → P (code ∷ v ∷ []) → P ((code + 1) ∷ 0 ∷ low_first 2 v) → P ((code + 2) ∷ 0 ∷ low_first 4 v) → P (logical code v)
  logical_each P p q r = pick_each P (leb v 255) _ _ p (pick_each P (leb v 65535) _ _ q r)

  pub number_one : v < 256 → logical code v ≡ code ∷ v ∷ []
  number_one h = simp (le-leb v 255 (omega arith))

  pub number_two : 256 ≤ v → v < 65536 → logical code v ≡ (code + 1) ∷ 0 ∷ low_first 2 v
  number_two h l = simp (lt-leb v 255 (omega arith), le-leb v 65535 (omega arith))

  pub number_four : 65536 ≤ v → logical code v ≡ (code + 2) ∷ 0 ∷ low_first 4 v
  number_four h = simp (lt-leb v 255 (omega arith), lt-leb v 65535 (omega arith))

-- ---- port heads
module _ (p n : ℕ) where
  pub head_short : p ≤ near_port → n ≤ 1 → port_head p n ≡ p ∷ []
  head_short h l = simp (le-leb p near_port h, le-leb n 1 l)

  pub head_long : p ≤ near_port → 2 ≤ n → port_head p n ≡ (p + long_link) ∷ n ∷ []
  head_long h l = simp (le-leb p near_port h, lt-leb n 1 l)

  pub head_escaped : near_port < p → n ≤ 1 → port_head p n ≡ far_port_code ∷ far_port p
  head_escaped h l = simp (lt-leb p near_port h, le-leb n 1 l)

  pub head_both : near_port < p → 2 ≤ n → port_head p n ≡ (far_port_code + long_link) ∷ n ∷ far_port p
  head_both h l = simp (lt-leb p near_port h, lt-leb n 1 l)

-- ---- pads
pub padded_even : (xs : List ℕ) → length xs % 2 ≡ 0 → padded xs ≡ xs
unfolding padded
padded_even xs e = rw e (append-nil xs)

pub padded_odd : (xs : List ℕ) → length xs % 2 ≡ 1 → padded xs ≡ xs ++ (0 ∷ [])
unfolding padded
padded_odd xs e = rw e
