-- The bytes of a number, stored. Assumes nothing.
use Prim.Native.Nat.{ℕ, ◌/◌}
use mathlib.Core.Path.{◌≡◌, refl, ap, ◌∙◌}
use mathlib.Core.List.{List}
use native.Mathlib.Nat.{div-div-eq-div-mul}
use lib.Seq.{sets}
use mir.Syntax.{w16, w32}
use Rattle.std.specs.Int.{to_le_bytes}
use Rattle.wire.specs.Numbers.{low_first}

low_two : (v : ℕ) → to_le_bytes w16 v ≡ low_first 2 v
low_two v = refl

low_four : (v : ℕ) → to_le_bytes w32 v ≡ low_first 4 v
low_four v =
    let t : v / 256 / 256 ≡ v / 65536 = div-div-eq-div-mul v 256 256 in
    let u : v / 256 / 256 / 256 ≡ v / 16777216 = ap (λ (k : ℕ). k / 256) t ∙ div-div-eq-div-mul v 65536 256 in
    rw (u, t)

-- what the store of a number's bytes leaves
module _ (old new b : List ℕ) (at v : ℕ) (is : new ≡ sets old at b) where
  pub put_two : b ≡ to_le_bytes w16 v → new ≡ sets old at (low_first 2 v)
  put_two e = is ∙ ap (λ (z : List ℕ). sets old at z) (e ∙ low_two v)

  pub put_four : b ≡ to_le_bytes w32 v → new ≡ sets old at (low_first 4 v)
  put_four e = is ∙ ap (λ (z : List ℕ). sets old at z) (e ∙ low_four v)

pub ruleset low_laws = (put_two, put_four)
