-- A number that names a value, and one past the last, as laws with plain conditions. Assumes nothing.
use Prim.Native.Nat.{ℕ, ◌≤◌, ◌<◌}
use mathlib.Core.Logic.{⊎_elim}
use mathlib.Core.List.{[], ◌∷◌}
use mathlib.Core.Path.{◌≡◌, refl, sym, ap, ◌∙◌}
use Rattle.wire.specs.Answers.{done, refused, over}
use Rattle.wire.proofs.Rules.{rules, never, done_same, all_were}
use Rattle.wire.proofs.Numbers.{below_or}
use Rattle.connection.specs.Codes.{coded}

module _ {A : Type 0} (last : ℕ) (of : ℕ → A) (n : ℕ) where
  pub coded_is : (x : A) (k : ℕ) → n ≡ k → x ≡ of k → k ≤ last → done x ≡ coded last of n
  unfolding coded
  coded_is x k e f h =
      let g : n ≤ last = rw e h in
      let d : done x ≡ done (of n) = rw (e, f) in
      search rules

  pub coded_past : last < n → refused 4 ≡ coded last of n
  unfolding coded
  coded_past h = search rules

pub ruleset code_laws = (coded_is, coded_past)

-- backwards: a number that names a value is none past the last, and one that names none is
module _ {A : Type 0} (last : ℕ) (of : ℕ → A) (n : ℕ) where
  pub coded_was : (x : A) → coded last of n ≡ done x → (n ≤ last) × (of n ≡ x)
  unfolding coded
  coded_was x h = let w = all_were (over n last 4 ∷ []) (done (of n)) x h in (w.0.0, done_same w.1)

  pub coded_over : (k : ℕ) → coded last of n ≡ refused k → (last < n) × (k ≡ 4)
  coded_over k h = ⊎_elim (λ (l : last < n). let e : refused 4 ≡ refused k = coded_past last of n l ∙ h in (l, (let f : 4 ≡ k = cc in sym f))) (λ (l : n ≤ last). never (sym h ∙ sym (coded_is last of n (of n) n refl refl l))) (below_or last n)
