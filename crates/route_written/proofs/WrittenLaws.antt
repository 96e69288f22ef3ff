-- A written path behind a size byte: its judgement's ends, and what an answered one says of the path. Assumes nothing.
use Prim.Native.Nat.{ℕ, ◌≤◌, ◌<◌}
use mathlib.Core.Path.{◌≡◌, refl, sym, ap, ◌∙◌}
use mathlib.Core.List.{List}
use lib.ListN.{length}
use Rattle.std.specs.Prelude.{Result, Ok, Err}
use Rattle.wire.specs.Refusals.{number}
use Rattle.wire.specs.Answers.{Answer, done, refused, paper, and_then}
use Rattle.wire.specs.declared.Refusal.{Refusal}
use Rattle.wire.proofs.Rules.{rules, done_same, all_were, then_stops, then_goes, Went, then_were}
use Rattle.epath_check.specs.Paths.{check_path}
use Rattle.connection.specs.Limits.{max_path}
use Rattle.route_written.specs.Written.{written_route}

-- ---- forwards: what the code's ends answer
module _ (path : List ℕ) where
  pub written_long : max_path < length path → refused 3 ≡ written_route path
  unfolding written_route
  written_long g = search rules

  module _ (short : length path ≤ max_path) (w : Result ℕ Refusal) (is : paper w ≡ check_path path) where
    kept : (z : Answer ℕ) → z ≡ and_then (check_path path) (λ _. done (length path)) → z ≡ written_route path
    unfolding written_route
    kept z e = search rules

    pub written_stops : (e : Refusal) → w ≡ Err e → refused (number e) ≡ written_route path
    written_stops e h = kept (refused (number e)) (then_stops _ _ (number e) (sym is ∙ ap paper h))

    pub written_is : (n : ℕ) → w ≡ Ok n → done (length path) ≡ written_route path
    written_is n h = kept (done (length path)) (then_goes _ _ n (done (length path)) (sym is ∙ ap paper h) refl)

pub ruleset written_laws = (written_long, written_stops, written_is)

-- ---- backwards: a path that was taken
pub record Taken (path : List ℕ) (n : ℕ) : Type 0 where
  pub size : n ≡ length path
  pub short : n ≤ max_path

pub taken : (path : List ℕ) (n : ℕ) → written_route path ≡ done n → Taken path n
unfolding written_route
taken path n h =
    let k = all_were _ _ n h in
    let w : Went (check_path path) (λ _. done (length path)) n = then_were _ _ n k.1 in
    let q : length path ≡ n = done_same w.then in
    record { size = sym q; short = rw (← q) k.0.0 }

-- ---- a size that goes on from the path's
module _ (path : List ℕ) (w : Result ℕ Refusal) (is : paper w ≡ written_route path) where
  pub over_stops : (f : ℕ → Answer ℕ) (e : Refusal) → w ≡ Err e → refused (number e) ≡ and_then (written_route path) f
  over_stops f e h = then_stops _ _ (number e) (sym is ∙ ap paper h)

  module _ (n : ℕ) (h : w ≡ Ok n) where
    pub over_goes : (f : ℕ → Answer ℕ) {z : Answer ℕ} → z ≡ f n → z ≡ and_then (written_route path) f
    over_goes f {z} e = then_goes _ _ n z (sym is ∙ ap paper h) e

    pub over_short : n ≤ max_path
    over_short = (taken path n (sym is ∙ ap paper h)).short

-- backwards: the path's size, and what went on from it
pub record Over (path : List ℕ) (f : ℕ → Answer ℕ) (size : ℕ) : Type 0 where
  pub short : length path ≤ max_path
  pub then : f (length path) ≡ done size

pub over_was : (path : List ℕ) (f : ℕ → Answer ℕ) (size : ℕ) → and_then (written_route path) f ≡ done size → Over path f size
over_was path f size h =
    let w : Went (written_route path) f size = then_were _ _ size h in
    let t : Taken path w.found = taken path w.found w.is in
    record { short = rw (← t.size) t.short; then = rw (← t.size) w.then }
