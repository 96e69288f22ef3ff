-- The size's ends, and what a size that was answered says of the request. Assumes nothing.
use Prim.Native.Nat.{ℕ, ◌+◌, ◌≤◌}
use mathlib.Core.Path.{◌≡◌, refl, sym, ap, ◌∙◌}
use mathlib.Core.List.{List}
use native.Mathlib.Omega.{arith}
use lib.ListN.{length}
use mir.Val.{Fits}
use mir.Syntax.{w64}
use Rattle.std.specs.Prelude.{Result, Ok, Err}
use Rattle.wire.specs.Refusals.{number}
use Rattle.wire.specs.Answers.{done, refused, paper}
use Rattle.wire.specs.declared.Refusal.{Refusal}
use Rattle.wire.proofs.Rules.{done_same, then_stops, then_goes}
use Rattle.connection_words.proofs.Lengths.{close_length}
use Rattle.epath_sizes.specs.Segments.{encode}
use Rattle.epath_sizes.specs.Lists.{segs_of}
use Rattle.epath_sizes.specs.declared.Path.{Path}
use Rattle.epath_sizes.proofs.PathLaws.{path_sized}
use Rattle.connection.specs.Limits.{max_path}
use Rattle.connection.specs.declared.ForwardCloseRequest.{ForwardCloseRequest}
use Rattle.connection_words.specs.Requests.{close_bytes}
use Rattle.route.specs.Routes.{route_size, Ready}
use Rattle.route.proofs.RouteLaws.{route_sized, left}
use Rattle.close_sizes.specs.Sizes.{close_size}

-- ---- forwards: what the code's ends answer
module _ (pool : List ℕ) (p : Path) (r : Result ℕ Refusal) (is : paper r ≡ route_size pool p) where
  pub close_stops : (e : Refusal) → r ≡ Err e → refused (number e) ≡ close_size pool p
  unfolding close_size
  close_stops e h = then_stops _ _ (number e) (sym is ∙ ap paper h)

  module _ (n : ℕ) (h : r ≡ Ok n) where
    short : n ≤ max_path
    short = (route_sized pool p n (sym is ∙ ap paper h)).short

    pub close_is : done (12 + n) ≡ close_size pool p
    unfolding close_size
    close_is = then_goes _ _ n _ (sym is ∙ ap paper h) refl

    pub close_fits : (b : ℕ) → b ≤ 40 → Fits w64 (b + n)
    close_fits b g = record { fits = omega (arith, short) }

pub ruleset size_laws = (close_stops, close_is, close_fits)

-- ---- backwards

-- a request that was sized and has its room: its path is ready to be written
module _ (pool : List ℕ) (p : Path) (r : Result ℕ Refusal) (size : ℕ) (h : r ≡ Ok size) where
  pub close_ready : (out : List ℕ) → paper r ≡ close_size pool p → size ≤ length out → Ready pool p 12 out
  unfolding close_size
  close_ready out is g =
      let w = left pool p (λ k. done (12 + k)) size (sym is ∙ ap paper h) in
      record { size = w.n; is = w.is; short = w.short; room = omega (arith, done_same w.then) }

pub ruleset ready_laws = (close_ready)

-- ---- a size is that of the bytes
module _ (pool : List ℕ) (p : Path) (r : Result ℕ Refusal) (size : ℕ) (h : r ≡ Ok size) where
  pub close_sized : (c : ForwardCloseRequest) → paper r ≡ close_size pool p → size ≡ length (close_bytes c (encode (segs_of pool p)))
  unfolding close_size
  close_sized c is =
      let w = left pool p (λ k. done (12 + k)) size (sym is ∙ ap paper h) in
      omega (arith, done_same w.then, (path_sized pool p w.n w.is).size, close_length c (encode (segs_of pool p)))

pub ruleset length_laws = (close_sized)
