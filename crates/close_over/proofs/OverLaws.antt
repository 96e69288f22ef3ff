-- The writer over a path that was written before: its size's ends, and what a size that was answered says of the request. Assumes nothing.
use Prim.Native.Nat.{ℕ, ◌+◌, ◌≤◌}
use mathlib.Core.Path.{◌≡◌, refl, sym, ap, ◌∙◌}
use mathlib.Core.List.{List}
use native.Mathlib.Omega.{arith}
use lib.ListN.{length}
use mir.Val.{Fits}
use mir.Syntax.{w64}
use Rattle.std.specs.Prelude.{Result, Ok, Err}
use Rattle.wire.specs.Refusals.{number}
use Rattle.wire.specs.Answers.{done, refused, paper}
use Rattle.wire.specs.declared.Refusal.{Refusal}
use Rattle.connection.specs.Limits.{max_path}
use Rattle.connection.specs.declared.ForwardCloseRequest.{ForwardCloseRequest}
use Rattle.connection_words.specs.Requests.{close_bytes}
use Rattle.connection_words.proofs.Lengths.{close_length}
use Rattle.route_written.specs.Written.{written_route}
use Rattle.route_written.proofs.WrittenLaws.{over_stops, over_goes, over_short, Over, over_was}
use Rattle.close_over.specs.Over.{close_over_size}

-- ---- forwards: from the path's judgement
module _ (path : List ℕ) (w : Result ℕ Refusal) (is : paper w ≡ written_route path) where
  pub close_over_stops : (e : Refusal) → w ≡ Err e → refused (number e) ≡ close_over_size path
  unfolding close_over_size
  close_over_stops e h = over_stops path w is _ e h

  module _ (n : ℕ) (h : w ≡ Ok n) where
    pub close_over_fits : Fits w64 (12 + n)
    close_over_fits = record { fits = omega (arith, over_short path w is n h) }

    pub close_over_is : done (12 + n) ≡ close_over_size path
    unfolding close_over_size
    close_over_is = over_goes path w is n h (λ k. done (12 + k)) refl

pub ruleset over_laws = (close_over_stops, close_over_fits, close_over_is)

-- ---- backwards: a size that was answered
module _ (path : List ℕ) (r : Result ℕ Refusal) (size : ℕ) (h : r ≡ Ok size) (is : paper r ≡ close_over_size path) where
  was : Over path (λ n. done (12 + n)) size
  unfolding close_over_size
  was = over_was path (λ n. done (12 + n)) size (sym is ∙ ap paper h)

  pub close_over_short : length path ≤ max_path
  close_over_short = was.short

  pub close_over_sized : (c : ForwardCloseRequest) → size ≡ length (close_bytes c path)
  close_over_sized c =
      let e : done (12 + length path) ≡ done size = was.then in
      let q : 12 + length path ≡ size = cc in
      omega (arith, close_length c path)

pub ruleset judged_laws = (close_over_short, close_over_sized)
