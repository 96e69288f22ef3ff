-- The writer over a path that was written before: its size's ends, and what a size that was answered says of the request. Assumes nothing.
use Prim.Native.Nat.{ℕ, ◌+◌, ◌≤◌}
use mathlib.Core.Path.{◌≡◌, refl, sym, ap, ◌∙◌}
use mathlib.Core.List.{List, ◌++◌, append_assoc}
use native.Mathlib.Omega.{arith}
use lib.ListN.{length, length-append}
use Rattle.std.specs.Prelude.{Result, Ok}
use Rattle.wire.specs.Answers.{Answer, done, paper, and_then}
use Rattle.wire.specs.Records.{laid}
use Rattle.wire.specs.declared.Refusal.{Refusal}
use Rattle.wire.proofs.Rules.{Went, then_were}
use Rattle.connection.specs.Limits.{max_path}
use Rattle.connection.specs.declared.OpenOptions.{OpenOptions}
use Rattle.connection_words.specs.Fields.{word_of, parameter_word}
use Rattle.connection_words.specs.Requests.{words, open_head, open_rest, open_bytes}
use Rattle.open_sizes.specs.Sizes.{open_base}
use Rattle.open_sizes.proofs.SizeLaws.{word_was, open_front}
use Rattle.route_written.specs.Written.{written_route}
use Rattle.route_written.proofs.WrittenLaws.{over_short, Over, over_was}
use Rattle.open_encode.specs.Over.{open_after, open_over_size}

-- ---- forwards: a path that was judged is short
pub route_short : (path : List ℕ) (n : ℕ) → done n ≡ written_route path → n ≤ max_path
route_short path n h = over_short path (Ok n) h n refl

-- ---- backwards: a size that was answered
pub open_whole : (o : OpenOptions) (path : List ℕ) → length (open_bytes o path) ≡ open_base o.large_open + length path
unfolding open_bytes
open_whole o path =
    let head : List ℕ = laid (open_head o) in
    let rest : List ℕ = laid (open_rest o (words path)) in
    omega (arith, open_front o (words path), length-append (head ++ rest) path, ap length (append_assoc head rest path))

module _ (path : List ℕ) (r : Result ℕ Refusal) (size : ℕ) (h : r ≡ Ok size) (o : OpenOptions) (is : paper r ≡ open_over_size path o) where
  abbrev two : ℕ → Answer ℕ
  two n = and_then (parameter_word o.large_open o.t_o_params) (λ _. done (open_base o.large_open + n))

  opening : Over path (open_after o) size
  unfolding open_over_size
  opening = over_was path (open_after o) size (sym is ∙ ap paper h)

  one_went : Went (parameter_word o.large_open o.o_t_params) (λ _. two (length path)) size
  unfolding open_after
  one_went = then_were (parameter_word o.large_open o.o_t_params) (λ _. two (length path)) size opening.then

  two_went : Went (parameter_word o.large_open o.t_o_params) (λ _. done (open_base o.large_open + length path)) size
  two_went = then_were (parameter_word o.large_open o.t_o_params) (λ _. done (open_base o.large_open + length path)) size one_went.then

  pub open_over_one : parameter_word o.large_open o.o_t_params ≡ done (word_of o.large_open o.o_t_params)
  open_over_one = word_was o.large_open o.o_t_params one_went.found one_went.is

  pub open_over_two : parameter_word o.large_open o.t_o_params ≡ done (word_of o.large_open o.t_o_params)
  open_over_two = word_was o.large_open o.t_o_params two_went.found two_went.is

  pub open_over_short : length path ≤ max_path
  open_over_short = opening.short

  pub open_over_sized : size ≡ length (open_bytes o path)
  open_over_sized =
      let e : done (open_base o.large_open + length path) ≡ done size = two_went.then in
      let q : open_base o.large_open + length path ≡ size = cc in
      omega (arith, open_whole o path)

pub ruleset judged_laws = (open_over_one, open_over_two, open_over_short, open_over_sized)
