-- The size's ends, and what a size that was answered says of the request. Assumes nothing.
use Prim.Native.Nat.{ℕ, ◌+◌, ◌*◌, ◌≤◌}
use mathlib.Core.Path.{◌≡◌, refl, sym, ap, ◌∙◌}
use mathlib.Core.List.{List, ◌++◌}
use mathlib.Core.Bool.{Bool, true, false}
use native.Mathlib.Omega.{arith}
use lib.ListN.{length}
use mir.Val.{Fits}
use mir.Syntax.{w64}
use Rattle.std.specs.Prelude.{Result, Ok}
use Rattle.wire.specs.Answers.{Answer, done, refused, paper, and_then}
use Rattle.wire.specs.Records.{laid}
use Rattle.wire.specs.declared.Refusal.{Refusal}
use Rattle.wire.proofs.Rules.{never, done_same, all_were, Went, then_were}
use Rattle.wire.proofs.Records.{laid_length, laid_size}
use Rattle.connection_words.proofs.Lengths.{open_length}
use Rattle.epath_sizes.specs.Segments.{encode}
use Rattle.epath_sizes.specs.Lists.{segs_of}
use Rattle.epath_sizes.specs.declared.Path.{Path}
use Rattle.epath_sizes.proofs.PathLaws.{path_sized}
use Rattle.connection.specs.Limits.{max_path, size_limit}
use Rattle.connection.specs.declared.ConnectionParameters.{ConnectionParameters}
use Rattle.connection.specs.declared.OpenOptions.{OpenOptions}
use Rattle.connection_words.specs.Fields.{word_of, parameter_word}
use Rattle.connection_words.specs.Requests.{parameter_width, open_head, open_rest, open_bytes}
use Rattle.route.specs.Routes.{route_size, Ready}
use Rattle.route.proofs.RouteLaws.{route_sized, Left, left}
use Rattle.open_sizes.specs.Sizes.{open_base, front_size, open_size}

-- ---- what stands before the path, and the whole
module _ (o : OpenOptions) where
  -- behind a path of n bytes
  abbrev pub behind : ℕ → Answer ℕ
  behind n =
      and_then (parameter_word o.large_open o.o_t_params) (λ _.
      and_then (parameter_word o.large_open o.t_o_params) (λ _.
      done (open_base o.large_open + n)))

  pub front_stops : (n k : ℕ) → refused k ≡ front_size o → refused k ≡ behind n
  unfolding front_size
  front_stops n k h = go (parameter_word o.large_open o.o_t_params) (parameter_word o.large_open o.t_o_params) h
    where
      go : (x y : Answer ℕ) → refused k ≡ and_then x (λ _. and_then y (λ _. done (open_base o.large_open)))
          → refused k ≡ and_then x (λ _. and_then y (λ _. done (open_base o.large_open + n)))
      go (refused j) y h = h
      go (done i) (refused j) h = h
      go (done i) (done j) h = never h

  pub front_goes : (n b : ℕ) → done b ≡ front_size o → done (b + n) ≡ behind n
  unfolding front_size
  front_goes n b h = go (parameter_word o.large_open o.o_t_params) (parameter_word o.large_open o.t_o_params) h
    where
      go : (x y : Answer ℕ) → done b ≡ and_then x (λ _. and_then y (λ _. done (open_base o.large_open)))
          → done (b + n) ≡ and_then x (λ _. and_then y (λ _. done (open_base o.large_open + n)))
      go (refused j) y h = never (sym h)
      go (done i) (refused j) h = never (sym h)
      go (done i) (done j) h = ap (λ (k : ℕ). done (k + n)) (done_same h)

  pub front_fits : (n b : ℕ) → done b ≡ front_size o → n ≤ max_path → Fits w64 (b + n)
  unfolding front_size
  front_fits n b h l = go (parameter_word o.large_open o.o_t_params) (parameter_word o.large_open o.t_o_params) h
    where
      most : (large : Bool) → open_base large ≤ 40
      most false = omega arith
      most true = omega arith

      go : (x y : Answer ℕ) → done b ≡ and_then x (λ _. and_then y (λ _. done (open_base o.large_open))) → Fits w64 (b + n)
      go (refused j) y h = never (sym h)
      go (done i) (refused j) h = never (sym h)
      go (done i) (done j) h = record { fits = omega (arith, done_same h, most o.large_open) }

pub ruleset front_laws = (front_stops, front_goes, front_fits)

-- ---- a path that was sized is short
pub open_short : (pool : List ℕ) (p : Path) (n : ℕ) → done n ≡ route_size pool p → n ≤ max_path
open_short pool p n h = (route_sized pool p n (sym h)).short

-- ---- backwards

pub word_was : (large : Bool) (q : ConnectionParameters) (w : ℕ) → parameter_word large q ≡ done w → parameter_word large q ≡ done (word_of large q)
unfolding parameter_word
word_was large q w h = h ∙ sym (all_were _ _ w h).1

pub word_small_size : (large : Bool) (q : ConnectionParameters) (w : ℕ) → parameter_word large q ≡ done w → q.connection_size ≤ size_limit large
unfolding parameter_word
word_small_size large q w h = (all_were _ _ w h).0.0

-- a request that was sized and has its room: its path is ready to be written
module _ (pool : List ℕ) (p : Path) (r : Result ℕ Refusal) (size : ℕ) (h : r ≡ Ok size) where
  module _ (o : OpenOptions) (is : paper r ≡ open_size pool p o) where
    abbrev two : ℕ → Answer ℕ
    two k = and_then (parameter_word o.large_open o.t_o_params) (λ _. done (open_base o.large_open + k))

    opening : Left pool p (λ k. and_then (parameter_word o.large_open o.o_t_params) (λ _. two k)) size
    unfolding open_size
    opening = left pool p (λ k. and_then (parameter_word o.large_open o.o_t_params) (λ _. two k)) size (sym is ∙ ap paper h)

    one_went : Went (parameter_word o.large_open o.o_t_params) (λ _. two opening.n) size
    one_went = then_were _ _ size opening.then

    two_went : Went (parameter_word o.large_open o.t_o_params) (λ _. done (open_base o.large_open + opening.n)) size
    two_went = then_were _ _ size one_went.then

    pub open_one : parameter_word o.large_open o.o_t_params ≡ done (word_of o.large_open o.o_t_params)
    open_one = word_was o.large_open o.o_t_params one_went.found one_went.is

    pub open_two : parameter_word o.large_open o.t_o_params ≡ done (word_of o.large_open o.t_o_params)
    open_two = word_was o.large_open o.t_o_params two_went.found two_went.is

    pub open_ready : (out : List ℕ) → size ≤ length out → Ready pool p (open_base o.large_open) out
    open_ready out g =
        record { size = opening.n; is = opening.is; short = opening.short; room = omega (arith, done_same two_went.then) }

pub ruleset ready_laws = (open_one, open_two, open_ready)

-- ---- a size is that of the bytes

-- 36 bytes stand before the path, or 40
base_widths : (large : Bool) → open_base large ≡ 32 + 2 * parameter_width large
base_widths false = refl
base_widths true = refl

pub open_front : (o : OpenOptions) (w : ℕ) → length (laid (open_head o) ++ laid (open_rest o w)) ≡ open_base o.large_open
open_front o w = omega (arith, laid_size (open_head o) (laid (open_rest o w)), laid_length (open_rest o w), base_widths o.large_open)

module _ (pool : List ℕ) (p : Path) (r : Result ℕ Refusal) (size : ℕ) (h : r ≡ Ok size) where
  abbrev path : List ℕ
  path = encode (segs_of pool p)

  pub open_sized : (o : OpenOptions) → paper r ≡ open_size pool p o → size ≡ length (open_bytes o path)
  open_sized o is =
      let w = opening pool p r size h o is in
      omega (arith, done_same (two_went pool p r size h o is).then, (path_sized pool p w.n w.is).size, open_length o path, base_widths o.large_open)

pub ruleset length_laws = (open_sized)
