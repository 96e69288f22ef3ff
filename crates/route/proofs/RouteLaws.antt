-- The path behind a size byte: its size, its room, its store. Assumes nothing.
use Prim.Native.Nat.{ℕ, ◌+◌, ◌-◌, ◌/◌, ◌%◌, ◌≤◌, ◌<◌}
use mathlib.Core.Path.{◌≡◌, refl, sym, ap, ◌∙◌}
use mathlib.Core.List.{List, ◌++◌}
use native.Mathlib.Omega.{arith}
use lib.ListN.{length, take, drop}
use lib.Seq.{sets}
use mir.Val.{Fits}
use mir.Syntax.{w8, w64}
use Rattle.std.specs.Prelude.{Result, Ok, Err, IsOk}
use Rattle.wire.specs.Refusals.{number}
use Rattle.wire.specs.Answers.{Answer, done, refused, paper, and_then, with_room, written, within_limit}
use Rattle.wire.specs.declared.Refusal.{Refusal}
use Rattle.wire.proofs.Rules.{rules, never, done_same, then_stops, then_goes, then_were, within_was}
use Rattle.wire.proofs.Answers.{room_kept}
use Rattle.wire.proofs.Stores.{length_lent, sets_lent, sets_overlay}
use Rattle.epath_sizes.specs.Segments.{encode}
use Rattle.epath_sizes.specs.Lists.{segs_of}
use Rattle.epath_sizes.specs.Sizes.{path_size}
use Rattle.epath_sizes.specs.declared.Path.{Path}
use Rattle.epath_sizes.proofs.PathLaws.{PathSized, path_sized}
use Rattle.epath_sizes.proofs.Even.{size_even}
use Rattle.connection.specs.Limits.{max_path}
use Rattle.route.specs.Routes.{route_size, Ready, Routed}

-- ---- how many bytes
module _ (pool : List ℕ) (p : Path) (r : Result ℕ Refusal) (is : paper r ≡ path_size pool p) where
  pub route_stops : (e : Refusal) → r ≡ Err e → refused (number e) ≡ route_size pool p
  unfolding route_size
  route_stops e h = then_stops _ _ (number e) (sym is ∙ ap paper h)

  module _ (n : ℕ) (h : r ≡ Ok n) where
    judge : {z : Answer ℕ} → z ≡ within_limit max_path n → z ≡ route_size pool p
    unfolding route_size
    judge {z} e = then_goes _ _ n z (sym is ∙ ap paper h) e

    pub route_long : max_path < n → refused 3 ≡ route_size pool p
    route_long g = judge (search rules)

    -- the crate's check for an odd size never fires
    pub route_odd : n ≤ max_path → (n % 2 ≡ 0 → ⊥) → refused 5 ≡ route_size pool p
    route_odd g odd = absurd (odd (size_even pool p n (sym is ∙ ap paper h)))

    pub route_is : n ≤ max_path → done n ≡ route_size pool p
    route_is g = judge (search rules)

pub ruleset route_laws = (route_stops, route_long, route_odd, route_is)

-- ---- backwards: a size that was answered
pub record RouteSized (pool : List ℕ) (p : Path) (n : ℕ) : Type 0 where
  pub is : path_size pool p ≡ done n
  pub short : n ≤ max_path

pub route_sized : (pool : List ℕ) (p : Path) (n : ℕ) → route_size pool p ≡ done n → RouteSized pool p n
unfolding route_size
route_sized pool p n h =
    let w = then_were _ _ n h in
    let k = within_was _ _ n w.then in
    record { is = w.is ∙ ap done k.1; short = rw (← k.1) k.0 }

-- ---- a size that went on from the path's
pub record Left (pool : List ℕ) (p : Path) (f : ℕ → Answer ℕ) (size : ℕ) : Type 0 where
  pub n : ℕ
  pub is : path_size pool p ≡ done n
  pub short : n ≤ max_path
  pub then : f n ≡ done size

pub left : (pool : List ℕ) (p : Path) (f : ℕ → Answer ℕ) (size : ℕ) → and_then (route_size pool p) f ≡ done size → Left pool p f size
left pool p f size h =
    let w = then_were _ _ size h in
    let r = route_sized pool p w.found w.is in
    record { n = w.found; is = r.is; short = r.short; then = w.then }

-- ---- storing it in the rest of an output

answered : (r : Result ℕ Refusal) (n : ℕ) → paper r ≡ done n → IsOk r
answered (Ok k) n h = refl
answered (Err e) n h = never h

module _ (pool : List ℕ) (p : Path) (at : ℕ) (old : List ℕ) (ready : Ready pool p at old) where
  pub put_at : at ≤ length old
  put_at = omega (arith, ready.room)

  abbrev lent : List ℕ
  lent = take (length old - at) (drop at old)

  fits : with_room (path_size pool p) (length lent) ≡ done ready.size
  fits = room_kept (path_size pool p) (length lent) ready.size ready.is (omega (arith, ready.room, length_lent old at))

  module _ (r : Result ℕ Refusal) (is : paper r ≡ with_room (path_size pool p) (length lent)) where
    -- it is not refused
    pub put_ok : IsOk r
    put_ok = answered r ready.size (is ∙ fits)

    pub put_never : (e : Refusal) → r ≡ Err e → (x y : List ℕ) → x ≡ y
    put_never e h x y = never (sym (ap paper h) ∙ is ∙ fits)

    module _ (n : ℕ) (h : r ≡ Ok n) where
      size_is : n ≡ ready.size
      size_is = done_same (sym (ap paper h) ∙ is ∙ fits)

      -- its size in words, and the place behind it
      pub put_words : Fits w8 (n / 2)
      put_words = record { fits = omega (arith, size_is, ready.short) }

      pub put_behind : Fits w64 (2 + n)
      put_behind = record { fits = omega (arith, size_is, ready.short) }

      pub put_done : (new : List ℕ) → new ≡ written (with_room (path_size pool p) (length lent)) (encode (segs_of pool p)) lent
          → Routed pool p at old n (take at old ++ (new ++ drop (length old - at) (drop at old)))
      put_done new b =
          let w : PathSized pool p ready.size = path_sized pool p ready.size ready.is in
          let bs : List ℕ = encode (segs_of pool p) in
          let l : length bs ≤ length lent = omega (arith, ready.room, w.size, length_lent old at) in
          let e : new ≡ sets lent 0 bs = b ∙ ap (λ (y : Answer ℕ). written y bs lent) fits ∙ sym (sets_overlay lent bs l) in
          record {
            size = size_is ∙ w.size;
            short = omega (arith, size_is, ready.short);
            stored = ap (λ (t : List ℕ). take at old ++ (t ++ drop (length old - at) (drop at old))) e ∙ sets_lent old bs at;
          }

pub ruleset put_laws = (put_at, put_ok, put_never, put_words, put_behind, put_done)
