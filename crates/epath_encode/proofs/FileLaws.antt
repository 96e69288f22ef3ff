-- The loop over a list's slots that stores segments. Assumes nothing.
use Prim.Native.Nat.{ℕ, zero, suc, ◌+◌, ◌-◌, ◌^◌, ◌≤◌, ◌<◌}
use mathlib.Core.Path.{◌≡◌, refl, sym, ap, ◌∙◌, subst}
use mathlib.Core.List.{List, [], ◌∷◌, ◌++◌}
use native.Mathlib.Omega.{arith}
use lib.ListN.{length, take, drop, get_or, length-map}
use lib.Seq.{sets}
use mir.Val.{Fits}
use mir.Syntax.{w64}
use Rattle.wire.specs.Answers.{Put}
use Rattle.wire.proofs.Stores.{length_lent}
use Rattle.wire.proofs.Folds.{Storing, storing_first, storing_fits, storing_more, storing_ends}
use Rattle.epath_sizes.specs.Segments.{Seg, encode_seg, encode}
use Rattle.epath_sizes.specs.Lists.{meaning, slots_of, segs, segs_of}
use Rattle.epath_sizes.specs.Sizes.{Good, AllGoodIn, AllGood}
use Rattle.epath_sizes.specs.declared.Slot.{Slot}
use Rattle.epath_sizes.specs.declared.Path.{Path}
use Rattle.epath_sizes.proofs.PathLaws.{none, next}

pub record Filing (pool : List ℕ) (p : Path) (old out : List ℕ) (at i : ℕ) : Type 0 where
  pub stores : Storing encode_seg (segs_of pool p) old out at i
  pub good : AllGoodIn pool (drop i (slots_of p))

map_drop : (pool : List ℕ) (l : List Slot) (i : ℕ) → drop i (segs pool l) ≡ segs pool (drop i l)
map_drop pool l zero = refl
map_drop pool [] (suc i) = refl
map_drop pool (x ∷ l) (suc i) = map_drop pool l i

module _ (pool : List ℕ) (p : Path) where
  pub filing_first : (out : List ℕ) → AllGood pool p → length (encode (segs_of pool p)) ≤ length out → Filing pool p out out 0 0
  filing_first out g r = record { stores = storing_first encode_seg (segs_of pool p) out r; good = g }

  module _ (old out : List ℕ) (at i : ℕ) (f : Filing pool p old out at i) where
    pub filing_at : at ≤ length out
    filing_at = omega (arith, f.stores.room)

    pub filing_same : length out ≡ length old
    filing_same = f.stores.same

    pub filing_ends : length (slots_of p) ≤ i → out ≡ sets old 0 (encode (segs_of pool p))
    filing_ends h = storing_ends encode_seg (segs_of pool p) f.stores (simp length-map h)

    module _ (h : i < length (slots_of p)) where
      x : Slot
      x = get_or (slots_of p) i none

      here : drop i (segs_of pool p) ≡ meaning pool x.segment ∷ drop (i + 1) (segs_of pool p)
      unfolding x
      here = map_drop pool (slots_of p) i ∙ ap (segs pool) (next (slots_of p) i h) ∙ ap (λ (l : List Seg). meaning pool x.segment ∷ l) (sym (map_drop pool (slots_of p) (i + 1)))

      goods_here : Good pool x.segment × AllGoodIn pool (drop (i + 1) (slots_of p))
      unfolding x
      goods_here = subst (λ (l : List Slot). AllGoodIn pool l) (next (slots_of p) i h) f.good

      pub filing_asks : Good pool (get_or (slots_of p) i none).segment
      unfolding x
      filing_asks = goods_here.0

      pub filing_room : length (encode_seg (meaning pool (get_or (slots_of p) i none).segment)) ≤ length (take (length out - at) (drop at out))
      unfolding x
      filing_room = omega (arith, storing_fits encode_seg (segs_of pool p) f.stores here, length_lent out at)

      module _ (n : ℕ) (new : List ℕ) (t : Put (encode_seg (meaning pool (get_or (slots_of p) i none).segment)) (take (length out - at) (drop at out)) n new) where
        pub filing_fits : length old < 2 ^ 64 → Fits w64 (at + n)
        unfolding x
        filing_fits g = record { fits = omega (arith, storing_fits encode_seg (segs_of pool p) f.stores here, t.size, f.stores.same) }

        pub filing_more : Filing pool p old (take at out ++ (new ++ drop (length out - at) (drop at out))) (at + n) (i + 1)
        unfolding x
        filing_more = record { stores = storing_more encode_seg (segs_of pool p) f.stores here t; good = goods_here.1 }

pub ruleset filing_laws = (filing_first, filing_at, filing_same, filing_ends, filing_asks, filing_room, filing_fits, filing_more)
