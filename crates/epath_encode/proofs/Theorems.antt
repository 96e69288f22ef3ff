-- What a user may rely on of written paths, said of what the functions answer and leave: the front, joining. Assumes nothing.
use Prim.Native.Nat.{ℕ, ◌+◌, ◌≤◌}
use mathlib.Core.Path.{◌≡◌, refl, sym, ap, ◌∙◌}
use mathlib.Core.List.{List, [], ◌∷◌, ◌++◌, append_assoc, append-nil}
use lib.ListN.{length, take, drop}
use lib.Seq.{take-append_seam}
use Rattle.wire.specs.Parts.{overlay}
use Rattle.wire.specs.Answers.{Answer, done, with_room, written}
use Rattle.wire.specs.Folds.{sizes}
use Rattle.wire.proofs.Rules.{all_keep}
use Rattle.wire.proofs.Answers.{room_kept, room_was}
use Rattle.wire.proofs.Folds.{sizes_append, joined_append}
use Rattle.epath_sizes.specs.Limits.{max_segments}
use Rattle.epath_sizes.specs.Segments.{Seg, encode_seg, encode}
use Rattle.epath_sizes.specs.Lists.{meaning, slots_of, segs, segs_of}
use Rattle.epath_sizes.specs.Sizes.{path_size}
use Rattle.epath_sizes.specs.declared.Slot.{Slot}
use Rattle.epath_sizes.specs.declared.Path.{Path}
use Rattle.epath_sizes.proofs.PathLaws.{size_in, PathSized, path_sized}

-- ---- what write_path answers and leaves

abbrev pub answer_of : List ℕ → Path → List ℕ → Answer ℕ
answer_of pool p old = with_room (path_size pool p) (length old)

abbrev pub left_by : List ℕ → Path → List ℕ → List ℕ
left_by pool p old = written (answer_of pool p old) (encode (segs_of pool p)) old

-- an accepted path's bytes are its encoding
pub left_front : (pool : List ℕ) (p : Path) (old : List ℕ) (n : ℕ) → answer_of pool p old ≡ done n → take n (left_by pool p old) ≡ encode (segs_of pool p)
unfolding overlay
left_front pool p old n h =
    let bs : List ℕ = encode (segs_of pool p) in
    let w : PathSized pool p n = path_sized pool p n (room_was (path_size pool p) (length old) n h).0 in
    ap (λ (y : Answer ℕ). take n (written y bs old)) h
    ∙ ap (λ (k : ℕ). take k (bs ++ drop (length bs) old)) w.size
    ∙ take-append_seam bs (drop (length bs) old)

-- ---- joining: a list that is two lists end to end is written as the two end to end, over one pool

segs_append : (pool : List ℕ) (a b : List Slot) → segs pool (a ++ b) ≡ segs pool a ++ segs pool b
segs_append pool [] b = refl
segs_append pool (x ∷ a) b = ap (λ (l : List Seg). meaning pool x.segment ∷ l) (segs_append pool a b)

pub encode_append : (a b : List Seg) → encode (a ++ b) ≡ encode a ++ encode b
encode_append a b = joined_append encode_seg a b

-- grouping and unit, of the bytes
pub path_grouping : (a b c : List Seg) → (encode a ++ encode b) ++ encode c ≡ encode (a ++ (b ++ c))
path_grouping a b c = append_assoc (encode a) (encode b) (encode c) ∙ ap (λ (l : List ℕ). encode a ++ l) (sym (encode_append b c)) ∙ sym (encode_append a (b ++ c))

pub path_unit : (a : List Seg) → (encode [] ++ encode a ≡ encode a) × (encode a ++ encode [] ≡ encode a)
path_unit a = (refl, append-nil (encode a))

module _ (pool : List ℕ) (p q r : Path) (few : r.count ≤ max_segments) (is : slots_of r ≡ slots_of p ++ slots_of q) where
  pub joined_bytes : encode (segs_of pool r) ≡ encode (segs_of pool p) ++ encode (segs_of pool q)
  joined_bytes = ap (λ (l : List Slot). encode (segs pool l)) is ∙ ap encode (segs_append pool (slots_of p) (slots_of q)) ∙ encode_append (segs_of pool p) (segs_of pool q)

  pub joined_size : (m n : ℕ) → path_size pool p ≡ done m → path_size pool q ≡ done n → path_size pool r ≡ done (m + n)
  unfolding path_size
  joined_size m n e f =
      all_keep _ _ (few, tt)
      ∙ ap (sizes (size_in pool)) is
      ∙ sizes_append (size_in pool) (slots_of p) (slots_of q)
      ∙ rw ((path_sized pool p m e).sum, (path_sized pool q n f).sum)

  -- what write_path leaves of the joined list is what it leaves of the first and then what it leaves of the second
  pub joined_written : (m n : ℕ) (old old₁ old₂ : List ℕ) → answer_of pool p old₁ ≡ done m → answer_of pool q old₂ ≡ done n → m + n ≤ length old
      → (answer_of pool r old ≡ done (m + n)) × (take (m + n) (left_by pool r old) ≡ take m (left_by pool p old₁) ++ take n (left_by pool q old₂))
  joined_written m n old old₁ old₂ e f g =
      let a : answer_of pool r old ≡ done (m + n) = room_kept (path_size pool r) (length old) (m + n) (joined_size m n (room_was (path_size pool p) (length old₁) m e).0 (room_was (path_size pool q) (length old₂) n f).0) g in
      (a, left_front pool r old (m + n) a ∙ joined_bytes ∙ rw (left_front pool p old₁ m e, left_front pool q old₂ n f))
