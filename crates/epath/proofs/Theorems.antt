-- What a user may rely on of paths, said of what the functions answer and leave: read back, written back. Assumes nothing.
use Prim.Native.Nat.{ℕ, zero, suc, ◌+◌, ◌-◌, ◌%◌, ◌≤◌, ◌<◌}
use mathlib.Core.Path.{◌≡◌, refl, sym, ap, ◌∙◌, subst}
use mathlib.Core.List.{List, [], ◌∷◌, map}
use native.Mathlib.Omega.{arith}
use lib.ListN.{length, take, drop, length-append, length-replicate, length-map}
use lib.Seq.{sets-eq, take-append_seam}
use Rattle.wire.specs.Numbers.{Bytes}
use Rattle.wire.specs.Answers.{Answer, done, refused, plus}
use Rattle.wire.specs.Folds.{sizes}
use Rattle.wire.proofs.Rules.{never, done_same, all_keep}
use Rattle.wire.proofs.Answers.{room_was}
use Rattle.wire.proofs.Stores.{part_length}
use Rattle.epath_sizes.specs.Limits.{max_segments, max_symbol, max_link}
use Rattle.epath_sizes.specs.Segments.{Seg, encode_seg, encode, Fine, AllFine, norm}
use Rattle.epath_sizes.specs.Lists.{meaning, slots_of, segs, segs_of, blank, blanks, path_of, start_of, len_of}
use Rattle.epath_sizes.specs.Sizes.{segment_size, path_size, Good, AllGoodIn}
use Rattle.epath_check.specs.Paths.{walk, count_of, list_of, check_path, sees, parse_path}
use Rattle.epath_read.specs.Reads.{PathFound, read_path}
use Rattle.epath_sizes.specs.declared.Segment.{Segment}
use Rattle.epath_sizes.specs.declared.Segment.TheVariants.{Symbol, Class, Instance, Attribute, Element, Port}
use Rattle.epath_sizes.specs.declared.Slot.{Slot}
use Rattle.epath_sizes.specs.declared.Path.{Path}
use Rattle.epath_sizes.proofs.SizeLaws.{keeps_inside}
use Rattle.epath_sizes.proofs.PathLaws.{size_in, PathSized, path_sized}
use Rattle.epath.proofs.Held.{AllHeld, all_held}
use Rattle.epath.proofs.RoundTrip.{Written, read_of_written, written_of_read}
use Rattle.epath_sizes.proofs.Even.{path_even}
use Rattle.epath_encode.proofs.Theorems.{answer_of, left_by, left_front}

-- ---- what was written reads back

-- each number is one of its type: what the code's types say of a segment
abbrev pub Ranged : Segment → Type 0
Ranged (Symbol y) = Unit {0}
Ranged (Class v) = v < 65536
Ranged (Instance v) = v < 65536
Ranged (Attribute v) = v < 65536
Ranged (Element v) = v < 4294967296
Ranged (Port q) = q.port < 65536

abbrev pub AllRanged : List Slot → Type 0
AllRanged [] = Unit {0}
AllRanged (x ∷ l) = Ranged x.segment × AllRanged l

good_fine : (pool : List ℕ) (s : Segment) → Ranged s → Good pool s → Fine (meaning pool s)
good_fine pool (Symbol y) r g =
    let i = keeps_inside max_symbol (length pool) y.start y.len g in
    omega (arith, part_length pool y.start y.len i.ends, i.short)
good_fine pool (Class v) r g = r
good_fine pool (Instance v) r g = r
good_fine pool (Attribute v) r g = r
good_fine pool (Element v) r g = r
good_fine pool (Port q) r g =
    let i = keeps_inside max_link (length pool) q.start q.len g in
    (r, omega (arith, part_length pool q.start q.len i.ends, i.short))

all_fine : (pool : List ℕ) (l : List Slot) → AllRanged l → AllGoodIn pool l → AllFine (segs pool l)
all_fine pool [] r g = tt
all_fine pool (x ∷ l) r g = (good_fine pool x.segment r.0 g.0, all_fine pool l r.1 g.1)

length_segs : (pool : List ℕ) (l : List Slot) → length (segs pool l) ≡ length l
length_segs pool l = simp length-map

few_slots : (k m : ℕ) (l : List Slot) → k ≤ m → length (take k l) ≤ m
few_slots zero m l h = omega arith
few_slots (suc k) m [] h = omega arith
few_slots (suc k) m (x ∷ l) h = omega (arith, few_slots k (m - 1) l (omega arith))

-- the front of what write_path leaves is read as the same segments, an empty link as [0]
pub write_then_read : (pool : List ℕ) (p : Path) (old : List ℕ) (n : ℕ) → AllRanged (slots_of p) → answer_of pool p old ≡ done n
    → parse_path (take n (left_by pool p old)) ≡ done (map norm (segs_of pool p))
write_then_read pool p old n r h =
    let w : PathSized pool p n = path_sized pool p n (room_was (path_size pool p) (length old) n h).0 in
    let l : length (segs_of pool p) ≤ max_segments = omega (arith, length_segs pool (slots_of p), few_slots p.count max_segments p.slots w.few) in
    ap parse_path (left_front pool p old n h) ∙ read_of_written (segs_of pool p) (all_fine pool (slots_of p) r w.good) l

-- ---- the three readers agree

-- a path that is counted is one that is read, with as many segments, at most 127
pub record Checked (s : List ℕ) (n : ℕ) : Type 0 where
  pub list : List Seg
  pub is : parse_path s ≡ done list
  pub many : length list ≡ n

pub checked : (s : List ℕ) (n : ℕ) → check_path s ≡ done n → Checked s n
unfolding check_path
checked s n h = go (walk max_segments s 0) refl
  where
    go : (w : Answer (List Slot)) → walk max_segments s 0 ≡ w → Checked s n
    go (done l) e =
        let g : length l ≡ n = done_same (sym (ap count_of e) ∙ h) in
        record { list = segs s l; is = ap (sees s) e; many = length_segs s l ∙ g }
    go (refused k) e = never (sym (ap count_of e) ∙ h)

pub checked_few : (s : List ℕ) (n : ℕ) → Bytes s → check_path s ≡ done n → n ≤ max_segments
checked_few s n b h =
    let c : Checked s n = checked s n h in
    omega (arith, c.many, (written_of_read s c.list b c.is).few)

-- an accepted path has even length
pub checked_even : (s : List ℕ) (n : ℕ) → Bytes s → check_path s ≡ done n → length s % 2 ≡ 0
checked_even s n b h =
    let c : Checked s n = checked s n h in
    ap (λ (t : List ℕ). length t % 2) (written_of_read s c.list b c.is).bytes ∙ path_even c.list

pub readers_agree : (s : List ℕ) → (read_path s).answer ≡ check_path s
unfolding read_path check_path
readers_agree s = refl

-- ---- what was read writes back

held_good : (s : List ℕ) (x : Segment) → start_of x + len_of x ≤ length s → Fine (meaning s x) → Good s x
held_good s (Symbol y) h f =
    let l : length (take y.len (drop y.start s)) ≡ y.len = part_length s y.start y.len (omega arith) in
    (omega arith, (omega arith, (omega arith, tt)))
held_good s (Class v) h f = tt
held_good s (Instance v) h f = tt
held_good s (Attribute v) h f = tt
held_good s (Element v) h f = tt
held_good s (Port q) h f =
    let l : length (take q.len (drop q.start s)) ≡ q.len = part_length s q.start q.len (omega arith) in
    let m = f.1 in
    (omega arith, (omega arith, (omega arith, tt)))

all_good : (s : List ℕ) (l : List Slot) → AllHeld (length s) l → AllFine (segs s l) → AllGoodIn s l
all_good s [] h f = tt
all_good s (x ∷ l) h f = (held_good s x.segment h.0 f.0, all_good s l h.1 f.1)

good_sizes : (s : List ℕ) (l : List Slot) → AllGoodIn s l → sizes (size_in s) l ≡ done (length (encode (segs s l)))
unfolding segment_size
good_sizes s [] g = refl
good_sizes s (x ∷ l) g =
    let bs : List ℕ = encode_seg (meaning s x.segment) in
    ap (λ (y : Answer ℕ). plus y (sizes (size_in s) l)) (all_keep _ _ g.0)
    ∙ ap (λ (y : Answer ℕ). plus (done (length bs)) y) (good_sizes s l g.1)
    ∙ ap done (sym (length-append bs (encode (segs s l))))

-- a list in its slots
slots_are : (l : List Slot) → length l ≤ max_segments → slots_of (path_of l) ≡ l
slots_are l h =
    ap (take (length l)) (sets-eq l blanks 0 (rw (length-replicate max_segments blank) (omega arith)))
    ∙ take-append_seam l (drop (0 + length l) blanks)

-- a list that is good is sized as its encoding is long
good_size : (s : List ℕ) (l : List Slot) → length l ≤ max_segments → AllGoodIn s l → path_size s (path_of l) ≡ done (length (encode (segs s l)))
unfolding path_size
good_size s l few g =
    all_keep _ _ (few, tt)
    ∙ ap (sizes (size_in s)) (slots_are l few)
    ∙ good_sizes s l g

-- what read_path hands out as a list is written as the input, and nothing of it is refused
pub record Again (s : List ℕ) (p : Path) : Type 0 where
  pub size : path_size s p ≡ done (length s)
  pub bytes : encode (segs_of s p) ≡ s

pub read_then_write : (s : List ℕ) (p : Path) (n : ℕ) → Bytes s → read_path s ≡ record { answer = done n; path = p } → Again s p
unfolding read_path
read_then_write s p n b h = go (walk max_segments s 0) refl (all_held max_segments s 0 b) (ap (λ (x : PathFound). x.answer) h) (ap (λ (x : PathFound). x.path) h)
  where
    go : (w : Answer (List Slot)) → walk max_segments s 0 ≡ w → AllHeld (length s) (list_of (walk max_segments s 0)) → count_of (walk max_segments s 0) ≡ done n → path_of (list_of (walk max_segments s 0)) ≡ p → Again s p
    go (refused k) e a c q = never (sym (ap count_of e) ∙ c)
    go (done l) e a c q =
        let w : Written max_segments s (segs s l) = written_of_read s (segs s l) b (ap (sees s) e) in
        let few : length l ≤ max_segments = omega (arith, w.few, length_segs s l) in
        let held : AllHeld (length s) l = subst (λ (x : Answer (List Slot)). AllHeld (length s) (list_of x)) e a in
        let d : path_of l ≡ p = ap (λ (x : Answer (List Slot)). path_of (list_of x)) (sym e) ∙ q in
        rw (← d)
        (record {
          size = good_size s l few (all_good s l held w.fine) ∙ ap (λ (t : List ℕ). done (length t)) (sym w.bytes);
          bytes = ap (λ (t : List Slot). encode (segs s t)) (slots_are l few) ∙ sym w.bytes;
        })
