-- The reader and the writer are each other's, for one segment and for lists. Assumes nothing.
use Prim.Native.Nat.{ℕ, zero, suc, ◌+◌, ◌-◌, ◌≤◌, ◌<◌}
use mathlib.Core.Path.{◌≡◌, refl, sym, ap, ◌∙◌, subst}
use mathlib.Core.List.{List, [], ◌∷◌, ◌++◌, map}
use mathlib.Core.Logic.{⊎_elim}
use native.Mathlib.Omega.{arith}
use lib.ListN.{length, drop, length-drop, take-append-drop, drop_of_length-le}
use lib.Seq.{drop-drop, drop-append_seam}
use Rattle.wire.specs.Numbers.{Bytes}
use Rattle.wire.specs.Answers.{Answer, done, refused}
use Rattle.wire.proofs.Numbers.{below_or, bytes_drop}
use Rattle.wire.proofs.Rules.{never, done_same}
use Rattle.epath_sizes.specs.Limits.{max_segments}
use Rattle.epath_sizes.specs.Segments.{Seg, encode_seg, encode, Fine, AllFine, norm}
use Rattle.epath_sizes.specs.Lists.{meaning, shifted}
use Rattle.epath_sizes.specs.declared.Segment.{Segment}
use Rattle.epath_sizes.specs.declared.Segment.TheVariants.{Symbol, Class, Instance, Attribute, Element, Port}
use Rattle.epath_sizes.specs.declared.Slot.{Slot}
use Rattle.epath_segment.specs.Reads.{Front, front, read_seg, parsed, seen, parse, moved}
use Rattle.epath_check.specs.Paths.{before, walk, sees, parse_path}
use Rattle.epath_segment.proofs.ReadLaws.{front_short}
use Rattle.epath_segment.proofs.Got.{Got, got}
use Rattle.epath_segment.proofs.Back.{segment_read_of_written}
use Rattle.epath_check.proofs.Walks.{walk_ends, walk_full, walk_stops, walk_goes}

-- ---- one segment

record Seen (t : List ℕ) (f : Answer Front) (x : Seg) (n : ℕ) : Type 0 where
  y : Segment
  is : f ≡ done (front y n)
  means : meaning t y ≡ x

seen_parsed : (t : List ℕ) (f : Answer Front) (x : Seg) (n : ℕ) → seen t f ≡ done (parsed x n) → Seen t f x n
seen_parsed t (done (front y m)) x n h =
    let e : m ≡ n = cc in
    record { y = y; is = ap (λ (k : ℕ). done (front y k)) e; means = cc }
seen_parsed t (refused k) x n h = never h

-- what was read is what its encoding says, and the rest follows
pub record Wrote (t : List ℕ) (x : Seg) (n : ℕ) : Type 0 where
  pub bytes : t ≡ encode_seg x ++ drop n t
  pub fine : Fine x
  pub normal : norm x ≡ x

wrote : (t : List ℕ) (y : Segment) (n : ℕ) → Got t y n → Wrote t (meaning t y) n
wrote t y n g = record { bytes = sym (rw (← g.bytes) (take-append-drop n t)); fine = g.fine; normal = g.normal }

pub segment_written_of_read : (t : List ℕ) (x : Seg) (n : ℕ) → Bytes t → parse t ≡ done (parsed x n) → Wrote t x n
segment_written_of_read t x n b h =
    let s : Seen t (read_seg t) x n = seen_parsed t (read_seg t) x n h in
    subst (λ (z : Seg). Wrote t z n) s.means (wrote t s.y n (got t s.y n b s.is))

-- ---- places and bytes

pub meaning_shifted : (s : List ℕ) (at : ℕ) (y : Segment) → meaning s (shifted at y) ≡ meaning (drop at s) y
meaning_shifted s at (Symbol y) = rw (drop-drop y.start at s)
meaning_shifted s at (Class v) = refl
meaning_shifted s at (Instance v) = refl
meaning_shifted s at (Attribute v) = refl
meaning_shifted s at (Element v) = refl
meaning_shifted s at (Port q) = rw (drop-drop q.start at s)

abbrev with : Seg → Answer (List Seg) → Answer (List Seg)
with x (done l) = done (x ∷ l)
with x (refused k) = refused k

sees_before : (s : List ℕ) (x : Segment) (w : Answer (List Slot)) → sees s (before x w) ≡ with (meaning s x) (sees s w)
sees_before s x (done l) = refl
sees_before s x (refused k) = refl

-- a step of the walk over a segment that was read
steps : (s : List ℕ) (at left : ℕ) (y : Segment) (n : ℕ) → at < length s → read_seg (drop at s) ≡ done (front y n)
    → sees s (walk (suc left) s at) ≡ with (meaning (drop at s) y) (sees s (walk left s (at + n)))
steps s at left y n h e =
    ap (sees s) (walk_goes s at left (shifted at y) (at + n) h (rw e))
    ∙ sees_before s (shifted at y) (walk left s (at + n))
    ∙ ap (λ (x : Seg). with x (sees s (walk left s (at + n)))) (meaning_shifted s at y)

-- ---- read of written, for lists

-- what can be parsed has a byte
some : (t : List ℕ) (x : Seg) (n : ℕ) → parse t ≡ done (parsed x n) → 0 < length t
some t x n h = ⊎_elim
    (λ (l : length t < 1). never (ap (seen t) (front_short t l) ∙ h))
    (λ (l : 1 ≤ length t). l)
    (below_or (length t) 1)

back : (xs : List Seg) (left : ℕ) (s : List ℕ) (at : ℕ) → AllFine xs → length xs ≤ left → drop at s ≡ encode xs → sees s (walk left s at) ≡ done (map norm xs)
back [] left s at f l e =
    let m : length s - at ≡ 0 = sym (length-drop at s) ∙ ap length e in
    ap (sees s) (walk_ends s at left (omega arith))
back (x ∷ xs) zero s at f l e = absurd (omega arith)
back (x ∷ xs) (suc left) s at f l e =
    let n : ℕ = length (encode_seg x) in
    let p : parse (drop at s) ≡ done (parsed (norm x) n) = rw e (segment_read_of_written x f.0 (encode xs)) in
    let v : Seen (drop at s) (read_seg (drop at s)) (norm x) n = seen_parsed (drop at s) (read_seg (drop at s)) (norm x) n p in
    let g : 0 < length s - at = rw (length-drop at s) at (some (drop at s) (norm x) n p) in
    let r : drop (at + n) s ≡ encode xs = sym (drop-drop n at s) ∙ rw e (drop-append_seam (encode_seg x) (encode xs)) in
    steps s at left v.y n (omega arith) v.is
    ∙ rw (v.means, back xs left s (at + n) f.1 (omega arith) r)

-- reading what is written of a list that is fine and not too long gives that list, an empty link as [0]
pub read_of_written : (xs : List Seg) → AllFine xs → length xs ≤ max_segments → parse_path (encode xs) ≡ done (map norm xs)
read_of_written xs f l = back xs max_segments (encode xs) 0 f l refl

-- ---- written of read, for lists

pub record Written (left : ℕ) (t : List ℕ) (xs : List Seg) : Type 0 where
  pub bytes : t ≡ encode xs
  pub fine : AllFine xs
  pub normal : map norm xs ≡ xs
  pub few : length xs ≤ left

with_listed : {A : Type 0} (x : Seg) (w : Answer (List Seg)) (xs : List Seg) → with x w ≡ done xs → ((ys : List Seg) → w ≡ done ys → x ∷ ys ≡ xs → A) → A
with_listed x (done ys) xs h go = go ys refl cc
with_listed x (refused k) xs h go = never h

ended : (left : ℕ) (s : List ℕ) (at : ℕ) (xs : List Seg) → length s ≤ at → sees s (walk left s at) ≡ done xs → Written left (drop at s) xs
ended left s at xs h e =
    let g : [] ≡ xs = done_same (sym (ap (sees s) (walk_ends s at left h)) ∙ e) in
    rw (← g) (record { bytes = drop_of_length-le s h; fine = tt; normal = refl; few = omega arith })

stepped : (left : ℕ) (s : List ℕ) (at : ℕ) (xs : List Seg) → Bytes s → at < length s → (f : Answer Front) → read_seg (drop at s) ≡ f
    → ((n : ℕ) (ys : List Seg) → sees s (walk left s (at + n)) ≡ done ys → Written left (drop (at + n) s) ys)
    → sees s (walk (suc left) s at) ≡ done xs → Written (suc left) (drop at s) xs
stepped left s at xs b h (refused k) e ih w =
    let m : moved at (read_seg (drop at s)) ≡ refused k = rw e in
    never (sym (ap (sees s) (walk_stops s at left k h m)) ∙ w)
stepped left s at xs b h (done (front y n)) e ih w =
    let t : List ℕ = drop at s in
    let z : Seg = meaning t y in
    let o : Wrote t z n = wrote t y n (got t y n (bytes_drop s at b) e) in
    with_listed z (sees s (walk left s (at + n))) xs (sym (steps s at left y n h e) ∙ w)
    (λ ys p q.
    let i : Written left (drop (at + n) s) ys = ih n ys p in
    let r : drop n t ≡ encode ys = drop-drop n at s ∙ i.bytes in
    rw (← q)
    (record {
      bytes = o.bytes ∙ rw r;
      fine = (o.fine, i.fine);
      normal = rw (o.normal, i.normal);
      few = omega (arith, i.few);
    }))

forth : (left : ℕ) (s : List ℕ) (at : ℕ) (xs : List Seg) → Bytes s → sees s (walk left s at) ≡ done xs → Written left (drop at s) xs
forth zero s at xs b w = ⊎_elim
    (λ (h : at < length s). never (sym (ap (sees s) (walk_full s at h)) ∙ w))
    (λ (h : length s ≤ at). ended zero s at xs h w)
    (below_or at (length s))
forth (suc left) s at xs b w = ⊎_elim
    (λ (h : at < length s). stepped left s at xs b h (read_seg (drop at s)) refl (λ n ys p. forth left s (at + n) ys b p) w)
    (λ (h : length s ≤ at). ended (suc left) s at xs h w)
    (below_or at (length s))

-- what is accepted is the encoding of what was read
pub written_of_read : (s : List ℕ) (xs : List Seg) → Bytes s → parse_path s ≡ done xs → Written max_segments s xs
written_of_read s xs b h = forth max_segments s 0 xs b h

-- ---- so the reader accepts exactly what the writer makes

-- some list that the writer takes is written so
pub record Made (s : List ℕ) : Type 0 where
  pub list : List Seg
  pub fine : AllFine list
  pub few : length list ≤ max_segments
  pub bytes : s ≡ encode list

pub record Accepted (s : List ℕ) : Type 0 where
  pub list : List Seg
  pub is : parse_path s ≡ done list

pub accepted_made : (s : List ℕ) → Bytes s → Accepted s → Made s
accepted_made s b a =
    let w : Written max_segments s a.list = written_of_read s a.list b a.is in
    record { list = a.list; fine = w.fine; few = w.few; bytes = w.bytes }

pub made_accepted : (s : List ℕ) → Made s → Accepted s
made_accepted s m = record { list = map norm m.list; is = ap parse_path m.bytes ∙ read_of_written m.list m.fine m.few }

-- no two inputs are read alike, and lists that are written alike differ in empty links alone
pub one_input : (s t : List ℕ) (xs : List Seg) → Bytes s → Bytes t → parse_path s ≡ done xs → parse_path t ≡ done xs → s ≡ t
one_input s t xs b c p q = (written_of_read s xs b p).bytes ∙ sym (written_of_read t xs c q).bytes

pub one_list : (xs ys : List Seg) → AllFine xs → AllFine ys → length xs ≤ max_segments → length ys ≤ max_segments → encode xs ≡ encode ys → map norm xs ≡ map norm ys
one_list xs ys f g l m e =
    done_same (sym (read_of_written xs f l) ∙ ap parse_path e ∙ read_of_written ys g m)
