-- Whatever calls are made: the frames that they handed out are those of the bytes that they took, each by the call that brought its last byte, and
-- what is held is the rest. Assumes nothing.
use Prim.Native.Nat.{ℕ, ◌+◌, ◌-◌, ◌≤◌, ◌<◌}
use mathlib.Core.Path.{◌≡◌, refl, sym, ap, ◌∙◌}
use mathlib.Core.List.{List, [], ◌∷◌, ◌++◌, append-nil}
use mathlib.Core.Bool.{false, true≢false}
use mathlib.Core.Logic.{◌⊎◌, inl, inr}
use native.Mathlib.Omega.{arith}
use lib.ListN.{length, take, drop, take-append-drop, drop_of_length-le}
use lib.Seq.{length-sets, length-take-le, take_all, take-append-add}
use Rattle.wire.specs.Numbers.{Bytes}
use Rattle.wire.specs.Answers.{Answer, done, refused}
use Rattle.wire.proofs.Numbers.{below_or}
use Rattle.wire.proofs.Rules.{never}
use Rattle.frames.specs.Frames.{header_size, frame_length, Opening, no_header, too_long, begun, whole, frames_of, rest_of}
use Rattle.frames.specs.Calls.{reset_state, all, frame, outcome, buffer_of, scrap_answer, state_after, buffer_after}
use Rattle.frames.specs.Drives.{taken_by, handed_by, Called, reset, call}
use Rattle.frames.specs.declared.FrameState.{FrameState}
use Rattle.frames.proofs.CallLaws.{frame_some, opens_none, opens_whole}
use Rattle.frames.proofs.Streams.{frame_more, frame_none, frame_zero, frames_stop, frames_go, frames_append, rest_append}
use Rattle.frames.proofs.Holds.{Holds, reset_holds, holds_still, Comes, keeps, hands, refuses, comes}
use Rattle.frames.proofs.States.{Stuck, stuck_answer, stuck_state, narrow_answer, narrow_state}
use Rattle.frames.proofs.Cuts.{bytes_both, narrow_frames}

-- a stream of nothing
empty_still : (room : ℕ) → (frames_of room [] ≡ []) × (rest_of room [] ≡ [])
empty_still room = frames_stop room [] no_header tt (opens_none room (frame_length []) [] (frame_none [] (omega arith)))

-- a stream that is one frame
one_frame : (room : ℕ) (s : List ℕ) → header_size ≤ length s → frame_length s ≡ length s → length s ≤ room → (frames_of room s ≡ s ∷ []) × (rest_of room s ≡ [])
one_frame room s h e r =
    let f : frame_length s ≡ 0 → ⊥ = λ z. omega arith in
    let g = frames_go room s (opens_whole room (frame_length s) s f (omega arith) (omega arith)) f (omega arith) in
    let t : take (frame_length s) s ≡ s = take_all (frame_length s) s (omega arith) in
    let d : drop (frame_length s) s ≡ [] = drop_of_length-le s {i = frame_length s} (omega arith) in
    let z = empty_still room in
    (g.0 ∙ rw (t, d, z.0), g.1 ∙ rw (d, z.1))

-- the front of a stream, up to its first frame's end, is that frame
frame_front : (s : List ℕ) → (frame_length s ≡ 0 → ⊥) → frame_length s ≤ length s → frame_length (take (frame_length s) s) ≡ length (take (frame_length s) s)
frame_front s f l =
    let n : length (take (frame_length s) s) ≡ frame_length s = length-take-le (frame_length s) s l in
    let g : frame_length (take (frame_length s) s) ≡ 0 → ⊥ = λ z. omega (arith, frame_zero (take (frame_length s) s) z, frame_some s f) in
    sym (frame_more (take (frame_length s) s) (drop (frame_length s) s) g) ∙ ap frame_length (take-append-drop (frame_length s) s) ∙ sym n

pub record Right (room : ℕ) (s : FrameState) (buffer t : List ℕ) (fs : List (List ℕ)) : Type 0 where
  pub frames : fs ≡ frames_of room t
  pub stands : Holds room s buffer (rest_of room t) ⊎ Stuck s

-- a call stores, and the buffer stays as long as it was
buffer_length : (s : FrameState) (buffer c : List ℕ) → length (buffer_after s buffer c) ≡ length buffer
buffer_length s buffer c = go (outcome s buffer c)
  where
    go : (o : Answer Opening) → length (buffer_of o s.held buffer c) ≡ length buffer
    go (refused k) = refl
    go (done no_header) = length-sets buffer s.held c
    go (done too_long) = refl
    go (done (begun n)) = length-sets buffer s.held c
    go (done (whole n)) = length-sets buffer s.held (take (n - s.held) c)

-- a buffer that is shorter than a header: nothing is taken
record Untouched (s : FrameState) (t : List ℕ) (fs : List (List ℕ)) : Type 0 where
  state : s ≡ reset_state
  stream : t ≡ []
  frames : fs ≡ []

narrow : (s : FrameState) (buffer t : List ℕ) (fs : List (List ℕ)) → Called s buffer t fs → length buffer < header_size → Untouched s t fs
narrow s buffer t fs (reset b p) h = record { state = refl; stream = refl; frames = refl }
narrow s buffer t fs (call u b y gs c l q) h =
    let k : length b < header_size = omega (arith, buffer_length u b c) in
    let i = narrow u b y gs l k in
    let a : scrap_answer u b c ≡ refused 2 = rw i.state (narrow_answer b k c) in
    record { state = rw i.state (narrow_state b k c); stream = rw (a, i.stream); frames = rw (a, i.frames) }

module _ (room : ℕ) where
  next : (s : FrameState) (buffer t : List ℕ) (fs : List (List ℕ)) (c : List ℕ) → Bytes c → Right room s buffer t fs
      → Right room (state_after s buffer c) (buffer_after s buffer c) (t ++ taken_by (scrap_answer s buffer c) c) (fs ++ handed_by (scrap_answer s buffer c) (buffer_after s buffer c))
  next s buffer t fs c q r = go r.stands
    where
      -- nothing was taken
      not : {k : ℕ} → scrap_answer s buffer c ≡ refused k → Holds room (state_after s buffer c) (buffer_after s buffer c) (rest_of room t) ⊎ Stuck (state_after s buffer c)
          → Right room (state_after s buffer c) (buffer_after s buffer c) (t ++ taken_by (scrap_answer s buffer c) c) (fs ++ handed_by (scrap_answer s buffer c) (buffer_after s buffer c))
      not a u = rw (a, append-nil t, append-nil fs) (record { frames = r.frames; stands = u })

      to : (h : Holds room s buffer (rest_of room t)) (b : Bytes (rest_of room t ++ c)) → Comes room s buffer (rest_of room t) h c b
          → Right room (state_after s buffer c) (buffer_after s buffer c) (t ++ taken_by (scrap_answer s buffer c) c) (fs ++ handed_by (scrap_answer s buffer c) (buffer_after s buffer c))
      to h b (keeps a f e v) =
          rw a (record { frames = ap (λ (x : List (List ℕ)). x ++ []) r.frames ∙ sym (frames_append room t c ∙ rw f); stands = inl (rw (rest_append room t c ∙ e) v) })
      to h b (hands a l m x p d f e v) =
          let u : List ℕ = rest_of room t ++ c in
          let g : List ℕ = take (frame_length u) u in
          let z : frame_length u ≡ 0 → ⊥ = λ y. omega arith in
          let n : length g ≡ frame_length u = length-take-le (frame_length u) u m in
          let o = one_frame room g (omega (arith, n, frame_some u z)) (frame_front u z m) (omega arith) in
          let k : length (rest_of room t) + (frame_length u - s.held) ≡ frame_length u = omega (arith, h.held) in
          let j : rest_of room t ++ take (frame_length u - s.held) c ≡ g = sym (take-append-add (rest_of room t) c (frame_length u - s.held)) ∙ ap (λ (i : ℕ). take i u) k in
          rw a
          (record {
            frames =
                ap (λ (y : List (List ℕ)). y ++ (take (frame_length u) (buffer_after s buffer c) ∷ [])) r.frames
                ∙ ap (λ (y : List ℕ). frames_of room t ++ (y ∷ [])) p
                ∙ sym (frames_append room t (take (frame_length u - s.held) c) ∙ rw (j, o.0));
            stands = inl (rw (rest_append room t (take (frame_length u - s.held) c) ∙ ap (rest_of room) j ∙ o.1) v);
          })
      to h b (refuses e z a f g u v) = not a (inr (rw u (record { few = omega (arith, h.held, frame_zero (rest_of room t) z); none = h.length_is ∙ z; said = refl })))

      go : Holds room s buffer (rest_of room t) ⊎ Stuck s
          → Right room (state_after s buffer c) (buffer_after s buffer c) (t ++ taken_by (scrap_answer s buffer c) c) (fs ++ handed_by (scrap_answer s buffer c) (buffer_after s buffer c))
      go (inl h) = let b = bytes_both (rest_of room t) c h.bytes q in to h b (comes room s buffer (rest_of room t) h c b)
      go (inr u) = not (stuck_answer s u buffer c) (inr (rw (stuck_state s u buffer c) u))

  right : header_size ≤ room → (s : FrameState) (buffer t : List ℕ) (fs : List (List ℕ)) → Called s buffer t fs → length buffer ≡ room → Right room s buffer t fs
  right w s buffer t fs (reset b p) e =
      let h = reset_holds room b w e in
      let z = holds_still room reset_state b [] h in
      record { frames = sym z.0; stands = inl (rw z.1 h) }
  right w s buffer t fs (call u b y gs c l q) e = next u b y gs c q (right w u b y gs l (sym (buffer_length u b c) ∙ e))

-- a frame of n bytes, of a stream that had r since the last one's end: c brings its last byte, and m is how many bytes of c it wanted
pub record AtOnce (r c buffer : List ℕ) (n m : ℕ) : Type 0 where
  pub before : length r < n
  pub there : n ≤ length (r ++ c)
  pub took : m ≡ n - length r
  pub front : take n buffer ≡ take n (r ++ c)

never_handed : {B : Type 0} (n m : ℕ) → done all ≡ done (frame n m) → B
never_handed n m h = absurd (let z : ◌≡◌ {A = ℕ} 0 1 = cc in omega arith)

-- ---- the theorems
module _ (s : FrameState) (buffer t : List ℕ) (fs : List (List ℕ)) (c : Called s buffer t fs) where
  -- the frames that calls handed out are the whole frames of the bytes that they took
  pub called_frames : fs ≡ frames_of (length buffer) t
  called_frames = go (below_or (length buffer) header_size)
    where
      go : (length buffer < header_size) ⊎ (header_size ≤ length buffer) → fs ≡ frames_of (length buffer) t
      go (inl h) = (narrow s buffer t fs c h).frames ∙ sym (narrow_frames buffer t h)
      go (inr h) = (right (length buffer) h s buffer t fs c refl).frames

  -- and as long as none was refused for its length, the front of the buffer holds what they took since the last frame's end, and nothing more is held
  pub called_kept : s.refused ≡ false → (s.held ≡ length (rest_of (length buffer) t)) × (take s.held buffer ≡ rest_of (length buffer) t)
  called_kept f = go (below_or (length buffer) header_size)
    where
      stood : Holds (length buffer) s buffer (rest_of (length buffer) t) ⊎ Stuck s → (s.held ≡ length (rest_of (length buffer) t)) × (take s.held buffer ≡ rest_of (length buffer) t)
      stood (inl h) = (h.held, h.kept)
      stood (inr u) = absurd (true≢false (sym u.said ∙ f))

      go : (length buffer < header_size) ⊎ (header_size ≤ length buffer) → (s.held ≡ length (rest_of (length buffer) t)) × (take s.held buffer ≡ rest_of (length buffer) t)
      go (inl h) = let n = narrow s buffer t fs c h in let z = empty_still (length buffer) in rw (n.stream, n.state, z.1) (refl, refl)
      go (inr h) = stood (right (length buffer) h s buffer t fs c refl).stands

  -- the next call, with a scrap: refused, or what it comes to
  module _ (scrap : List ℕ) (q : Bytes scrap) where
    data Asked : Type 0 where
      not : scrap_answer s buffer scrap ≡ refused 2 → Asked
      comes_to : (h : Holds (length buffer) s buffer (rest_of (length buffer) t)) (b : Bytes (rest_of (length buffer) t ++ scrap))
          → Comes (length buffer) s buffer (rest_of (length buffer) t) h scrap b → Asked

    asked : Asked
    asked = go (below_or (length buffer) header_size)
      where
        stood : Holds (length buffer) s buffer (rest_of (length buffer) t) ⊎ Stuck s → Asked
        stood (inl h) = let b = bytes_both (rest_of (length buffer) t) scrap h.bytes q in comes_to h b (comes (length buffer) s buffer (rest_of (length buffer) t) h scrap b)
        stood (inr u) = not (stuck_answer s u buffer scrap)

        go : (length buffer < header_size) ⊎ (header_size ≤ length buffer) → Asked
        go (inl h) = not (rw (narrow s buffer t fs c h).state (narrow_answer buffer h scrap))
        go (inr h) = stood (right (length buffer) h s buffer t fs c refl).stands

    -- a call that hands a frame out brings its last byte
    pub each_at_once : (n m : ℕ) → scrap_answer s buffer scrap ≡ done (frame n m) → AtOnce (rest_of (length buffer) t) scrap (buffer_after s buffer scrap) n m
    each_at_once n m a = go asked
      where
        go : Asked → AtOnce (rest_of (length buffer) t) scrap (buffer_after s buffer scrap) n m
        go (not e) = never (sym e ∙ a)
        go (comes_to h b (keeps e f r v)) = never_handed n m (sym e ∙ a)
        go (comes_to h b (hands e l k x p d f r v)) =
            let u : List ℕ = rest_of (length buffer) t ++ scrap in
            let w : done (frame n m) ≡ done (frame (frame_length u) (frame_length u - s.held)) = sym a ∙ e in
            let y : n ≡ frame_length u = cc in
            let z : m ≡ frame_length u - s.held = cc in
            rw y (record { before = l; there = k; took = z ∙ rw h.held; front = p })
        go (comes_to h b (refuses e z g f r v x)) = never (sym g ∙ a)

    -- and one that takes all of its scrap leaves no whole frame waiting
    pub none_waits : scrap_answer s buffer scrap ≡ done all → frames_of (length buffer) (t ++ scrap) ≡ frames_of (length buffer) t
    none_waits a = frames_append (length buffer) t scrap ∙ rw (go asked) (append-nil (frames_of (length buffer) t))
      where
        go : Asked → frames_of (length buffer) (rest_of (length buffer) t ++ scrap) ≡ []
        go (not e) = never (sym e ∙ a)
        go (comes_to h b (keeps e f r v)) = f
        go (comes_to h b (hands e l k x p d f r v)) = never_handed _ _ (sym a ∙ e)
        go (comes_to h b (refuses e z g f r v x)) = never (sym g ∙ a)
