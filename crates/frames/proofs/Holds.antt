-- A state and a buffer that hold what the stream has since its last frame's end; and what a call then answers and leaves. Assumes nothing.
use Prim.Native.Nat.{ℕ, ◌+◌, ◌-◌, ◌≤◌, ◌<◌}
use mathlib.Core.Path.{◌≡◌, refl, sym, ap, ◌∙◌}
use mathlib.Core.List.{List, [], ◌∷◌, ◌++◌}
use mathlib.Core.Bool.{true, false}
use mathlib.Core.Logic.{◌⊎◌, inl, inr}
use native.Mathlib.Omega.{arith}
use lib.ListN.{length, take, drop, length-append}
use lib.Seq.{sets, sets-eq, length-sets, length-take-le, drop-append-add, take-append-add, take_at}
use borrow.Author.Tests.{lt-ltb, le-ltb}
use Rattle.wire.specs.Numbers.{Bytes}
use Rattle.wire.specs.Answers.{Answer, done, refused, under, over, other, KeepsAll}
use Rattle.frames.specs.Frames.{header_size, max_frame, frame_length, Opening, no_header, too_long, begun, whole, opening_of, opening, frames_of, rest_of}
use Rattle.frames.specs.Calls.{reset_state, flag, state_rules, length_of, brought, outcome, all, frame, answer_of, state_of, buffer_of, scrap_answer, state_after, buffer_after}
use Rattle.frames.specs.declared.FrameState.{FrameState}
use Rattle.frames.proofs.CallLaws.{zero_or, length_known, length_read, frame_some, Open, admitted_is}
use Rattle.frames.proofs.Streams.{frame_more, frame_most, frame_none, frame_zero, not_long, View, is_none, is_long, is_begun, is_whole, view, frames_stop, frames_go}

-- ---- states that keep the rules
module _ (s : FrameState) where
  pub few_keeps : s.held < header_size → s.length ≡ 0 → KeepsAll (state_rules s)
  few_keeps h e = let w : KeepsAll (other s.length 0 11 ∷ []) = (e, tt) in simp (lt-ltb s.held header_size h) w

  pub many_keeps : header_size ≤ s.held → Open s → KeepsAll (state_rules s)
  many_keeps h o =
      let w : KeepsAll (other (flag s.refused) 0 11 ∷ over s.length max_frame 11 ∷ under s.length (s.held + 1) 11 ∷ [])
      = (o.fine, (o.most, (omega (arith, o.more), tt))) in
      simp (le-ltb s.held header_size h) w

-- ---- what is held is the stream's t: less than a frame that fits
module _ (room : ℕ) (s : FrameState) (buffer t : List ℕ) where
  pub record Holds : Type 0 where
    pub wide : header_size ≤ room
    pub size : length buffer ≡ room
    pub held : s.held ≡ length t
    pub kept : take s.held buffer ≡ t
    pub length_is : s.length ≡ frame_length t
    pub fine : s.refused ≡ false
    pub fits : frame_length t ≤ room
    pub less : (frame_length t ≡ 0 → ⊥) → length t < frame_length t
    pub bytes : Bytes t

  module _ (h : Holds) where
    pub holds_state : KeepsAll (state_rules s)
    holds_state = go (zero_or (frame_length t))
      where
        go : (frame_length t ≡ 0) ⊎ (frame_length t ≡ 0 → ⊥) → KeepsAll (state_rules s)
        go (inl z) = few_keeps s (omega (arith, h.held, frame_zero t z)) (h.length_is ∙ z)
        go (inr f) =
            many_keeps s (omega (arith, h.held, frame_some t f))
            (record { fine = ap flag h.fine; more = omega (arith, h.held, h.length_is, h.less f); most = omega (arith, h.length_is, frame_most t h.bytes) })

    -- what is held has room
    pub holds_room : s.held ≤ room
    holds_room = go (zero_or (frame_length t))
      where
        go : (frame_length t ≡ 0) ⊎ (frame_length t ≡ 0 → ⊥) → s.held ≤ room
        go (inl z) = omega (arith, h.held, h.wide, frame_zero t z)
        go (inr f) = omega (arith, h.held, h.less f, h.fits)

    -- what the call finds is what the stream begins with
    module _ (c : List ℕ) where
      length_of_lem : length_of s.length (t ++ c) ≡ frame_length (t ++ c)
      length_of_lem = go (zero_or s.length)
        where
          go : (s.length ≡ 0) ⊎ (s.length ≡ 0 → ⊥) → length_of s.length (t ++ c) ≡ frame_length (t ++ c)
          go (inl z) = sym (length_read s (t ++ c) (frame_length (t ++ c)) z refl)
          go (inr f) = sym (length_known s (t ++ c) f) ∙ h.length_is ∙ sym (frame_more t c (λ z. f (h.length_is ∙ z)))

      pub holds_outcome : outcome s buffer c ≡ done (opening room (t ++ c))
      unfolding outcome brought
      holds_outcome =
          admitted_is s (length buffer) (done (brought s buffer c)) holds_state
          (omega (arith, h.wide, h.size), (omega (arith, holds_room, h.size), (omega (arith, h.length_is, h.fits, h.size), (ap flag h.fine, tt))))
          ∙ ap (λ (l : List ℕ). done (opening_of (length buffer) (length_of s.length (l ++ c)) (l ++ c))) h.kept
          ∙ ap (λ (n : ℕ). done (opening_of n (length_of s.length (t ++ c)) (t ++ c))) h.size
          ∙ ap (λ (n : ℕ). done (opening_of room n (t ++ c))) length_of_lem

-- ---- what is stored behind what is kept
pub stored_front : (b v : List ℕ) (i : ℕ) → i + length v ≤ length b → take (i + length v) (sets b i v) ≡ take i b ++ v
stored_front b v i h =
    ap (take (i + length v)) (sets-eq v b i h)
    ∙ take_at (take i b ++ v) (drop (i + length v) b) (i + length v) (length-append (take i b) v ∙ rw (length-take-le i b (omega arith)))

pub no_bytes : Bytes []
no_bytes k = omega arith

-- a reset holds nothing
pub reset_holds : (room : ℕ) (buffer : List ℕ) → header_size ≤ room → length buffer ≡ room → Holds room reset_state buffer []
reset_holds room buffer w e =
    let z : frame_length [] ≡ 0 = frame_none [] (omega arith) in
    record {
      wide = w;
      size = e;
      held = refl;
      kept = refl;
      length_is = sym z;
      fine = refl;
      fits = omega (arith, z);
      less = λ f. absurd (f z);
      bytes = no_bytes;
    }

-- what is held has no whole frame
pub holds_still : (room : ℕ) (s : FrameState) (buffer t : List ℕ) → Holds room s buffer t → (frames_of room t ≡ []) × (rest_of room t ≡ t)
holds_still room s buffer t h = go (view room t)
  where
    go : View room t → (frames_of room t ≡ []) × (rest_of room t ≡ t)
    go (is_none e z) = frames_stop room t no_header tt e
    go (is_long e f r) = frames_stop room t too_long tt e
    go (is_begun e f r l) = frames_stop room t (begun (frame_length t)) tt e
    go (is_whole e f r l) = absurd (omega (arith, h.less f))

-- and is not too long
pub holds_fits : (room : ℕ) (s : FrameState) (buffer t : List ℕ) → Holds room s buffer t → opening room t ≡ too_long → ⊥
holds_fits room s buffer t h q = go (view room t)
  where
    go : View room t → ⊥
    go (is_none e z) = not_long no_header tt (sym e ∙ q)
    go (is_long e f r) = omega (arith, h.fits)
    go (is_begun e f r l) = not_long (begun (frame_length t)) tt (sym e ∙ q)
    go (is_whole e f r l) = not_long (whole (frame_length t)) tt (sym e ∙ q)

-- ---- a call
module _ (room : ℕ) (s : FrameState) (buffer t : List ℕ) (h : Holds room s buffer t) (c : List ℕ) (by : Bytes (t ++ c)) where
  abbrev after : Opening → FrameState
  after o = state_of (done o) s c

  abbrev left : Opening → List ℕ
  left o = buffer_of (done o) s.held buffer c

  module _ (o : Opening) (e : opening room (t ++ c) ≡ o) where
    pub call_answer : scrap_answer s buffer c ≡ answer_of (done o) s.held
    call_answer = ap (λ (x : Answer Opening). answer_of x s.held) (holds_outcome room s buffer t h c ∙ ap done e)

    pub call_state : state_after s buffer c ≡ after o
    call_state = ap (λ (x : Answer Opening). state_of x s c) (holds_outcome room s buffer t h c ∙ ap done e)

    pub call_buffer : buffer_after s buffer c ≡ left o
    call_buffer = ap (λ (x : Answer Opening). buffer_of x s.held buffer c) (holds_outcome room s buffer t h c ∙ ap done e)

  -- all of it is taken: it is held as well
  holds_all : (n : ℕ) → n ≡ frame_length (t ++ c) → length (t ++ c) ≤ room → n ≤ room → ((n ≡ 0 → ⊥) → length (t ++ c) < n)
      → Holds room (record { held = s.held + length c; length = n; refused = false }) (sets buffer s.held c) (t ++ c)
  holds_all n e l f g =
      let m : length (t ++ c) ≡ s.held + length c = length-append t c ∙ rw h.held in
      let d : s.held + length c ≤ length buffer = omega (arith, m, h.size) in
      record {
        wide = h.wide;
        size = length-sets buffer s.held c ∙ h.size;
        held = sym m;
        kept = stored_front buffer c s.held d ∙ rw h.kept;
        length_is = e;
        fine = refl;
        fits = omega arith;
        less = λ q. rw e at (g (λ z. q (sym e ∙ z)));
        bytes = by;
      }

  -- what is held is less than the frame that it begins
  length_less : (frame_length (t ++ c) ≡ 0 → ⊥) → length t < frame_length (t ++ c)
  length_less f = go (zero_or (frame_length t))
    where
      go : (frame_length t ≡ 0) ⊎ (frame_length t ≡ 0 → ⊥) → length t < frame_length (t ++ c)
      go (inl z) = omega (arith, frame_some (t ++ c) f, frame_zero t z)
      go (inr g) = omega (arith, h.less g, frame_more t c g)

  -- a frame's end is reached: it lies at the front of the buffer, what is left of the scrap begins the next, and nothing is held
  module _ (l : frame_length (t ++ c) ≤ length (t ++ c)) (f : frame_length (t ++ c) ≤ room) (k : (frame_length (t ++ c) ≡ 0 → ⊥)) where
    abbrev size_of : ℕ
    size_of = frame_length (t ++ c)

    held_less : s.held < size_of
    held_less = omega (arith, h.held, length_less k)

    took_length : length (take (size_of - s.held) c) ≡ size_of - s.held
    took_length = length-take-le (size_of - s.held) c (omega (arith, length-append t c, h.held))

    pub whole_front : take size_of (left (whole size_of)) ≡ take size_of (t ++ c)
    whole_front =
        let m : s.held + length (take (size_of - s.held) c) ≡ size_of = omega (arith, took_length, held_less) in
        let n : length t + (size_of - s.held) ≡ size_of = omega (arith, held_less, h.held) in
        ap (λ (i : ℕ). take i (left (whole size_of))) (sym m)
        ∙ stored_front buffer (take (size_of - s.held) c) s.held (omega (arith, m, h.size))
        ∙ rw h.kept (sym (take-append-add t c (size_of - s.held)) ∙ ap (λ (i : ℕ). take i (t ++ c)) n)

    pub whole_rest : drop (size_of - s.held) c ≡ drop size_of (t ++ c)
    whole_rest =
        let n : length t + (size_of - s.held) ≡ size_of = omega (arith, held_less, h.held) in
        sym (drop-append-add t c (size_of - s.held)) ∙ ap (λ (i : ℕ). drop i (t ++ c)) n

  -- what a call comes to
  pub data Comes : Type 0 where
    keeps : scrap_answer s buffer c ≡ done all → frames_of room (t ++ c) ≡ [] → rest_of room (t ++ c) ≡ t ++ c
        → Holds room (state_after s buffer c) (buffer_after s buffer c) (t ++ c) → Comes
    hands : scrap_answer s buffer c ≡ done (frame (frame_length (t ++ c)) (frame_length (t ++ c) - s.held)) → length t < frame_length (t ++ c) → frame_length (t ++ c) ≤ length (t ++ c) → frame_length (t ++ c) ≤ room
        → take (frame_length (t ++ c)) (buffer_after s buffer c) ≡ take (frame_length (t ++ c)) (t ++ c)
        → drop (frame_length (t ++ c) - s.held) c ≡ drop (frame_length (t ++ c)) (t ++ c)
        → frames_of room (t ++ c) ≡ take (frame_length (t ++ c)) (t ++ c) ∷ frames_of room (drop (frame_length (t ++ c)) (t ++ c))
        → rest_of room (t ++ c) ≡ rest_of room (drop (frame_length (t ++ c)) (t ++ c))
        → Holds room (state_after s buffer c) (buffer_after s buffer c) [] → Comes
    refuses : opening room (t ++ c) ≡ too_long → frame_length t ≡ 0 → scrap_answer s buffer c ≡ refused 2 → frames_of room (t ++ c) ≡ [] → rest_of room (t ++ c) ≡ t ++ c
        → state_after s buffer c ≡ record { held = s.held; length = s.length; refused = true } → buffer_after s buffer c ≡ buffer → Comes

  moved : (o : Opening) (u : List ℕ) → opening room (t ++ c) ≡ o → Holds room (after o) (left o) u → Holds room (state_after s buffer c) (buffer_after s buffer c) u
  moved o u e w = rw (call_state o e, call_buffer o e) w

  pub comes : Comes
  comes = go (view room (t ++ c))
    where
      go : View room (t ++ c) → Comes
      go (is_none e z) =
          let p = frames_stop room (t ++ c) no_header tt e in
          let l : length (t ++ c) < header_size = frame_zero (t ++ c) z in
          keeps (call_answer no_header e) p.0 p.1
          (moved no_header (t ++ c) e (holds_all 0 (sym z) (omega (arith, h.wide)) (omega arith) (λ q. absurd (q refl))))
      go (is_long e f r) =
          let p = frames_stop room (t ++ c) too_long tt e in
          refuses e (new (zero_or (frame_length t))) (call_answer too_long e) p.0 p.1 (call_state too_long e) (call_buffer too_long e)
        where
          new : (frame_length t ≡ 0) ⊎ (frame_length t ≡ 0 → ⊥) → frame_length t ≡ 0
          new (inl z) = z
          new (inr g) = absurd (omega (arith, h.fits, frame_more t c g))
      go (is_begun e f r l) =
          let n = frame_length (t ++ c) in
          let p = frames_stop room (t ++ c) (begun n) tt e in
          keeps (call_answer (begun n) e) p.0 p.1 (moved (begun n) (t ++ c) e (holds_all n refl (omega arith) r (λ q. l)))
      go (is_whole e f r l) =
          let n = frame_length (t ++ c) in
          let p = frames_go room (t ++ c) e f l in
          hands (call_answer (whole n) e) (length_less f) l r (rw (call_buffer (whole n) e) (whole_front l r f)) (whole_rest l r f) p.0 p.1
          (moved (whole n) [] e (reset_holds room (left (whole n)) h.wide (length-sets buffer s.held (take (n - s.held) c) ∙ h.size)))
