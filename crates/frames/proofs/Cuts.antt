-- However a stream is cut into scraps, the collector hands out its frames. Assumes nothing.
use Prim.Native.Nat.{ℕ, zero, suc, ◌-◌, ◌≤◌, ◌<◌}
use mathlib.Core.Path.{◌≡◌, refl, sym, ap, ◌∙◌}
use mathlib.Core.List.{List, [], ◌∷◌, ◌++◌, append_assoc, append-nil}
use mathlib.Core.Bool.{true, false, true≢false}
use mathlib.Core.Logic.{◌⊎◌, inl, inr}
use native.Mathlib.Omega.{arith}
use lib.ListN.{length, take, drop, length-append, length-drop}
use Rattle.wire.specs.Numbers.{Bytes}
use Rattle.wire.specs.Folds.{joined}
use Rattle.wire.specs.Answers.{done, refused}
use Rattle.wire.proofs.Numbers.{below_or, bytes_drop}
use Rattle.frames.specs.Frames.{header_size, frame_length, no_header, too_long, begun, whole, opening, frames_of, rest_of}
use Rattle.frames.specs.Calls.{reset_state, all, frame, scrap_answer, state_after, buffer_after}
use Rattle.frames.specs.declared.FrameState.{FrameState}
use Rattle.frames.proofs.CallLaws.{frame_some, opens_long}
use Rattle.frames.specs.Drives.{Driven, behind, gives, drive}
use Rattle.frames.proofs.Streams.{frame_more, frame_zero, not_long, View, is_none, is_long, is_begun, is_whole, view, frames_stop, frames_append, rest_append}
use Rattle.frames.proofs.Holds.{Holds, reset_holds, holds_still, holds_fits, Comes, keeps, hands, refuses, comes}
use Rattle.frames.proofs.States.{Stuck, stuck_answer, stuck_state, stuck_buffer, narrow_answer, narrow_state, narrow_buffer}

-- ---- one scrap

-- what stands after it: what is left of the stream is held, or it was refused for good, since a frame is too long
pub data Stands (room : ℕ) (s : FrameState) (buffer r : List ℕ) : Type 0 where
  held : Holds room s buffer r → Stands room s buffer r
  stuck : Stuck s → opening room r ≡ too_long → Stands room s buffer r

pub record Gave (room : ℕ) (t : List ℕ) (d : Driven) : Type 0 where
  pub frames : d.handed ≡ frames_of room t
  pub stands : Stands room d.state d.buffer (rest_of room t)

-- one turn, by what the call answered
module _ (k : ℕ) (s : FrameState) (buffer c : List ℕ) where
  abbrev ended : Driven
  ended = record { state = state_after s buffer c; buffer = buffer_after s buffer c; handed = [] }

  gives_all : scrap_answer s buffer c ≡ done all → gives (suc k) s buffer c ≡ ended
  gives_all e = simp (e, gives)

  pub gives_not : (n : ℕ) → scrap_answer s buffer c ≡ refused n → gives (suc k) s buffer c ≡ ended
  gives_not n e = simp (e, gives)

  gives_frame : (n m : ℕ) → scrap_answer s buffer c ≡ done (frame n m)
      → gives (suc k) s buffer c ≡ behind (take n (buffer_after s buffer c) ∷ []) (gives k (state_after s buffer c) (buffer_after s buffer c) (drop m c))
  gives_frame n m e = simp (e, gives)

-- bytes end to end
bytes_behind : (a b : List ℕ) → Bytes (a ++ b) → Bytes b
bytes_behind [] b p = p
bytes_behind (x ∷ a) b p = bytes_behind a b (λ k. p (suc k))

bytes_before : (a b : List ℕ) → Bytes (a ++ b) → Bytes a
bytes_before [] b p k = omega arith
bytes_before (x ∷ a) b p zero = p 0
bytes_before (x ∷ a) b p (suc k) = bytes_before a b (λ i. p (suc i)) k

pub bytes_both : (a b : List ℕ) → Bytes a → Bytes b → Bytes (a ++ b)
bytes_both [] b p q k = q k
bytes_both (x ∷ a) b p q zero = p 0
bytes_both (x ∷ a) b p q (suc k) = bytes_both a b (λ i. p (suc i)) q k

gives_frames : (k room : ℕ) (s : FrameState) (buffer t c : List ℕ) → length c ≤ k → Holds room s buffer t → Bytes (t ++ c) → Gave room (t ++ c) (gives k s buffer c)
gives_frames zero room s buffer t [] l h b = let w = holds_still room s buffer t h in rw (append-nil t) (record { frames = sym w.0; stands = rw w.1 (held h) })
gives_frames zero room s buffer t (x ∷ c) l h b = absurd (omega arith)
gives_frames (suc k) room s buffer t c l h b = go (comes room s buffer t h c b) (λ (u : FrameState) (d e : List ℕ) (m : length e ≤ k). gives_frames k room u d [] e m)
  where
    go : Comes room s buffer t h c b → ((u : FrameState) (d e : List ℕ) → length e ≤ k → Holds room u d [] → Bytes e → Gave room e (gives k u d e)) → Gave room (t ++ c) (gives (suc k) s buffer c)
    go (keeps a f r w) ih = rw (gives_all k s buffer c a) (record { frames = sym f; stands = rw r (held w) })
    go (hands a m q x p d f r w) ih =
        let n = frame_length (t ++ c) in
        let i = ih (state_after s buffer c) (buffer_after s buffer c) (drop (n - s.held) c) (omega (arith, length-drop (n - s.held) c, h.held, length-append t c)) w (bytes_drop c (n - s.held) (bytes_behind t c b)) in
        rw (gives_frame k s buffer c n (n - s.held) a)
        (record {
          frames =
              ap (λ (x : List ℕ). x ∷ (gives k (state_after s buffer c) (buffer_after s buffer c) (drop (n - s.held) c)).handed) p
              ∙ ap (λ (fs : List (List ℕ)). take n (t ++ c) ∷ fs) (i.frames ∙ ap (frames_of room) d)
              ∙ sym f;
          stands = rw (r ∙ ap (rest_of room) (sym d)) i.stands;
        })
    go (refuses e z a f r u v) ih =
        rw (gives_not k s buffer c 2 a)
        (record { frames = sym f; stands = rw r (stuck (rw u (record { few = omega (arith, h.held, frame_zero t z); none = h.length_is ∙ z; said = refl })) e) })

-- ---- scraps, one after the other

module _ (room : ℕ) where
  stands_still : (s : FrameState) (buffer r : List ℕ) → Stands room s buffer r → (frames_of room r ≡ []) × (rest_of room r ≡ r)
  stands_still s buffer r (held h) = holds_still room s buffer r h
  stands_still s buffer r (stuck u e) = frames_stop room r too_long tt e

  -- a frame that is too long stays so, whatever follows
  long_more : (r c : List ℕ) → opening room r ≡ too_long → opening room (r ++ c) ≡ too_long
  long_more r c e = go (view room r)
    where
      go : View room r → opening room (r ++ c) ≡ too_long
      go (is_none f z) = absurd (not_long no_header tt (sym f ∙ e))
      go (is_long f g l) = let m : frame_length (r ++ c) ≡ frame_length r = frame_more r c g in opens_long room (frame_length (r ++ c)) (r ++ c) (λ z. g (sym m ∙ z)) (omega (arith, m))
      go (is_begun f g l q) = absurd (not_long (begun (frame_length r)) tt (sym f ∙ e))
      go (is_whole f g l q) = absurd (not_long (whole (frame_length r)) tt (sym f ∙ e))

  -- once refused, nothing more is handed out
  pub gives_stuck : (k : ℕ) (s : FrameState) (buffer c : List ℕ) → Stuck s → gives k s buffer c ≡ record { state = s; buffer = buffer; handed = [] }
  gives_stuck zero s buffer c u = refl
  gives_stuck (suc k) s buffer c u = gives_not k s buffer c 2 (stuck_answer s u buffer c) ∙ rw (stuck_state s u buffer c, stuck_buffer s u buffer c)

  gives_stands : (s : FrameState) (buffer r c : List ℕ) → Stands room s buffer r → Bytes c → Gave room (r ++ c) (gives (length c) s buffer c)
  gives_stands s buffer r c (held h) b = gives_frames (length c) room s buffer r c (omega arith) h (bytes_both r c h.bytes b)
  gives_stands s buffer r c (stuck u e) b =
      let w = frames_stop room (r ++ c) too_long tt (long_more r c e) in
      rw (gives_stuck (length c) s buffer c u) (record { frames = sym w.0; stands = rw w.1 (stuck u (long_more r c e)) })

  drives : (s : FrameState) (buffer r : List ℕ) (cs : List (List ℕ)) → Stands room s buffer r → Bytes (joined (λ c. c) cs) → Gave room (r ++ joined (λ c. c) cs) (drive s buffer cs)
  drives s buffer r [] w b = let v = stands_still s buffer r w in rw (append-nil r) (record { frames = sym v.0; stands = rw v.1 w })
  drives s buffer r (c ∷ cs) w b =
      let d : Driven = gives (length c) s buffer c in
      let g = gives_stands s buffer r c w (bytes_before c (joined (λ x. x) cs) b) in
      let i = drives d.state d.buffer (rest_of room (r ++ c)) cs g.stands (bytes_behind c (joined (λ x. x) cs) b) in
      let a = frames_append room (r ++ c) (joined (λ x. x) cs) in
      let q = rest_append room (r ++ c) (joined (λ x. x) cs) in
      rw (sym (append_assoc r c (joined (λ x. x) cs)))
      (record { frames = simp (g.frames, i.frames, a); stands = rw q i.stands })

-- what is handed out during the first scraps comes first
pub drive_append : (s : FrameState) (buffer : List ℕ) (one other : List (List ℕ))
    → drive s buffer (one ++ other) ≡ behind (drive s buffer one).handed (drive (drive s buffer one).state (drive s buffer one).buffer other)
drive_append s buffer [] other = refl
drive_append s buffer (c ∷ one) other =
    let d : Driven = gives (length c) s buffer c in
    ap (behind d.handed) (drive_append d.state d.buffer one other)
    ∙ ap (λ (fs : List (List ℕ)). record { state = (drive (drive s buffer (c ∷ one)).state (drive s buffer (c ∷ one)).buffer other).state; buffer = (drive (drive s buffer (c ∷ one)).state (drive s buffer (c ∷ one)).buffer other).buffer; handed = fs })
    (sym (append_assoc d.handed (drive d.state d.buffer one).handed (drive (drive d.state d.buffer one).state (drive d.state d.buffer one).buffer other).handed))

-- ---- the theorems: from a reset, over one buffer, whatever its length
module _ (buffer : List ℕ) where
  abbrev stream : List (List ℕ) → List ℕ
  stream scraps = joined (λ c. c) scraps

  abbrev after : List (List ℕ) → Driven
  after scraps = drive reset_state buffer scraps

  abbrev untouched : Driven
  untouched = record { state = reset_state; buffer = buffer; handed = [] }

  -- a buffer that is shorter than a header: nothing is taken, and no frame fits it
  narrow_gives : (k : ℕ) (c : List ℕ) → length buffer < header_size → gives k reset_state buffer c ≡ untouched
  narrow_gives zero c h = refl
  narrow_gives (suc k) c h = gives_not k reset_state buffer c 2 (narrow_answer buffer h c) ∙ rw (narrow_state buffer h c, narrow_buffer buffer h c)

  narrow_drive : (scraps : List (List ℕ)) → length buffer < header_size → after scraps ≡ untouched
  narrow_drive [] h = refl
  narrow_drive (c ∷ cs) h = rw (narrow_gives (length c) c h) (narrow_drive cs h)

  pub narrow_frames : (s : List ℕ) → length buffer < header_size → frames_of (length buffer) s ≡ []
  narrow_frames s h = go (view (length buffer) s)
    where
      go : View (length buffer) s → frames_of (length buffer) s ≡ []
      go (is_none e z) = (frames_stop (length buffer) s no_header tt e).0
      go (is_long e f r) = (frames_stop (length buffer) s too_long tt e).0
      go (is_begun e f r l) = (frames_stop (length buffer) s (begun (frame_length s)) tt e).0
      go (is_whole e f r l) = absurd (omega (arith, frame_some s f))

  driven : header_size ≤ length buffer → (scraps : List (List ℕ)) → Bytes (stream scraps) → Gave (length buffer) (stream scraps) (after scraps)
  driven h scraps b = drives (length buffer) reset_state buffer [] scraps (held (reset_holds (length buffer) buffer h refl)) b

  -- the frames that are handed out are the stream's whole frames, up to the first that is too long
  pub cutting : (scraps : List (List ℕ)) → Bytes (stream scraps) → (after scraps).handed ≡ frames_of (length buffer) (stream scraps)
  cutting scraps b = go (below_or (length buffer) header_size)
    where
      go : (length buffer < header_size) ⊎ (header_size ≤ length buffer) → (after scraps).handed ≡ frames_of (length buffer) (stream scraps)
      go (inl h) = ap (λ (d : Driven). d.handed) (narrow_drive scraps h) ∙ sym (narrow_frames (stream scraps) h)
      go (inr h) = (driven h scraps b).frames

  -- so another cutting of the same stream gives the same frames
  pub cut_elsewhere : (one other : List (List ℕ)) → stream one ≡ stream other → Bytes (stream one) → (after one).handed ≡ (after other).handed
  cut_elsewhere one other e b = cutting one b ∙ ap (frames_of (length buffer)) e ∙ sym (cutting other (rw e at b))

  module _ (scraps : List (List ℕ)) (b : Bytes (stream scraps)) where
    abbrev rest : List ℕ
    rest = rest_of (length buffer) (stream scraps)

    -- as long as nothing was refused, what is held at the front of the buffer is the stream since its last frame's end
    pub kept_bytes : header_size ≤ length buffer → (after scraps).state.refused ≡ false
        → ((after scraps).state.held ≡ length rest) × (take (after scraps).state.held (after scraps).buffer ≡ rest)
    kept_bytes h f = go (driven h scraps b).stands
      where
        go : Stands (length buffer) (after scraps).state (after scraps).buffer rest → ((after scraps).state.held ≡ length rest) × (take (after scraps).state.held (after scraps).buffer ≡ rest)
        go (held w) = (w.held, w.kept)
        go (stuck u e) = absurd (true≢false (sym u.said ∙ f))

    -- the state says refused exactly when a frame that is too long was met
    pub refused_exactly : header_size ≤ length buffer → ((after scraps).state.refused ≡ true → opening (length buffer) rest ≡ too_long) × (opening (length buffer) rest ≡ too_long → (after scraps).state.refused ≡ true)
    refused_exactly h = go (driven h scraps b).stands
      where
        go : Stands (length buffer) (after scraps).state (after scraps).buffer rest
            → ((after scraps).state.refused ≡ true → opening (length buffer) rest ≡ too_long) × (opening (length buffer) rest ≡ too_long → (after scraps).state.refused ≡ true)
        go (held w) = (λ e. absurd (true≢false (sym e ∙ w.fine)), λ e. absurd (holds_fits (length buffer) (after scraps).state (after scraps).buffer rest w e))
        go (stuck u e) = (λ f. e, λ f. u.said)
