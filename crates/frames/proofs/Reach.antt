-- The states that calls from a reset leave are those that are not refused with 11. Assumes nothing.
use Prim.Native.Nat.{ℕ, zero, suc, ◌+◌, ◌-◌, ◌≤◌, ◌<◌}
use mathlib.Core.Path.{◌≡◌, refl, sym, ap, ◌∙◌}
use mathlib.Core.List.{List, [], ◌∷◌, ◌++◌}
use mathlib.Core.Bool.{Bool, true, false}
use mathlib.Core.Logic.{◌⊎◌, inl, inr}
use native.Mathlib.Nat.{zero-add}
use native.Mathlib.Omega.{arith}
use lib.ListN.{length, take, drop, set, replicate, length-append, length-replicate, take-append-drop}
use lib.Seq.{sets, length-take-le}
use borrow.Author.Tests.{le-ltb}
use Rattle.wire.specs.Numbers.{low_first, Bytes}
use Rattle.wire.specs.Answers.{Answer, done, refused, Rule, judged, KeepsAll}
use Rattle.wire.proofs.Numbers.{below_or, value_low, low_bytes, bytes_part, bytes_drop}
use Rattle.wire.proofs.Rules.{never, rule_kept, all_were}
use Rattle.frames.specs.Frames.{header_size, max_frame, frame_length, Opening, no_header, too_long, begun, whole, opening_of, opening}
use Rattle.frames.specs.Calls.{reset_state, flag, state_rules, room_rules, admitted, since, length_of, brought, outcome, answer_of, state_of, buffer_of, scrap_answer, state_after, buffer_after}
use Rattle.frames.specs.declared.FrameState.{FrameState}
use Rattle.frames.proofs.CallLaws.{zero_or, since_length, length_known, length_read, frame_some, opens_none, opens_long, opens_begun, few_kept, Open, many_kept, admitted_keeps, room_header, room_held, room_frame, room_refused, room_serves, admit_length, admit_refused, admit_whole, admit_longest}
use Rattle.frames.specs.Drives.{taken_by, handed_by, Called, reset, call, Left}
use Rattle.frames.proofs.Streams.{frame_most, frame_none, frame_zero, not_long, Kinds, is_none, is_long, is_begun, is_whole, kinds}
use Rattle.frames.proofs.Holds.{few_keeps, many_keeps, Holds, reset_holds, call_state, Comes, keeps, hands, refuses, comes}
use Rattle.frames.proofs.States.{Stuck, stuck_answer, stuck_state, stuck_buffer}
use Rattle.frames.proofs.Cuts.{bytes_both}

-- ---- stores keep bytes bytes
bytes_set : (l : List ℕ) (i v : ℕ) → Bytes l → v < 256 → Bytes (set l i v)
bytes_set [] i v p h k = p k
bytes_set (x ∷ l) zero v p h zero = h
bytes_set (x ∷ l) zero v p h (suc k) = p (suc k)
bytes_set (x ∷ l) (suc i) v p h zero = p 0
bytes_set (x ∷ l) (suc i) v p h (suc k) = bytes_set l i v (λ j. p (suc j)) h k

bytes_sets : (l : List ℕ) (i : ℕ) (vs : List ℕ) → Bytes l → Bytes vs → Bytes (sets l i vs)
bytes_sets l i [] p q = p
bytes_sets l i (v ∷ vs) p q = bytes_sets (set l i v) (suc i) vs (bytes_set l i v p (q 0)) (λ k. q (suc k))

-- ---- a call from a state that is not 11 leaves one that is not
module _ (s : FrameState) (ok : KeepsAll (state_rules s)) (buffer scrap : List ℕ) (p : Bytes buffer) (q : Bytes scrap) where
  abbrev here : List ℕ
  here = since s.held buffer scrap

  abbrev size : ℕ
  size = length_of s.length here

  here_bytes : Bytes here
  here_bytes = bytes_both (take s.held buffer) scrap (bytes_part buffer 0 s.held p) q

  -- what is not known yet has less than a header, and what is has one
  headless : s.length ≡ 0 → s.held < header_size
  headless z = go (below_or s.held header_size)
    where
      go : (s.held < header_size) ⊎ (header_size ≤ s.held) → s.held < header_size
      go (inl h) = h
      go (inr h) = absurd (omega (arith, (many_kept s ok h).more))

  headed : (s.length ≡ 0 → ⊥) → header_size ≤ s.held
  headed f = go (below_or s.held header_size)
    where
      go : (s.held < header_size) ⊎ (header_size ≤ s.held) → header_size ≤ s.held
      go (inl h) = absurd (f (few_kept s ok h))
      go (inr h) = h

  -- the frame's length, known or read
  data Sized : Type 0 where
    read : s.length ≡ 0 → s.held < header_size → size ≡ frame_length here → Sized
    known : header_size ≤ s.held → size ≡ s.length → Open s → Sized

  sized : Sized
  sized = go (zero_or s.length)
    where
      go : (s.length ≡ 0) ⊎ (s.length ≡ 0 → ⊥) → Sized
      go (inl z) = read z (headless z) (sym (length_read s here (frame_length here) z refl))
      go (inr f) = known (headed f) (sym (length_known s here f)) (many_kept s ok (headed f))

  after_sound : KeepsAll (room_rules s (length buffer)) → Kinds (length buffer) size here → Sized → KeepsAll (state_rules (state_of (done (opening_of (length buffer) size here)) s scrap))
  after_sound m (is_none e z) (read y h d) =
      rw e (few_keeps (state_of (done no_header) s scrap) (omega (arith, since_length s.held buffer scrap m.1.0, frame_zero here (sym d ∙ z))) refl)
  after_sound m (is_none e z) (known h d o) = absurd (omega (arith, o.more))
  after_sound m (is_long e f r) (read y h d) = rw e (few_keeps (state_of (done too_long) s scrap) h y)
  after_sound m (is_long e f r) (known h d o) = absurd (omega (arith, m.1.1.0))
  after_sound m (is_begun e f r l) z =
      rw e (many_keeps (state_of (done (begun size)) s scrap) (omega (arith, since_length s.held buffer scrap m.1.0, many z)) (record { fine = refl; more = omega (arith, since_length s.held buffer scrap m.1.0); most = most z }))
    where
      many : Sized → header_size ≤ length here
      many (read y h d) = (frame_some here (λ w. f (d ∙ w))).0
      many (known h d o) = omega (arith, since_length s.held buffer scrap m.1.0)

      most : Sized → size ≤ max_frame
      most (read y h d) = omega (arith, frame_most here here_bytes)
      most (known h d o) = omega (arith, o.most)
  after_sound m (is_whole e f r l) z = rw e (few_keeps reset_state (omega arith) refl)

  sound_after : KeepsAll (state_rules (state_after s buffer scrap))
  unfolding outcome brought
  sound_after = go (outcome s buffer scrap) refl
    where
      go : (o : Answer Opening) → outcome s buffer scrap ≡ o → KeepsAll (state_rules (state_of o s scrap))
      go (refused k) e = ok
      go (done x) e =
          let w = all_were (state_rules s ++ room_rules s (length buffer)) (done (brought s buffer scrap)) x e in
          let m = (admitted_keeps s (length buffer) (brought s buffer scrap) x e).1 in
          rw (sym w.1) (after_sound m (kinds (length buffer) size here) sized)

  bytes_after_lem : Bytes (buffer_after s buffer scrap)
  bytes_after_lem = go (outcome s buffer scrap)
    where
      go : (o : Answer Opening) → Bytes (buffer_of o s.held buffer scrap)
      go (refused k) = p
      go (done no_header) = bytes_sets buffer s.held scrap p q
      go (done too_long) = p
      go (done (begun n)) = bytes_sets buffer s.held scrap p q
      go (done (whole n)) = bytes_sets buffer s.held (take (n - s.held) scrap) p (bytes_part scrap 0 (n - s.held) q)

-- so what calls leave is not 11
left_sound : (s : FrameState) (buffer stream : List ℕ) (frames : List (List ℕ)) → Called s buffer stream frames → KeepsAll (state_rules s) × Bytes buffer
left_sound s buffer stream frames (reset b p) = (few_keeps reset_state (omega arith) refl, p)
left_sound s buffer stream frames (call u b t fs c l q) = let w = left_sound u b t fs l in (sound_after u w.0 b c w.1 q, bytes_after_lem u w.0 b c w.1 q)

leaves : {s : FrameState} {buffer stream : List ℕ} {frames : List (List ℕ)} → Called s buffer stream frames → Left s
leaves {s} {buffer} {stream} {frames} c = record { buffer = buffer; stream = stream; frames = frames; calls = c }

left_keeps : (s : FrameState) → Left s → KeepsAll (state_rules s)
left_keeps s l = (left_sound s l.buffer l.stream l.frames l.calls).0

-- ---- and each that is not 11 is left by calls: one that brings as many bytes, and for a refused one another that brings too long a frame

state_is : (s : FrameState) (h l : ℕ) (r : Bool) → s.held ≡ h → s.length ≡ l → s.refused ≡ r → record { held = h; length = l; refused = r } ≡ s
state_is s h l r p q w = λ i. record { held = sym p i; length = sym q i; refused = sym w i }

zeros : (n : ℕ) → Bytes (replicate n 0)
zeros zero k = omega arith
zeros (suc n) zero = omega arith
zeros (suc n) (suc k) = zeros n k

-- a header, and what follows it, all 0 but for the length: h bytes
lead : ℕ → ℕ → List ℕ
lead n h = 0 ∷ 0 ∷ (low_first 2 n ++ replicate (h - 4) 0)

module _ (n h : ℕ) where
  lead_bytes : Bytes (lead n h)
  unfolding lead
  lead_bytes zero = omega arith
  lead_bytes (suc zero) = omega arith
  lead_bytes (suc (suc k)) = bytes_both (low_first 2 n) (replicate (h - 4) 0) (low_bytes 2 n) (zeros (h - 4)) k

  lead_length : header_size ≤ h → length (lead n h) ≡ h
  unfolding lead
  lead_length g = omega (arith, length-append (low_first 2 n) (replicate (h - 4) 0), length-replicate {A = ℕ} (h - 4) 0)

  lead_frame : header_size ≤ h → n < 65536 → frame_length (lead n h) ≡ header_size + n
  unfolding lead frame_length
  lead_frame g l =
      let m : header_size ≤ length (lead n h) = omega (arith, lead_length g) in
      simp (le-ltb (length (lead n h)) header_size m, value_low 2 n (replicate (h - 4) 0) l)

-- the first call, over a buffer of zeros
module _ (room : ℕ) (w : header_size ≤ room) (c : List ℕ) (q : Bytes c) where
  abbrev blank : List ℕ
  blank = replicate room 0

  abbrev empty_holds : Holds room reset_state blank []
  empty_holds = reset_holds room blank w (length-replicate room 0)

  first : Called (state_after reset_state blank c) (buffer_after reset_state blank c) (taken_by (scrap_answer reset_state blank c) c) (handed_by (scrap_answer reset_state blank c) (buffer_after reset_state blank c))
  first = call reset_state blank [] [] c (reset blank (zeros room)) q

  -- less than a header
  first_few : length c < header_size → state_after reset_state blank c ≡ record { held = length c; length = 0; refused = false }
  first_few l =
      call_state room reset_state blank [] empty_holds c q no_header (opens_none room (frame_length c) c (frame_none c l))
      ∙ ap (λ (n : ℕ). record { held = n; length = 0; refused = false }) (zero-add (length c))

  -- a header and more
  first_many : (n : ℕ) → frame_length c ≡ n → (n ≡ 0 → ⊥) → n ≤ room → length c < n → state_after reset_state blank c ≡ record { held = length c; length = n; refused = false }
  first_many n e f g l =
      call_state room reset_state blank [] empty_holds c q (begun n) (ap (λ (m : ℕ). opening_of room m c) e ∙ opens_begun room n c f g l)
      ∙ ap (λ (m : ℕ). record { held = m; length = n; refused = false }) (zero-add (length c))

  -- what it brought is held
  first_holds : length c < header_size → Holds room (state_after reset_state blank c) (buffer_after reset_state blank c) c
  first_holds l = go (comes room reset_state blank [] empty_holds c q)
    where
      go : Comes room reset_state blank [] empty_holds c q → Holds room (state_after reset_state blank c) (buffer_after reset_state blank c) c
      go (keeps a f r h) = h
      go (hands a n g x p d f r h) = absurd (omega (arith, frame_none c l))
      go (refuses e z a f r u v) = absurd (not_long no_header tt (sym (opens_none room (frame_length c) c (frame_none c l)) ∙ e))

-- the header of a frame of 25 bytes, given in two, is too long for a buffer of 24
refused_left : (h : ℕ) → h < header_size → Left (record { held = h; length = 0; refused = true })
refused_left h l =
    let long = lead 1 header_size in
    let lb : Bytes long = lead_bytes 1 header_size in
    let c : List ℕ = take h long in
    let d : List ℕ = drop h long in
    let q : Bytes c = bytes_part long 0 h lb in
    let n : length c ≡ h = length-take-le h long (omega (arith, lead_length 1 header_size (omega arith))) in
    let w : header_size ≤ header_size = omega arith in
    let s = state_after reset_state (blank header_size w c q) c in
    let b = buffer_after reset_state (blank header_size w c q) c in
    let e : s ≡ record { held = h; length = 0; refused = false } = first_few header_size w c q (omega arith) ∙ ap (λ (m : ℕ). record { held = m; length = 0; refused = false }) n in
    let all : c ++ d ≡ long = take-append-drop h long in
    let f : frame_length long ≡ 25 = lead_frame 1 header_size w (omega arith) in
    let o : opening header_size (c ++ d) ≡ too_long
    = ap (opening header_size) all ∙ ap (λ (m : ℕ). opening_of header_size m long) f ∙ opens_long header_size 25 long (λ z. omega arith) (omega arith) in
    let t = call_state header_size s b c (first_holds header_size w c q (omega arith)) d (rw all lb) too_long o ∙ ap (λ (x : FrameState). record { held = x.held; length = x.length; refused = true }) e in
    rw t at (leaves (call s b _ _ d (first header_size w c q) (bytes_drop long h lb)))

sound_left : (s : FrameState) → KeepsAll (state_rules s) → Left s
sound_left s k = go (below_or s.held header_size)
  where
    few : s.held < header_size → (r : Bool) → s.refused ≡ r → Left s
    few h true e = rw (state_is s s.held 0 true refl (few_kept s k h) e) at (refused_left s.held h)
    few h false e =
        let c : List ℕ = replicate s.held 0 in
        let n : length c ≡ s.held = length-replicate s.held 0 in
        let w : header_size ≤ header_size = omega arith in
        let q : Bytes c = zeros s.held in
        let t = first_few header_size w c q (omega arith) ∙ ap (λ (m : ℕ). record { held = m; length = 0; refused = false }) n ∙ state_is s s.held 0 false refl (few_kept s k h) e in
        rw t at (leaves (first header_size w c q))

    many : header_size ≤ s.held → Open s → (r : Bool) → s.refused ≡ r → Left s
    many h o true e = absurd (omega (arith, sym (ap flag e) ∙ o.fine))
    many h o false e =
        let c = lead (s.length - header_size) s.held in
        let n : length c ≡ s.held = lead_length (s.length - header_size) s.held h in
        let w : header_size ≤ s.length = omega (arith, o.more) in
        let q : Bytes c = lead_bytes (s.length - header_size) s.held in
        let f : frame_length c ≡ s.length = lead_frame (s.length - header_size) s.held h (omega (arith, o.most)) ∙ (let y : header_size + (s.length - header_size) ≡ s.length = omega arith in y) in
        let t = first_many s.length w c q s.length f (λ z. omega arith) (omega arith) (omega (arith, o.more)) ∙ ap (λ (m : ℕ). record { held = m; length = s.length; refused = false }) n ∙ state_is s s.held s.length false refl refl e in
        rw t at (leaves (first s.length w c q))

    go : (s.held < header_size) ⊎ (header_size ≤ s.held) → Left s
    go (inl h) = few h s.refused refl
    go (inr h) = many h (many_kept s k h) s.refused refl

-- ---- 11 is given exactly to the others

-- of a state that is not 11 only the buffer is judged
keep_first : {A : Type 0} (a b : List Rule) (y : Answer A) → KeepsAll a → judged b y ≡ judged (a ++ b) y
keep_first [] b y k = refl
keep_first (r ∷ a) b y k = rule_kept (a ++ b) y r (judged b y) k.0 (keep_first a b y k.1)

module _ (s : FrameState) (buffer scrap : List ℕ) where
  -- where it serves, the call goes on; else 2
  room_or : KeepsAll (state_rules s) → (outcome s buffer scrap ≡ refused 2) ⊎ (outcome s buffer scrap ≡ done (brought s buffer scrap))
  unfolding outcome
  room_or k = go (below_or (length buffer) header_size) (below_or (length buffer) s.held) (below_or (length buffer) s.length) s.refused refl
    where
      n : ℕ
      n = length buffer

      y : Answer Opening
      y = done (brought s buffer scrap)

      rules_left : judged (room_rules s (length buffer)) (done (brought s buffer scrap)) ≡ admitted s (length buffer) (done (brought s buffer scrap))
      rules_left = keep_first (state_rules s) (room_rules s (length buffer)) (done (brought s buffer scrap)) k

      go : (length buffer < header_size) ⊎ (header_size ≤ length buffer) → (length buffer < s.held) ⊎ (s.held ≤ length buffer) → (length buffer < s.length) ⊎ (s.length ≤ length buffer) → (r : Bool) → s.refused ≡ r
          → (outcome s buffer scrap ≡ refused 2) ⊎ (outcome s buffer scrap ≡ done (brought s buffer scrap))
      go (inl a) b c r e = inl (sym (room_header s n y a ∙ rules_left))
      go (inr a) (inl b) c r e = inl (sym (room_held s n y a b ∙ rules_left))
      go (inr a) (inr b) (inl c) r e = inl (sym (room_frame s n y a b c ∙ rules_left))
      go (inr a) (inr b) (inr c) true e = inl (sym (room_refused s n y a b c e ∙ rules_left))
      go (inr a) (inr b) (inr c) false e = inr (sym (room_serves s n y a b c e y refl ∙ rules_left))

  not_eleven : KeepsAll (state_rules s) → scrap_answer s buffer scrap ≡ refused 11 → ⊥
  not_eleven k e = go (room_or k)
    where
      two : (o : Opening) → answer_of (done o) s.held ≡ refused 11 → ⊥
      two no_header w = never (sym w)
      two too_long w = let z : ◌≡◌ {A = ℕ} 2 11 = cc in omega arith
      two (begun n) w = never (sym w)
      two (whole n) w = never (sym w)

      go : (outcome s buffer scrap ≡ refused 2) ⊎ (outcome s buffer scrap ≡ done (brought s buffer scrap)) → ⊥
      go (inl h) = let w : refused 2 ≡ refused 11 = sym (ap (λ (o : Answer Opening). answer_of o s.held) h) ∙ e in let z : ◌≡◌ {A = ℕ} 2 11 = cc in omega arith
      go (inr h) = two (brought s buffer scrap) (sym (ap (λ (o : Answer Opening). answer_of o s.held) h) ∙ e)

  -- the rules decide
  sound_or : KeepsAll (state_rules s) ⊎ (outcome s buffer scrap ≡ refused 11)
  unfolding outcome
  sound_or = go (below_or s.held header_size)
    where
      n : ℕ
      n = length buffer

      y : Answer Opening
      y = done (brought s buffer scrap)

      few : s.held < header_size → (s.length ≡ 0) ⊎ (s.length ≡ 0 → ⊥) → KeepsAll (state_rules s) ⊎ (outcome s buffer scrap ≡ refused 11)
      few h (inl z) = inl (few_keeps s h z)
      few h (inr f) = inr (sym (admit_length s n y h f))

      many : header_size ≤ s.held → (r : Bool) → s.refused ≡ r → (s.held < s.length) ⊎ (s.length ≤ s.held) → (max_frame < s.length) ⊎ (s.length ≤ max_frame)
          → KeepsAll (state_rules s) ⊎ (outcome s buffer scrap ≡ refused 11)
      many h true e a b = inr (sym (admit_refused s n y h e))
      many h false e a (inl b) = inr (sym (admit_longest s n y h e b))
      many h false e (inr a) (inr b) = inr (sym (admit_whole s n y h e b a))
      many h false e (inl a) (inr b) = inl (many_keeps s h (record { fine = ap flag e; more = a; most = b }))

      go : (s.held < header_size) ⊎ (header_size ≤ s.held) → KeepsAll (state_rules s) ⊎ (outcome s buffer scrap ≡ refused 11)
      go (inl h) = few h (zero_or s.length)
      go (inr h) = many h s.refused refl (below_or s.held s.length) (below_or max_frame s.length)

  -- whatever the buffer and the scrap, 11 says that no calls from a reset leave the state, with any buffer; and where none do, it is said
  pub outside_exactly : (scrap_answer s buffer scrap ≡ refused 11 → Left s → ⊥) × ((Left s → ⊥) → scrap_answer s buffer scrap ≡ refused 11)
  outside_exactly = (λ e l. not_eleven (left_keeps s l) e, λ f. go f sound_or)
    where
      go : (Left s → ⊥) → KeepsAll (state_rules s) ⊎ (outcome s buffer scrap ≡ refused 11) → scrap_answer s buffer scrap ≡ refused 11
      go f (inl k) = absurd (f (sound_left s k))
      go f (inr e) = ap (λ (o : Answer Opening). answer_of o s.held) e

-- so a state that is not refused with 11 is left by some calls, over some buffer
pub not_eleven_left : (s : FrameState) (buffer scrap : List ℕ) → (scrap_answer s buffer scrap ≡ refused 11 → ⊥) → Left s
not_eleven_left s buffer scrap f = go (sound_or s buffer scrap)
  where
    go : KeepsAll (state_rules s) ⊎ (outcome s buffer scrap ≡ refused 11) → Left s
    go (inl k) = sound_left s k
    go (inr e) = absurd (f (ap (λ (o : Answer Opening). answer_of o s.held) e))

-- a call from a state that is not 11 leaves one that is not, whatever is asked of it
pub eleven_never_comes : (s : FrameState) (buffer scrap : List ℕ) → Bytes buffer → Bytes scrap → (scrap_answer s buffer scrap ≡ refused 11 → ⊥)
    → (b c : List ℕ) → scrap_answer (state_after s buffer scrap) b c ≡ refused 11 → ⊥
eleven_never_comes s buffer scrap p q f b c = go (sound_or s buffer scrap)
  where
    go : KeepsAll (state_rules s) ⊎ (outcome s buffer scrap ≡ refused 11) → scrap_answer (state_after s buffer scrap) b c ≡ refused 11 → ⊥
    go (inl k) = not_eleven (state_after s buffer scrap) b c (sound_after s k buffer scrap p q)
    go (inr e) = λ w. f (ap (λ (o : Answer Opening). answer_of o s.held) e)

-- once refused, refused: every call until a reset gives 2 and changes nothing
pub once_refused : (s : FrameState) → Left s → s.refused ≡ true → (buffer scrap : List ℕ)
    → (scrap_answer s buffer scrap ≡ refused 2) × ((state_after s buffer scrap ≡ s) × (buffer_after s buffer scrap ≡ buffer))
once_refused s l e buffer scrap = (stuck_answer s u buffer scrap, (stuck_state s u buffer scrap, stuck_buffer s u buffer scrap))
  where
    k : KeepsAll (state_rules s)
    k = left_keeps s l

    few : (s.held < header_size) ⊎ (header_size ≤ s.held) → s.held < header_size
    few (inl h) = h
    few (inr h) = absurd (omega (arith, sym (ap flag e) ∙ (many_kept s k h).fine))

    u : Stuck s
    u = let h = few (below_or s.held header_size) in record { few = h; none = few_kept s k h; said = e }
