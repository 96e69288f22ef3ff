-- Each end of a call, as a law with plain conditions. Assumes nothing.
use Prim.Native.Nat.{ℕ, zero, suc, ◌+◌, ◌-◌, ◌≤◌, ◌<◌}
use mathlib.Core.Path.{◌≡◌, refl, sym, ap, ◌∙◌}
use mathlib.Core.List.{List, [], ◌∷◌, ◌++◌}
use mathlib.Core.Bool.{true, false}
use mathlib.Core.Logic.{◌⊎◌, inl, inr}
use native.Mathlib.Omega.{arith}
use lib.ListN.{length, get_or, take, drop, length-append}
use lib.Seq.{sets, length-take-le}
use borrow.Author.Tests.{lt-ltb, le-ltb, eq-eqb, ne_eqb}
use mir.Syntax.{w16}
use Rattle.std.specs.Int.{from_le_bytes}
use Rattle.wire.specs.Numbers.{value_of}
use Rattle.wire.specs.Parts.{part}
use Rattle.wire.specs.Answers.{Answer, done, refused, Rule, under, over, other, judged, KeepsAll}
use Rattle.wire.proofs.Rules.{rules, all_keep, all_were, same_refusal}
use Rattle.wire.proofs.Numbers.{value_two, below_or}
use Rattle.frames.specs.Frames.{header_size, length_at, max_frame, frame_length, Opening, no_header, too_long, begun, whole, opening_of}
use Rattle.frames.specs.Conditions.{Serves}
use Rattle.frames.specs.Calls.{reset_state, flag, state_rules, room_rules, admitted, since, length_of, brought, outcome, Handed, all, frame, answer_of, state_of, buffer_of, scrap_answer, state_after, buffer_after}
use Rattle.frames.specs.declared.FrameState.{FrameState}

-- ---- does the buffer serve
module _ (s : FrameState) (room : ℕ) where
  flag_yes : s.refused ≡ true → flag s.refused ≡ 0 → ⊥
  flag_yes h e = let z : ◌≡◌ {A = ℕ} 1 0 = sym (ap flag h) ∙ e in omega arith

  flag_no : s.refused ≡ false → flag s.refused ≡ 0
  flag_no h = ap flag h

  module _ {A : Type 0} (y : Answer A) where
    pub room_header : room < header_size → refused 2 ≡ judged (room_rules s room) y
    room_header h = search rules

    module _ (h : header_size ≤ room) where
      pub room_held : room < s.held → refused 2 ≡ judged (room_rules s room) y
      room_held g = search rules

      module _ (g : s.held ≤ room) where
        pub room_frame : room < s.length → refused 2 ≡ judged (room_rules s room) y
        room_frame l = search rules

        module _ (l : s.length ≤ room) where
          pub room_refused : s.refused ≡ true → refused 2 ≡ judged (room_rules s room) y
          room_refused f = let k : flag s.refused ≡ 0 → ⊥ = flag_yes f in search rules

          pub room_serves : s.refused ≡ false → (z : Answer A) → z ≡ y → z ≡ judged (room_rules s room) y
          room_serves f z e = let k : flag s.refused ≡ 0 = flag_no f in search rules

pub ruleset room_laws = (room_header, room_held, room_frame, room_refused, room_serves)

-- ---- do calls leave such a state
module _ (s : FrameState) (room : ℕ) {A : Type 0} (y : Answer A) where
  -- the rules of a state with less than a header, and of one with more
  few : (z : Answer A) → s.held < header_size → z ≡ judged (other s.length 0 11 ∷ room_rules s room) y → z ≡ admitted s room y
  few z h e = e ∙ simp (lt-ltb s.held header_size h)

  many : (z : Answer A) → header_size ≤ s.held
      → z ≡ judged (other (flag s.refused) 0 11 ∷ over s.length max_frame 11 ∷ under s.length (s.held + 1) 11 ∷ room_rules s room) y
      → z ≡ admitted s room y
  many z h e = e ∙ simp (le-ltb s.held header_size h)

  pub admit_length : s.held < header_size → (s.length ≡ 0 → ⊥) → refused 11 ≡ admitted s room y
  admit_length h f = few (refused 11) h (search rules)

  pub admit_few : (z : Answer A) → s.held < header_size → s.length ≡ 0 → z ≡ judged (room_rules s room) y → z ≡ admitted s room y
  admit_few z h f e = few z h (search rules)

  module _ (h : header_size ≤ s.held) where
    pub admit_refused : s.refused ≡ true → refused 11 ≡ admitted s room y
    admit_refused f = let k : flag s.refused ≡ 0 → ⊥ = flag_yes s room f in many (refused 11) h (search rules)

    module _ (f : s.refused ≡ false) where
      pub admit_longest : max_frame < s.length → refused 11 ≡ admitted s room y
      admit_longest g = let k : flag s.refused ≡ 0 = flag_no s room f in many (refused 11) h (search rules)

      module _ (g : s.length ≤ max_frame) where
        pub admit_whole : s.length ≤ s.held → refused 11 ≡ admitted s room y
        admit_whole l =
            let k : flag s.refused ≡ 0 = flag_no s room f in
            let m : s.length < s.held + 1 = omega arith in
            many (refused 11) h (search rules)

        pub admit_many : (z : Answer A) → s.held < s.length → z ≡ judged (room_rules s room) y → z ≡ admitted s room y
        admit_many z l e =
            let k : flag s.refused ≡ 0 = flag_no s room f in
            let m : s.held + 1 ≤ s.length = omega arith in
            many z h (search rules)

pub ruleset admit_laws = (admit_length, admit_few, admit_refused, admit_longest, admit_whole, admit_many)

-- ---- the bytes since the last frame's end
pub since_length : (held : ℕ) (buffer scrap : List ℕ) → held ≤ length buffer → length (since held buffer scrap) ≡ held + length scrap
since_length held buffer scrap k = length-append (take held buffer) scrap ∙ rw (length-take-le held buffer k)

pub zero_or : (n : ℕ) → (n ≡ 0) ⊎ (n ≡ 0 → ⊥)
zero_or zero = inl refl
zero_or (suc n) = inr (λ e. omega arith)

-- ---- the frame's length
module _ (kept scrap : List ℕ) where
  pub header_cut : length kept + length scrap < header_size → frame_length (kept ++ scrap) ≡ 0
  unfolding frame_length
  header_cut g =
      let l : length (kept ++ scrap) < header_size = omega (arith, length-append kept scrap) in
      simp (lt-ltb (length (kept ++ scrap)) header_size l)

  pub header_read : (a b n : ℕ) → header_size ≤ length kept + length scrap → a ≡ get_or (kept ++ scrap) length_at 0 → b ≡ get_or (kept ++ scrap) (length_at + 1) 0
      → n ≡ from_le_bytes w16 (a ∷ b ∷ [])
      → header_size + n ≡ frame_length (kept ++ scrap)
  unfolding frame_length
  header_read a b n g p q m =
      let l : header_size ≤ length (kept ++ scrap) = omega (arith, length-append kept scrap) in
      let v : n ≡ value_of 2 (drop length_at (kept ++ scrap)) = omega (arith, m, value_two (kept ++ scrap) length_at a b p q) in
      ap (λ (z : ℕ). header_size + z) v ∙ simp (le-ltb (length (kept ++ scrap)) header_size l)

pub ruleset header_laws = (header_cut, header_read)

module _ (s : FrameState) (t : List ℕ) where
  pub length_known : (s.length ≡ 0 → ⊥) → s.length ≡ length_of s.length t
  length_known f = simp (ne_eqb s.length 0 f)

  pub length_read : (n : ℕ) → s.length ≡ 0 → n ≡ frame_length t → n ≡ length_of s.length t
  length_read n f e = e ∙ simp (eq-eqb s.length 0 f)

-- ---- what was brought
-- a length that is known is that of a header and its data
pub frame_some : (t : List ℕ) → (frame_length t ≡ 0 → ⊥) → (header_size ≤ length t) × (frame_length t ≡ header_size + value_of 2 (drop length_at t))
unfolding frame_length
frame_some t f = go (below_or (length t) header_size)
  where
    go : (length t < header_size) ⊎ (header_size ≤ length t) → (header_size ≤ length t) × (frame_length t ≡ header_size + value_of 2 (drop length_at t))
    go (inl l) = absurd (f (simp (lt-ltb (length t) header_size l)))
    go (inr l) = (l, simp (le-ltb (length t) header_size l))

-- what a stream begins with, by the code's tests
module _ (room n : ℕ) (t : List ℕ) where
  pub opens_none : n ≡ 0 → opening_of room n t ≡ no_header
  unfolding opening_of
  opens_none e = simp (eq-eqb n 0 e)

  module _ (f : n ≡ 0 → ⊥) where
    pub opens_long : room < n → opening_of room n t ≡ too_long
    unfolding opening_of
    opens_long h = simp (ne_eqb n 0 f, lt-ltb room n h)

    module _ (h : n ≤ room) where
      pub opens_begun : length t < n → opening_of room n t ≡ begun n
      unfolding opening_of
      opens_begun l = simp (ne_eqb n 0 f, le-ltb room n h, lt-ltb (length t) n l)

      pub opens_whole : n ≤ length t → opening_of room n t ≡ whole n
      unfolding opening_of
      opens_whole l = simp (ne_eqb n 0 f, le-ltb room n h, le-ltb (length t) n l)

module _ (s : FrameState) (buffer scrap : List ℕ) (v : Serves s (length buffer)) where
  abbrev now : List ℕ
  now = since s.held buffer scrap

  abbrev room : ℕ
  room = length buffer

  -- the answer, the state and the buffer of each
  module _ (n : ℕ) (of : n ≡ length_of s.length now) (o : Opening) (e : opening_of room n now ≡ o) where
    is : brought s buffer scrap ≡ o
    unfolding brought
    is = ap (λ (k : ℕ). opening_of room k now) (sym of) ∙ e

    answers : {z : Answer Handed} → z ≡ answer_of (done o) s.held → z ≡ answer_of (done (brought s buffer scrap)) s.held
    answers p = p ∙ ap (λ (x : Opening). answer_of (done x) s.held) (sym is)

    states : {z : FrameState} → z ≡ state_of (done o) s scrap → z ≡ state_of (done (brought s buffer scrap)) s scrap
    states p = p ∙ ap (λ (x : Opening). state_of (done x) s scrap) (sym is)

    buffers : {z : List ℕ} → z ≡ buffer_of (done o) s.held buffer scrap → z ≡ buffer_of (done (brought s buffer scrap)) s.held buffer scrap
    buffers p = p ∙ ap (λ (x : Opening). buffer_of (done x) s.held buffer scrap) (sym is)

  -- no header is there
  module _ (h : length_of s.length now ≡ 0) where
    abbrev zero_is : 0 ≡ length_of s.length now
    zero_is = sym h

    pub none_answer : done all ≡ answer_of (done (brought s buffer scrap)) s.held
    none_answer = answers 0 zero_is no_header (opens_none room 0 now refl) refl

    pub none_state : record { held = s.held + length scrap; length = 0; refused = false } ≡ state_of (done (brought s buffer scrap)) s scrap
    none_state = states 0 zero_is no_header (opens_none room 0 now refl) refl

    pub none_bytes : (new : List ℕ) → new ≡ sets buffer s.held scrap → new ≡ buffer_of (done (brought s buffer scrap)) s.held buffer scrap
    none_bytes new e = buffers 0 zero_is no_header (opens_none room 0 now refl) e

  -- a frame of n bytes
  module _ (n : ℕ) (of : n ≡ length_of s.length now) (some : 0 < n) where
    abbrev f : n ≡ 0 → ⊥
    f e = omega arith

    module _ (h : room < n) where
      pub long_answer : refused 2 ≡ answer_of (done (brought s buffer scrap)) s.held
      long_answer = answers n of too_long (opens_long room n now f h) refl

      pub long_state : record { held = s.held; length = s.length; refused = true } ≡ state_of (done (brought s buffer scrap)) s scrap
      long_state = states n of too_long (opens_long room n now f h) refl

      pub long_bytes : buffer ≡ buffer_of (done (brought s buffer scrap)) s.held buffer scrap
      long_bytes = buffers n of too_long (opens_long room n now f h) refl

    -- what is held is less than the frame
    pub length_left : s.held ≤ n
    length_left = go (zero_or s.length)
      where
        go : (s.length ≡ 0) ⊎ (s.length ≡ 0 → ⊥) → s.held ≤ n
        go (inl z) =
            let p : n ≡ frame_length now = of ∙ sym (length_read s now (frame_length now) z refl) in
            omega (arith, frame_some now (λ e. f (p ∙ e)), v.headless z)
        go (inr z) = omega (arith, of ∙ sym (length_known s now z), v.known z)

    module _ (h : n ≤ room) where
      module _ (l : length scrap < n - s.held) where
        abbrev short : opening_of room n now ≡ begun n
        short = opens_begun room n now f h (omega (arith, since_length s.held buffer scrap v.kept))

        pub begun_answer : done all ≡ answer_of (done (brought s buffer scrap)) s.held
        begun_answer = answers n of (begun n) short refl

        pub begun_state : (z : FrameState) → z ≡ record { held = s.held + length scrap; length = n; refused = false } → z ≡ state_of (done (brought s buffer scrap)) s scrap
        begun_state z e = states n of (begun n) short e

        pub begun_bytes : (new : List ℕ) → new ≡ sets buffer s.held scrap → new ≡ buffer_of (done (brought s buffer scrap)) s.held buffer scrap
        begun_bytes new e = buffers n of (begun n) short e

      module _ (l : n - s.held ≤ length scrap) where
        abbrev full : opening_of room n now ≡ whole n
        full = opens_whole room n now f h (omega (arith, since_length s.held buffer scrap v.kept))

        pub whole_answer : done (frame n (n - s.held)) ≡ answer_of (done (brought s buffer scrap)) s.held
        whole_answer = answers n of (whole n) full refl

        pub whole_state : (z : FrameState) → z ≡ reset_state → z ≡ state_of (done (brought s buffer scrap)) s scrap
        whole_state z e = states n of (whole n) full e

        pub whole_bytes : (new p : List ℕ) → p ≡ part scrap 0 (n - s.held) → new ≡ sets buffer s.held p → new ≡ buffer_of (done (brought s buffer scrap)) s.held buffer scrap
        whole_bytes new p q e = buffers n of (whole n) full (e ∙ ap (sets buffer s.held) q)

pub ruleset collect_laws = (none_answer, none_state, none_bytes, begun_answer, begun_state, begun_bytes, long_answer, long_state, long_bytes, length_left, whole_answer, whole_state, whole_bytes)

-- ---- the state and the buffer were judged
pub few_kept : (s : FrameState) → KeepsAll (state_rules s) → s.held < header_size → s.length ≡ 0
few_kept s k h = let w : KeepsAll (other s.length 0 11 ∷ []) = simp (lt-ltb s.held header_size h) at k in w.0

pub record Open (s : FrameState) : Type 0 where
  pub fine : flag s.refused ≡ 0
  pub more : s.held < s.length
  pub most : s.length ≤ max_frame

pub many_kept : (s : FrameState) → KeepsAll (state_rules s) → header_size ≤ s.held → Open s
many_kept s k h =
    let w : KeepsAll (other (flag s.refused) 0 11 ∷ over s.length max_frame 11 ∷ under s.length (s.held + 1) 11 ∷ []) = simp (le-ltb s.held header_size h) at k in
    record { fine = w.0; more = omega (arith, w.1.1.0); most = w.1.0 }

pub serves : (s : FrameState) (room : ℕ) → KeepsAll (state_rules s) → KeepsAll (room_rules s room) → Serves s room
serves s room k m = record { kept = m.1.0; headless = λ z. go z (below_or s.held header_size); known = λ f. to f (below_or s.held header_size) }
  where
    go : s.length ≡ 0 → (s.held < header_size) ⊎ (header_size ≤ s.held) → s.held < header_size
    go z (inl h) = h
    go z (inr h) = absurd (omega (arith, (many_kept s k h).more))

    to : (s.length ≡ 0 → ⊥) → (s.held < header_size) ⊎ (header_size ≤ s.held) → s.held < s.length
    to f (inl h) = absurd (f (few_kept s k h))
    to f (inr h) = (many_kept s k h).more

keeps_both : (a b : List Rule) → KeepsAll (a ++ b) → KeepsAll a × KeepsAll b
keeps_both [] b k = (tt, k)
keeps_both (r ∷ a) b k = let w = keeps_both a b k.1 in ((k.0, w.0), w.1)

both_keep : (a b : List Rule) → KeepsAll a → KeepsAll b → KeepsAll (a ++ b)
both_keep [] b k m = m
both_keep (r ∷ a) b k m = (k.0, both_keep a b k.1 m)

-- what is kept does not depend on what is asked
pub admitted_is : {A : Type 0} (s : FrameState) (room : ℕ) (y : Answer A) → KeepsAll (state_rules s) → KeepsAll (room_rules s room) → admitted s room y ≡ y
admitted_is s room y k m = all_keep (state_rules s ++ room_rules s room) y (both_keep (state_rules s) (room_rules s room) k m)

module _ {A : Type 0} (s : FrameState) (room : ℕ) (x : A) where
  pub admitted_keeps : (y : A) → admitted s room (done x) ≡ done y → KeepsAll (state_rules s) × KeepsAll (room_rules s room)
  admitted_keeps y h = keeps_both (state_rules s) (room_rules s room) (all_were (state_rules s ++ room_rules s room) (done x) y h).0

module _ (s : FrameState) (buffer scrap : List ℕ) where
  module _ (k : ℕ) (of : refused k ≡ admitted {A = Unit {0}} s (length buffer) (done tt)) where
    stopped : outcome s buffer scrap ≡ refused k
    unfolding outcome
    stopped = same_refusal (state_rules s ++ room_rules s (length buffer)) tt (done (brought s buffer scrap)) k (sym of)

    pub refused_answer : refused k ≡ scrap_answer s buffer scrap
    refused_answer = ap (λ (o : Answer Opening). answer_of o s.held) (sym stopped)

    pub refused_state : s ≡ state_after s buffer scrap
    refused_state = ap (λ (o : Answer Opening). state_of o s scrap) (sym stopped)

    pub refused_bytes : buffer ≡ buffer_after s buffer scrap
    refused_bytes = ap (λ (o : Answer Opening). buffer_of o s.held buffer scrap) (sym stopped)

  module _ (of : done tt ≡ admitted {A = Unit {0}} s (length buffer) (done tt)) where
    abbrev kept : KeepsAll (state_rules s) × KeepsAll (room_rules s (length buffer))
    kept = admitted_keeps s (length buffer) tt tt (sym of)

    pub taken_serves : Serves s (length buffer)
    taken_serves = serves s (length buffer) kept.0 kept.1

    went : outcome s buffer scrap ≡ done (brought s buffer scrap)
    unfolding outcome
    went = admitted_is s (length buffer) (done (brought s buffer scrap)) kept.0 kept.1

    pub taken_answer_lem : (z : Answer Handed) → z ≡ answer_of (done (brought s buffer scrap)) s.held → z ≡ scrap_answer s buffer scrap
    taken_answer_lem z e = e ∙ ap (λ (o : Answer Opening). answer_of o s.held) (sym went)

    pub taken_state : (z : FrameState) → z ≡ state_of (done (brought s buffer scrap)) s scrap → z ≡ state_after s buffer scrap
    taken_state z e = e ∙ ap (λ (o : Answer Opening). state_of o s scrap) (sym went)

    pub taken_bytes_lem : (z : List ℕ) → z ≡ buffer_of (done (brought s buffer scrap)) s.held buffer scrap → z ≡ buffer_after s buffer scrap
    taken_bytes_lem z e = e ∙ ap (λ (o : Answer Opening). buffer_of o s.held buffer scrap) (sym went)

pub ruleset step_laws = (refused_answer, refused_state, refused_bytes, taken_serves, taken_answer_lem, taken_state, taken_bytes_lem)
