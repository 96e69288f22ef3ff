-- Laws of the frames of a stream, from their definition alone. Assumes nothing.
use Prim.Native.Nat.{ℕ, zero, suc, ◌+◌, ◌≤◌, ◌<◌}
use mathlib.Core.Path.{◌≡◌, refl, sym, ap, ◌∙◌}
use mathlib.Core.List.{List, [], ◌∷◌, ◌++◌}
use mathlib.Core.Logic.{◌⊎◌, inl, inr}
use native.Mathlib.Omega.{arith}
use lib.ListN.{length, take, drop, length-append, length-drop, get_or, get_or-append}
use lib.Seq.{take-append-le, drop-append-le}
use borrow.Author.Tests.{lt-ltb, le-ltb}
use Rattle.wire.specs.Numbers.{value_of, Bytes}
use Rattle.wire.proofs.Numbers.{below_or, value_two, value_small, bytes_drop}
use Rattle.frames.specs.Frames.{header_size, length_at, max_frame, frame_length, Opening, no_header, too_long, begun, whole, opening_of, opening, frames_in, frames_of, rest_in, rest_of}
use Rattle.frames.proofs.CallLaws.{zero_or, frame_some, opens_none, opens_long, opens_begun, opens_whole}

-- ---- what a stream begins with, told apart, where its first frame has n bytes
module _ (room n : ℕ) (s : List ℕ) where
  pub data Kinds : Type 0 where
    is_none : opening_of room n s ≡ no_header → n ≡ 0 → Kinds
    is_long : opening_of room n s ≡ too_long → (n ≡ 0 → ⊥) → room < n → Kinds
    is_begun : opening_of room n s ≡ begun n → (n ≡ 0 → ⊥) → n ≤ room → length s < n → Kinds
    is_whole : opening_of room n s ≡ whole n → (n ≡ 0 → ⊥) → n ≤ room → n ≤ length s → Kinds

  pub kinds : Kinds
  kinds = go (zero_or n) (below_or room n) (below_or (length s) n)
    where
      go : (n ≡ 0) ⊎ (n ≡ 0 → ⊥) → (room < n) ⊎ (n ≤ room) → (length s < n) ⊎ (n ≤ length s) → Kinds
      go (inl z) r l = is_none (opens_none room n s z) z
      go (inr f) (inl r) l = is_long (opens_long room n s f r) f r
      go (inr f) (inr r) (inl l) = is_begun (opens_begun room n s f r l) f r l
      go (inr f) (inr r) (inr l) = is_whole (opens_whole room n s f r l) f r l

abbrev pub View : ℕ → List ℕ → Type 0
View room s = Kinds room (frame_length s) s

pub view : (room : ℕ) (s : List ℕ) → View room s
view room s = kinds room (frame_length s) s

-- a header that is whole stays, whatever follows
pub frame_more : (t c : List ℕ) → (frame_length t ≡ 0 → ⊥) → frame_length (t ++ c) ≡ frame_length t
unfolding frame_length
frame_more t c f =
    let l : header_size ≤ length t = (frame_some t f).0 in
    let m : header_size ≤ length (t ++ c) = omega (arith, length-append t c) in
    let a : get_or (t ++ c) length_at 0 ≡ get_or t length_at 0 = get_or-append t c 0 length_at (omega arith) in
    let b : get_or (t ++ c) (length_at + 1) 0 ≡ get_or t (length_at + 1) 0 = get_or-append t c 0 (length_at + 1) (omega arith) in
    let v : value_of 2 (drop length_at (t ++ c)) ≡ value_of 2 (drop length_at t)
    = sym (value_two (t ++ c) length_at (get_or t length_at 0) (get_or t (length_at + 1) 0) (sym a) (sym b)) ∙ value_two t length_at (get_or t length_at 0) (get_or t (length_at + 1) 0) refl refl in
    simp (le-ltb (length t) header_size l, le-ltb (length (t ++ c)) header_size m, v)

-- no frame of bytes is longer than the longest
pub frame_most : (t : List ℕ) → Bytes t → frame_length t ≤ max_frame
frame_most t b = go (zero_or (frame_length t))
  where
    go : (frame_length t ≡ 0) ⊎ (frame_length t ≡ 0 → ⊥) → frame_length t ≤ max_frame
    go (inl z) = omega arith
    go (inr f) = omega (arith, frame_some t f, value_small 2 (drop length_at t) (bytes_drop t length_at b))

-- less than a header has no length
pub frame_none : (t : List ℕ) → length t < header_size → frame_length t ≡ 0
unfolding frame_length
frame_none t h = simp (lt-ltb (length t) header_size h)

-- and what has none is less than a header
pub frame_zero : (t : List ℕ) → frame_length t ≡ 0 → length t < header_size
unfolding frame_length
frame_zero t z = go (below_or (length t) header_size)
  where
    full : header_size ≤ length t → ⊥
    full h = let e : header_size + value_of 2 (drop length_at t) ≡ 0 = simp (le-ltb (length t) header_size h) at z in omega arith

    go : (length t < header_size) ⊎ (header_size ≤ length t) → length t < header_size
    go (inl h) = h
    go (inr h) = absurd (full h)

-- ---- a turn of the fold: it stops, or a frame comes out

abbrev pub Stops : Opening → Type 0
Stops no_header = Unit {0}
Stops too_long = Unit {0}
Stops (begun n) = Unit {0}
Stops (whole n) = ⊥

-- what fits is not too long
abbrev pub Fits : Opening → Type 0
Fits no_header = Unit {0}
Fits too_long = ⊥
Fits (begun n) = Unit {0}
Fits (whole n) = Unit {0}

pub not_long : (o : Opening) → Fits o → o ≡ too_long → ⊥
not_long o u e = rw e at u

module _ (k room : ℕ) (s : List ℕ) where
  stops_in : (o : Opening) → Stops o → opening room s ≡ o → (frames_in (suc k) room s ≡ []) × (rest_in (suc k) room s ≡ s)
  stops_in no_header u e = (simp (e, frames_in), simp (e, rest_in))
  stops_in too_long u e = (simp (e, frames_in), simp (e, rest_in))
  stops_in (begun n) u e = (simp (e, frames_in), simp (e, rest_in))
  stops_in (whole n) u e = absurd u

  goes_in : (n : ℕ) → opening room s ≡ whole n → (frames_in (suc k) room s ≡ take n s ∷ frames_in k room (drop n s)) × (rest_in (suc k) room s ≡ rest_in k room (drop n s))
  goes_in n e = (simp (e, frames_in), simp (e, rest_in))

-- a frame that is taken off leaves less
shorter : (s : List ℕ) (j : ℕ) → (frame_length s ≡ 0 → ⊥) → frame_length s ≤ length s → length s ≤ suc j → length (drop (frame_length s) s) ≤ j
shorter s j f l h = omega (arith, length-drop (frame_length s) s, frame_some s f)

abbrev Same : ℕ → ℕ → ℕ → List ℕ → Type 0
Same j k room s = (frames_in j room s ≡ frames_in k room s) × (rest_in j room s ≡ rest_in k room s)

-- any count that is no less than the length serves
empty : (k room : ℕ) (s : List ℕ) → length s ≤ 0 → (frames_in k room s ≡ []) × (rest_in k room s ≡ s)
empty zero room s h = (refl, refl)
empty (suc k) room s h = stops_in k room s no_header tt (opens_none room (frame_length s) s (frame_none s (omega arith)))

pub enough : (j k room : ℕ) (s : List ℕ) → length s ≤ j → length s ≤ k → Same j k room s
enough zero k room s h g = let e = empty k room s h in (sym e.0, sym e.1)
enough (suc j) zero room s h g = empty (suc j) room s g
enough (suc j) (suc k) room s h g = go (view room s) (λ (t : List ℕ) (a : length t ≤ j) (b : length t ≤ k). enough j k room t a b)
  where
    still : (o : Opening) → Stops o → opening room s ≡ o → Same (suc j) (suc k) room s
    still o u e =
        let a = stops_in j room s o u e in
        let b = stops_in k room s o u e in
        (a.0 ∙ sym b.0, a.1 ∙ sym b.1)

    go : View room s → ((t : List ℕ) → length t ≤ j → length t ≤ k → Same j k room t) → Same (suc j) (suc k) room s
    go (is_none e z) ih = still no_header tt e
    go (is_long e f r) ih = still too_long tt e
    go (is_begun e f r l) ih = still (begun (frame_length s)) tt e
    go (is_whole e f r l) ih =
        let n = frame_length s in
        let a = goes_in j room s n e in
        let b = goes_in k room s n e in
        let i = ih (drop n s) (shorter s j f l h) (shorter s k f l g) in
        (a.0 ∙ ap (λ (fs : List (List ℕ)). take n s ∷ fs) i.0 ∙ sym b.0, a.1 ∙ i.1 ∙ sym b.1)

-- ---- the same of the definitions themselves
module _ (room : ℕ) (s : List ℕ) where
  -- with one turn more than the length
  once : Same (length s) (suc (length s)) room s
  once = enough (length s) (suc (length s)) room s (omega arith) (omega arith)

  pub frames_stop : (o : Opening) → Stops o → opening room s ≡ o → (frames_of room s ≡ []) × (rest_of room s ≡ s)
  unfolding frames_of rest_of
  frames_stop o u e = let a = stops_in (length s) room s o u e in (once.0 ∙ a.0, once.1 ∙ a.1)

  pub frames_go : opening room s ≡ whole (frame_length s) → (frame_length s ≡ 0 → ⊥) → frame_length s ≤ length s
      → (frames_of room s ≡ take (frame_length s) s ∷ frames_of room (drop (frame_length s) s)) × (rest_of room s ≡ rest_of room (drop (frame_length s) s))
  unfolding frames_of rest_of
  frames_go e f l =
      let n = frame_length s in
      let a = goes_in (length s) room s n e in
      let i = enough (length s) (length (drop n s)) room (drop n s) (omega (arith, length-drop n s)) (omega arith) in
      (once.0 ∙ a.0 ∙ ap (λ (fs : List (List ℕ)). take n s ∷ fs) i.0, once.1 ∙ a.1 ∙ i.1)

-- ---- more of the stream: what was whole stays, and the rest is read on
abbrev Joins : ℕ → List ℕ → List ℕ → Type 0
Joins room a b = (frames_of room (a ++ b) ≡ frames_of room a ++ frames_of room (rest_of room a ++ b)) × (rest_of room (a ++ b) ≡ rest_of room (rest_of room a ++ b))

joins_stop : (room : ℕ) (a b : List ℕ) → (frames_of room a ≡ []) × (rest_of room a ≡ a) → Joins room a b
joins_stop room a b h = (simp (h.0, h.1), simp h.1)

joins_in : (k room : ℕ) (a b : List ℕ) → length a ≤ k → Joins room a b
joins_in zero room a b h = joins_stop room a b (frames_stop room a no_header tt (opens_none room (frame_length a) a (frame_none a (omega arith))))
joins_in (suc k) room a b h = go (view room a) (λ (t : List ℕ) (l : length t ≤ k). joins_in k room t b l)
  where
    go : View room a → ((t : List ℕ) → length t ≤ k → Joins room t b) → Joins room a b
    go (is_none e z) ih = joins_stop room a b (frames_stop room a no_header tt e)
    go (is_long e f r) ih = joins_stop room a b (frames_stop room a too_long tt e)
    go (is_begun e f r l) ih = joins_stop room a b (frames_stop room a (begun (frame_length a)) tt e)
    go (is_whole e f r l) ih =
        let n = frame_length a in
        let m : frame_length (a ++ b) ≡ n = frame_more a b f in
        let g : (frame_length (a ++ b) ≡ 0 → ⊥) = λ z. f (sym m ∙ z) in
        let q : frame_length (a ++ b) ≤ length (a ++ b) = omega (arith, m, length-append a b) in
        let w : opening room (a ++ b) ≡ whole (frame_length (a ++ b)) = opens_whole room (frame_length (a ++ b)) (a ++ b) g (omega (arith, m)) q in
        let p = frames_go room (a ++ b) w g q in
        let t : take (frame_length (a ++ b)) (a ++ b) ≡ take n a = ap (λ (i : ℕ). take i (a ++ b)) m ∙ take-append-le n a b l in
        let d : drop (frame_length (a ++ b)) (a ++ b) ≡ drop n a ++ b = ap (λ (i : ℕ). drop i (a ++ b)) m ∙ drop-append-le n a b l in
        let o = frames_go room a e f l in
        let i = ih (drop n a) (shorter a k f l h) in
        (simp (p.0, t, d, i.0, o.0, o.1), simp (p.1, d, i.1, o.1))

pub frames_append : (room : ℕ) (a b : List ℕ) → frames_of room (a ++ b) ≡ frames_of room a ++ frames_of room (rest_of room a ++ b)
frames_append room a b = (joins_in (length a) room a b (omega arith)).0

pub rest_append : (room : ℕ) (a b : List ℕ) → rest_of room (a ++ b) ≡ rest_of room (rest_of room a ++ b)
rest_append room a b = (joins_in (length a) room a b (omega arith)).1
