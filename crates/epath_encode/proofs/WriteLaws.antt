-- Each end of the writer's parts, as a law with plain conditions. Assumes nothing.
use Prim.Native.Nat.{ℕ, ◌+◌, ◌%◌, ◌≤◌, ◌<◌}
use mathlib.Core.Path.{◌≡◌, refl, sym, ap, ◌∙◌, subst}
use mathlib.Core.List.{List, [], ◌∷◌, ◌++◌, append-nil, append_assoc}
use native.Mathlib.Nat.{zero-add}
use native.Mathlib.Omega.{arith}
use lib.ListN.{length, set, take, length-append}
use lib.Seq.{sets, length-sets}
use Rattle.std.specs.Prelude.{Ok}
use Rattle.wire.specs.Answers.{Answer, done, refused, with_room, written, Put, PutAt}
use Rattle.wire.proofs.Answers.{full_answer, full_bytes, written_answer, written_bytes}
use Rattle.wire.proofs.Stores.{sets_append, run_whole, copy_laws}
use Rattle.epath_sizes.specs.Limits.{symbol_code}
use Rattle.epath_sizes.specs.Segments.{symbol, port, pad, padded, port_head, encode_seg}
use Rattle.epath_sizes.specs.Lists.{meaning}
use Rattle.epath_sizes.specs.Sizes.{segment_size, Good}
use Rattle.epath_sizes.specs.declared.Segment.{Segment}
use Rattle.epath_sizes.proofs.SizeLaws.{head_most, length_padded, sized}

-- ---- a run
module _ (old src : List ℕ) (at : ℕ) where
  pub run_put : (new : List ℕ) → new ≡ sets old at (take (length src) src) → PutAt at src old (at + length src) new
  run_put new e = record { ends = refl; stored = run_whole old at src new e }

pub ruleset run_laws = (copy_laws, run_put)

-- ---- bytes with a pad
module _ (old mid src : List ℕ) (at n : ℕ) (p : PutAt at src old n mid) where
  ends : n ≡ at + length src
  ends = p.ends

  pub padded_none : n % 2 ≡ 0 → PutAt at (src ++ pad (at + length src)) old n mid
  padded_none h =
      let e : (at + length src) % 2 ≡ 0 = omega (arith, ends) in
      simp e (record { ends = ends ∙ ap (λ (l : List ℕ). at + length l) (sym (append-nil src)); stored = p.stored ∙ ap (λ (l : List ℕ). sets old at l) (sym (append-nil src)) })

  module _ (h : n % 2 ≡ 0 → ⊥) where
    odd : (at + length src) % 2 ≡ 1
    odd = omega (arith, ends)

    pub padded_one : PutAt at (src ++ pad (at + length src)) old (n + 1) (set mid n 0)
    padded_one = simp odd (record {
      ends = omega (arith, ends, length-append src (0 ∷ []));
      stored = ap (λ (k : ℕ). set mid k 0) ends ∙ ap (λ (l : List ℕ). set l (at + length src) 0) p.stored ∙ sets_append old src (0 ∷ []) at;
    })

    pub pad_room : at + length (src ++ pad (at + length src)) ≤ length old → n < length mid
    pad_room r =
        let l : at + length (src ++ (0 ∷ [])) ≤ length old = simp odd at r in
        omega (arith, ends, length-append src (0 ∷ []), ap length p.stored, length-sets old at src)

-- room for bytes and their pad is room for the bytes
pub run_room : (old src : List ℕ) (at : ℕ) → at + length (src ++ pad (at + length src)) ≤ length old → at + length src ≤ length old
run_room old src at r = omega (arith, length-append src (pad (at + length src)))

pub ruleset pad_laws = (padded_none, padded_one, pad_room, run_room)

-- a head, and then bytes with their pad behind it
module _ (h bs old mid : List ℕ) (at : ℕ) (p : Put h old at mid) where
  behind : (new : List ℕ) (r : ℕ) → PutAt at (bs ++ pad (at + length bs)) mid r new → Put (padded (h ++ bs)) old r new
  unfolding padded
  behind new r q =
      let n : at + length bs ≡ length (h ++ bs) = omega (arith, p.size, length-append h bs) in
      let w : h ++ (bs ++ pad (at + length bs)) ≡ (h ++ bs) ++ pad (length (h ++ bs))
      = ap (λ (k : ℕ). h ++ (bs ++ pad k)) n ∙ sym (append_assoc h bs (pad (length (h ++ bs)))) in
      subst (λ (x : List ℕ). Put x old r new) w
      (record {
        size = omega (arith, p.size, q.ends, length-append h (bs ++ pad (at + length bs)));
        stored =
            q.stored
            ∙ ap (λ (x : List ℕ). sets x at (bs ++ pad (at + length bs))) p.stored
            ∙ ap (λ (k : ℕ). sets (sets old 0 h) k (bs ++ pad (at + length bs))) (p.size ∙ sym (zero-add (length h)))
            ∙ sets_append old h (bs ++ pad (at + length bs)) 0;
      })

  -- where there is room for both there is room behind the head
  behind_room : length (padded (h ++ bs)) ≤ length old → at + length (bs ++ pad (at + length bs)) ≤ length mid
  behind_room r =
      let n : at + length bs ≡ length (h ++ bs) = omega (arith, p.size, length-append h bs) in
      omega (arith, p.size, length-append h bs, length-append bs (pad (at + length bs)), ap (λ (k : ℕ). length (pad k)) n, length_padded (h ++ bs), ap length p.stored, length-sets old 0 h)

-- ---- symbols
module _ (bs old : List ℕ) where
  pub symbol_head_room : length (encode_seg (symbol bs)) ≤ length old → 2 ≤ length old
  symbol_head_room r = omega (arith, length_padded (symbol_code ∷ length bs ∷ bs))

  module _ (mid : List ℕ) (at : ℕ) (e : PutAt 0 (symbol_code ∷ length bs ∷ []) old at mid) where
    head : Put (symbol_code ∷ length bs ∷ []) old at mid
    head = record { size = e.ends; stored = e.stored }

    pub symbol_room : length (encode_seg (symbol bs)) ≤ length old → at + length (bs ++ pad (at + length bs)) ≤ length mid
    symbol_room r = behind_room (symbol_code ∷ length bs ∷ []) bs old mid at head r

    pub stored_symbol : (new : List ℕ) (r : ℕ) → PutAt at (bs ++ pad (at + length bs)) mid r new → Put (encode_seg (symbol bs)) old r new
    stored_symbol = behind (symbol_code ∷ length bs ∷ []) bs old mid at head

-- ---- ports
pub head_fits : (p n at : ℕ) (old mid : List ℕ) → Put (port_head p n) old at mid → at ≤ 4
head_fits p n at old mid h = omega (arith, h.size, head_most p n)

module _ (p : ℕ) (link old : List ℕ) where
  pub port_head_room : length (encode_seg (port p link)) ≤ length old → length (port_head p (length link)) ≤ length old
  port_head_room r = omega (arith, length_padded (port_head p (length link) ++ link), length-append (port_head p (length link)) link)

  module _ (at : ℕ) (mid : List ℕ) (h : Put (port_head p (length link)) old at mid) where
    pub port_room : length (encode_seg (port p link)) ≤ length old → at + length (link ++ pad (at + length link)) ≤ length mid
    port_room r = behind_room (port_head p (length link)) link old mid at h r

    pub stored_port : (new : List ℕ) (r : ℕ) → PutAt at (link ++ pad (at + length link)) mid r new → Put (encode_seg (port p link)) old r new
    stored_port = behind (port_head p (length link)) link old mid at h

pub ruleset end_laws = (symbol_head_room, symbol_room, stored_symbol, head_fits, port_head_room, port_room, stored_port)

-- ---- a segment that was sized
module _ (pool : List ℕ) (s : Segment) (n : ℕ) (e : done n ≡ segment_size pool s) where
  pub sized_good : Good pool s
  sized_good = (sized pool s n (sym e)).good

  pub sized_length : n ≡ length (encode_seg (meaning pool s))
  sized_length = (sized pool s n (sym e)).size

  pub sized_room : (room : ℕ) → n ≤ room → length (encode_seg (meaning pool s)) ≤ room
  sized_room room l = omega (arith, sized_length)

pub ruleset sized_laws = (sized_good, sized_length, sized_room)

-- ---- a writer's ends, where its bytes have the size n: what it answers, and what the lent output then holds
module _ (y : Answer ℕ) (n : ℕ) (e : done n ≡ y) (old : List ℕ) where
  pub short_answer : length old < n → refused 2 ≡ with_room y (length old)
  short_answer = full_answer y [] old (Ok n) e n refl

  pub enough_answer : n ≤ length old → done n ≡ with_room y (length old)
  enough_answer = written_answer y [] old (Ok n) e n refl

  module _ (bytes : List ℕ) where
    pub short_bytes : length old < n → old ≡ written (with_room y (length old)) bytes old
    short_bytes = full_bytes y bytes old (Ok n) e n refl

    pub enough_bytes : (new : List ℕ) → n ≤ length old → n ≡ length bytes → new ≡ sets old 0 bytes → new ≡ written (with_room y (length old)) bytes old
    enough_bytes = written_bytes y bytes old (Ok n) e n refl

pub ruleset ends_laws = (short_answer, enough_answer, short_bytes, enough_bytes)
