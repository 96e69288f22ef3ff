-- What a segment that was read says of the bytes: they are its encoding. Assumes nothing.
use Prim.Native.Nat.{ℕ, zero, suc, ◌+◌, ◌/◌, ◌%◌, ◌^◌, ◌≤◌, ◌<◌}
use mathlib.Core.Path.{◌≡◌, refl, sym, ap, ◌∙◌}
use mathlib.Core.List.{List, [], ◌∷◌, ◌++◌}
use mathlib.Core.Logic.{⊎_elim}
use native.Mathlib.Omega.{arith}
use lib.ListN.{length, get_or, take, drop, length-drop}
use lib.Seq.{length-take-le, take-suc, take-add, get_or-drop}
use Rattle.wire.specs.Numbers.{value_of, low_first, Bytes}
use Rattle.wire.specs.Answers.{done, KeepsAll}
use Rattle.wire.proofs.Numbers.{byte_here, low_value, value_small, bytes_drop, below_or, first_one, first_two}
use Rattle.wire.proofs.Rules.{never, done_same, all_were}
use Rattle.epath_sizes.specs.Limits.{max_link, most_bytes, port_end, near_port, far_port_code, long_link, element_code, symbol_code}
use Rattle.epath_sizes.specs.Segments.{port, logical, padded, port_head, far_port, far_value, encode_seg, Fine, linked, norm}
use Rattle.epath_sizes.specs.Lists.{meaning, start_of, len_of}
use Rattle.epath_segment.specs.declared.decode.Kind.{Kind}
use Rattle.epath_segment.specs.declared.decode.Kind.TheVariants.{Class as kClass, Instance as kInstance, Attribute as kAttribute, Element as kElement}
use Rattle.epath_segment.specs.declared.decode.Form.{Form}
use Rattle.epath_segment.specs.declared.decode.Form.TheVariants.{Port as fPort, Symbol as fSymbol, Narrow, Wide, Widest, Unknown}
use Rattle.epath_segment.proofs.ReadLaws.{code_of, number_low, number_high, port_one, port_long}
use Rattle.epath_sizes.specs.declared.Segment.{Segment}
use Rattle.epath_sizes.specs.declared.Segment.TheVariants.{Symbol, Element, Port}
use Rattle.epath_segment.specs.Reads.{front, pad_rules, read_part, read_wide, read_narrow, read_symbol, read_link, read_port_number, read_port, read_as, read_seg, made, form_of}
use Rattle.epath_sizes.proofs.Forms.{number_one, number_two, number_four, head_short, head_long, head_escaped, head_both, padded_even, padded_odd}
use Rattle.epath_segment.proofs.Begins.{Begins, begins}

-- ---- bytes with a pad
pub record Ended (t : List ℕ) (x y : Segment) (end n : ℕ) : Type 0 where
  pub same : x ≡ y
  pub here : end ≤ length t
  pub size : n ≤ length t
  pub small : n ≤ end + 1
  pub bytes : take n t ≡ padded (take end t)

ended : (t : List ℕ) (x y : Segment) (end n r : ℕ) → end % 2 ≡ r → end ≤ length t → KeepsAll (pad_rules r end t) → done (front x (end + r)) ≡ done (front y n) → Ended t x y end n
ended t x y end n zero e l u f =
    let m : end ≡ n = (let q : end + 0 ≡ n = cc in omega arith) in
    let k : length (take end t) % 2 ≡ 0 = rw (length-take-le end t l) e in
    record { same = cc; here = l; size = omega arith; small = omega arith; bytes = rw (← m) (sym (padded_even (take end t) k)) }
ended t x y end n (suc r) e l u f =
    let o : r ≡ 0 = omega arith in
    let a : end + 1 ≤ length t = u.0 in
    let z : get_or t end 0 ≡ 0 = u.1.0 in
    let m : suc end ≡ n = (let q : end + suc r ≡ n = cc in omega arith) in
    let k : length (take end t) % 2 ≡ 1 = rw (length-take-le end t l) (omega arith) in
    record {
      same = cc;
      here = l;
      size = omega arith;
      small = omega arith;
      bytes = rw (← m, take-suc t end 0 (omega arith), z) (sym (padded_odd (take end t) k));
    }

pub part_got : (t : List ℕ) (x y : Segment) (end n : ℕ) → read_part x end t ≡ done (front y n) → Ended t x y end n
unfolding read_part
part_got t x y end n h =
    let u = all_were _ _ (front y n) h in
    ended t x y end n (end % 2) refl u.0.0 u.0.1 u.1

-- ---- what a segment that was read is, with its size
pub record Got (t : List ℕ) (x : Segment) (n : ℕ) : Type 0 where
  pub bytes : take n t ≡ encode_seg (meaning t x)
  pub size : n ≤ length t
  pub small : n ≤ most_bytes
  pub near : start_of x ≤ 4
  pub held : start_of x + len_of x ≤ length t
  pub fine : Fine (meaning t x)
  pub normal : norm (meaning t x) ≡ meaning t x

-- ---- numbers
got_number : (t : List ℕ) (k : Kind) (v n : ℕ) → v < 65536 → n ≤ length t → n ≤ most_bytes → take n t ≡ logical (code_of k) v → Got t (made k v) n
got_number t kClass v n h l s b = record { bytes = b; size = l; small = s; near = omega arith; held = omega arith; fine = h; normal = refl }
got_number t kInstance v n h l s b = record { bytes = b; size = l; small = s; near = omega arith; held = omega arith; fine = h; normal = refl }
got_number t kAttribute v n h l s b = record { bytes = b; size = l; small = s; near = omega arith; held = omega arith; fine = h; normal = refl }
got_number t kElement v n h l s b = record { bytes = b; size = l; small = s; near = omega arith; held = omega arith; fine = omega arith; normal = refl }

got_narrow : (t : List ℕ) (k : Kind) (x : Segment) (n : ℕ) → Bytes t → get_or t 0 0 ≡ code_of k → read_narrow (made k) t ≡ done (front x n) → Got t x n
unfolding read_narrow
got_narrow t k x n b c h =
    let v : ℕ = get_or t 1 0 in
    let u = all_were _ _ (front x n) h in
    let l : 2 ≤ length t = u.0.0 in
    let f = done_same u.1 in
    let p : made k v ≡ x = cc in
    let q : 2 ≡ n = cc in
    let e : take 2 t ≡ logical (code_of k) v = first_two t l ∙ rw c (sym (number_one (code_of k) v (b 1))) in
    rw (← p, ← q) (got_number t k v 2 (omega (arith, b 1)) l (omega arith) e)

-- a wide form, over its width
record Wider (t : List ℕ) (make : ℕ → Segment) (w least : ℕ) (x : Segment) (n : ℕ) : Type 0 where
  here : 2 + w ≤ length t
  more : least ≤ value_of w (drop 2 t)
  less : value_of w (drop 2 t) < 256 ^ w
  bytes : take (2 + w) t ≡ get_or t 0 0 ∷ 0 ∷ low_first w (value_of w (drop 2 t))
  is : make (value_of w (drop 2 t)) ≡ x
  size : 2 + w ≡ n

got_wider : (t : List ℕ) (make : ℕ → Segment) (w least : ℕ) (x : Segment) (n : ℕ) → Bytes t → read_wide make w least t ≡ done (front x n) → Wider t make w least x n
unfolding read_wide
got_wider t make w least x n b h =
    let v : ℕ = value_of w (drop 2 t) in
    let u = all_were _ _ (front x n) h in
    let z : get_or t 1 0 ≡ 0 = u.0.1.0 in
    let l : 2 + w ≤ length t = u.0.1.1.0 in
    let f = done_same u.1 in
    let d : Bytes (drop 2 t) = bytes_drop t 2 b in
    record {
      here = l;
      more = u.0.1.1.1.0;
      less = value_small w (drop 2 t) d;
      bytes = take-add 2 w t ∙ rw (first_two t u.0.0, z, low_value w (drop 2 t) d (simp length-drop (omega arith)));
      is = cc;
      size = cc;
    }

got_wide : (t : List ℕ) (k : Kind) (x : Segment) (n : ℕ) → Bytes t → get_or t 0 0 ≡ code_of k + 1 → read_wide (made k) 2 256 t ≡ done (front x n) → Got t x n
got_wide t k x n b c h =
    let g : Wider t (made k) 2 256 x n = got_wider t (made k) 2 256 x n b h in
    let v : ℕ = value_of 2 (drop 2 t) in
    let m : v < 65536 = g.less in
    let e : take 4 t ≡ logical (code_of k) v = g.bytes ∙ rw c (sym (number_two (code_of k) v g.more m)) in
    let s : 4 ≡ n = g.size in
    rw (← g.is, ← s) (got_number t k v 4 m g.here (omega arith) e)

got_widest : (t : List ℕ) (x : Segment) (n : ℕ) → Bytes t → get_or t 0 0 ≡ (element_code + 2) → read_wide Element 4 65536 t ≡ done (front x n) → Got t x n
got_widest t x n b c h =
    let g : Wider t Element 4 65536 x n = got_wider t Element 4 65536 x n b h in
    let v : ℕ = value_of 4 (drop 2 t) in
    let m : v < 4294967296 = g.less in
    let e : take 6 t ≡ logical element_code v = g.bytes ∙ rw c (sym (number_four element_code v g.more)) in
    let s : 6 ≡ n = g.size in
    rw (← g.is, ← s) (record { bytes = e; size = g.here; small = omega arith; near = omega arith; held = omega arith; fine = m; normal = refl })

-- ---- symbols
got_symbol : (t : List ℕ) (x : Segment) (n : ℕ) → Bytes t → get_or t 0 0 ≡ symbol_code → read_symbol t ≡ done (front x n) → Got t x n
unfolding read_symbol
got_symbol t x n b c h =
    let k : ℕ = get_or t 1 0 in
    let y : Segment = Symbol (record { start = 2; len = k }) in
    let u = all_were _ _ (front x n) h in
    let l : 2 ≤ length t = u.0.0 in
    let g : Ended t y x (2 + k) n = part_got t y x (2 + k) n u.1 in
    let bs : List ℕ = take k (drop 2 t) in
    let long : length bs ≡ k = length-take-le k (drop 2 t) (simp length-drop (omega (arith, g.here))) in
    let e : take (2 + k) t ≡ symbol_code ∷ length bs ∷ bs = take-add 2 k t ∙ rw (first_two t l, c, long) in
    rw (← g.same)
    (record {
      bytes = g.bytes ∙ ap padded e;
      size = g.size;
      small = omega (arith, g.small, b 1);
      near = omega arith;
      held = g.here;
      fine = omega (arith, long, b 1);
      normal = refl;
    })

-- ---- ports
linked_same : (bs : List ℕ) → 1 ≤ length bs → linked bs ≡ bs
linked_same [] h = absurd (omega arith)
linked_same (x ∷ bs) h = refl

got_link : (t : List ℕ) (p at len : ℕ) (x : Segment) (n : ℕ) → at ≤ 4 → 1 ≤ len → len ≤ max_link → p < 65536 → take at t ≡ port_head p len → read_link p at len t ≡ done (front x n) → Got t x n
unfolding read_link
got_link t p at len x n a o m q hd h =
    let y : Segment = Port (record { port = p; start = at; len = len }) in
    let g : Ended t y x (at + len) n = part_got t y x (at + len) n h in
    let bs : List ℕ = take len (drop at t) in
    let long : length bs ≡ len = length-take-le len (drop at t) (simp length-drop (omega (arith, g.here))) in
    let e : take (at + len) t ≡ port_head p (length bs) ++ bs = take-add at len t ∙ rw (hd, long) in
    rw (← g.same)
    (record {
      bytes = g.bytes ∙ ap padded e;
      size = g.size;
      small = omega (arith, g.small);
      near = a;
      held = g.here;
      fine = (q, omega arith);
      normal = ap (port p) (linked_same bs (omega arith));
    })

-- the port, in the first byte or after it
got_port_number : (t : List ℕ) (low at len : ℕ) (x : Segment) (n : ℕ) → Bytes t → at ≤ 2 → 1 ≤ len → len ≤ max_link → low ≤ far_port_code
    → (low ≤ near_port → take at t ≡ port_head low len)
    → ((p : ℕ) → near_port < p → low ≡ far_port_code → take at t ++ far_port p ≡ port_head p len)
    → read_port_number low at len t ≡ done (front x n) → Got t x n
got_port_number t low at len x n b a o m i one two h = ⊎_elim
    (λ (l : low < far_port_code). got_link t low at len x n (omega arith) o m (omega arith) (one (omega arith)) (number_low t low at len (read_link low at len t) l refl ∙ h))
    (λ (l : far_port_code ≤ low). high l)
    (below_or low far_port_code)
  where
    high : far_port_code ≤ low → Got t x n
    high l =
        let p : ℕ = far_value (get_or t at 0) (get_or t (at + 1) 0) in
        let u = all_were _ _ (front x n) (sym (number_high t low at len l) ∙ h) in
        let r : at + 2 ≤ length t = u.0.0 in
        let q : near_port < p = u.0.1.0 in
        let hi : p / 256 ≡ get_or t at 0 = omega (arith, b at, b (at + 1)) in
        let lo : p % 256 ≡ get_or t (at + 1) 0 = omega (arith, b at, b (at + 1)) in
        let d : take 2 (drop at t) ≡ far_port p = first_two (drop at t) (simp length-drop (omega arith)) ∙ rw (hi, lo, byte_here t at, get_or-drop at t 1 0) in
        let e : take (at + 2) t ≡ port_head p len = take-add at 2 t ∙ rw d (two p q (omega arith)) in
        got_link t p (at + 2) len x n (omega arith) o m (omega (arith, b at, b (at + 1))) e u.1

got_port : (t : List ℕ) (x : Segment) (n : ℕ) → Bytes t → 1 ≤ length t → get_or t 0 0 < port_end → read_port (get_or t 0 0) t ≡ done (front x n) → Got t x n
got_port t x n b l s h = ⊎_elim
    (λ (f : get_or t 0 0 < long_link). short f)
    (λ (f : long_link ≤ get_or t 0 0). long f)
    (below_or (get_or t 0 0) long_link)
  where
    short : get_or t 0 0 < long_link → Got t x n
    short f =
        let c : ℕ = get_or t 0 0 in
        let z : c % long_link ≡ c = omega arith in
        got_port_number t (c % long_link) 1 1 x n b (omega arith) (omega arith) (omega arith) (omega arith)
        (λ i. first_one t l ∙ rw z (sym (head_short c 1 (omega arith) (omega arith))))
        (λ p i j. let k : c ≡ far_port_code = omega arith in rw (first_one t l, k) (sym (head_escaped p 1 i (omega arith))))
        (port_one t c (read_port_number (c % long_link) 1 1 t) f refl ∙ h)

    long : long_link ≤ get_or t 0 0 → Got t x n
    long f =
        let c : ℕ = get_or t 0 0 in
        let m : ℕ = get_or t 1 0 in
        let u = all_were _ _ (front x n) (sym (port_long t c f) ∙ h) in
        let r : 2 ≤ length t = u.0.0 in
        let q : 2 ≤ m = u.0.1.0 in
        let w : m ≤ max_link = u.0.1.1.0 in
        let z : c % long_link + long_link ≡ c = omega arith in
        got_port_number t (c % long_link) 2 m x n b (omega arith) (omega arith) w (omega arith)
        (λ i. first_two t r ∙ sym (head_long (c % long_link) m i q ∙ rw z))
        (λ p i j. let k : c ≡ far_port_code + long_link = omega arith in rw (first_two t r, k) (sym (head_both p m i q)))
        u.1

-- ---- a segment
got_as : (t : List ℕ) (f : Form) (x : Segment) (n : ℕ) → Bytes t → 1 ≤ length t → Begins (get_or t 0 0) f → read_as f (get_or t 0 0) t ≡ done (front x n) → Got t x n
got_as t fPort x n b l s h = got_port t x n b l s h
got_as t fSymbol x n b l s h = got_symbol t x n b s h
got_as t (Narrow k) x n b l s h = got_narrow t k x n b s h
got_as t (Wide k) x n b l s h = got_wide t k x n b s h
got_as t Widest x n b l s h = got_widest t x n b s h
got_as t Unknown x n b l s h = never h

pub got : (t : List ℕ) (x : Segment) (n : ℕ) → Bytes t → read_seg t ≡ done (front x n) → Got t x n
unfolding read_seg
got t x n b h =
    let c : ℕ = get_or t 0 0 in
    let u = all_were _ _ (front x n) h in
    got_as t (form_of c) x n b u.0.0 (begins c) u.1
