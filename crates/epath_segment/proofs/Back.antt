-- What is written is read back, with anything after it. Assumes nothing.
use Prim.Native.Nat.{ℕ, zero, suc, ◌+◌, ◌/◌, ◌%◌, ◌^◌, ◌≤◌, ◌<◌}
use mathlib.Core.Path.{◌≡◌, refl, sym, ◌∙◌, subst}
use mathlib.Core.List.{List, [], ◌∷◌, ◌++◌, append_assoc}
use mathlib.Core.Logic.{◌⊎◌, inl, inr, ⊎_elim}
use native.Mathlib.Omega.{arith}
use lib.ListN.{length, get_or, take, drop, length-append}
use lib.Seq.{take-append_seam, drop_at, get_or-append_seam}
use Rattle.wire.specs.Numbers.{value_of, low_first}
use Rattle.wire.specs.Answers.{Answer, done}
use Rattle.wire.proofs.Numbers.{value_low, low_length, below_or}
use Rattle.wire.proofs.Rules.{all_keep}
use Rattle.epath_sizes.specs.Limits.{max_link, near_port, far_port_code, long_link, element_code, symbol_code}
use Rattle.epath_sizes.specs.Segments.{Seg, symbol, class, instance, attribute, element, port, logical, pad, padded, far_port, far_value, encode_seg, Fine, norm}
use Rattle.epath_segment.specs.declared.decode.Kind.{Kind}
use Rattle.epath_segment.specs.declared.decode.Kind.TheVariants.{Class as kClass, Instance as kInstance, Attribute as kAttribute, Element as kElement}
use Rattle.epath_segment.specs.declared.decode.Form.{Form}
use Rattle.epath_segment.specs.declared.decode.Form.TheVariants.{Port as fPort, Symbol as fSymbol, Narrow, Wide, Widest}
use Rattle.epath_sizes.specs.declared.Segment.{Segment}
use Rattle.epath_sizes.specs.declared.Segment.TheVariants.{Symbol, Element, Port}
use Rattle.epath_segment.specs.Reads.{Front, front, form_of, made, read_narrow, read_wide, read_part, read_symbol, read_link, read_port_number, read_as, read_seg, parsed, parse}
use Rattle.epath_segment.proofs.ReadLaws.{code_of, form_port, form_symbol, form_narrow, form_wide, form_widest, part_even, part_odd, symbol_is, link_is, number_low, number_is, port_one, port_is, front_is}
use Rattle.epath_sizes.proofs.Forms.{number_one, number_two, number_four, head_short, head_long, head_escaped, head_both, padded_even, padded_odd}

near_or : (p : ℕ) → (p ≤ near_port) ⊎ (near_port < p)
near_or p = ⊎_elim (λ (h : near_port < p). inr h) (λ (h : p ≤ near_port). inl h) (below_or near_port p)

-- what a first byte with a form says
starts : (b : ℕ) (t : List ℕ) (f : Form) (z : Answer Front) → f ≡ form_of b → read_as f b (b ∷ t) ≡ z → read_seg (b ∷ t) ≡ z
starts b t f z e h = sym (front_is (b ∷ t) b f f z refl e refl (omega arith) (sym h))

-- ---- numbers
narrow_back : (make : ℕ → Segment) (c v : ℕ) (rest : List ℕ) → read_narrow make (c ∷ v ∷ rest) ≡ done (front (make v) 2)
unfolding read_narrow
narrow_back make c v rest = all_keep _ _ (omega arith, tt)

-- a wide form, over its width
wide_back : (make : ℕ → Segment) (w least c v : ℕ) (rest : List ℕ) → least ≤ v → v < 256 ^ w → read_wide make w least (c ∷ 0 ∷ (low_first w v ++ rest)) ≡ done (front (make v) (2 + w))
unfolding read_wide
wide_back make w least c v rest l h =
    let t : List ℕ = c ∷ 0 ∷ (low_first w v ++ rest) in
    let m : ℕ = value_of w (low_first w v ++ rest) in
    let e : m ≡ v = value_low w v rest h in
    let long : 2 + w ≤ length t = omega (arith, length-append (low_first w v) rest, low_length w v) in
    all_keep _ _
    (omega arith, (refl, (long, (omega arith, tt))))
    ∙ rw e

number_back : (k : Kind) (v : ℕ) (rest : List ℕ) → v < 65536 → read_seg (logical (code_of k) v ++ rest) ≡ done (front (made k v) (length (logical (code_of k) v)))
number_back k v rest h = ⊎_elim
    (λ (l : v < 256). rw (number_one (code_of k) v l) (starts (code_of k) (v ∷ rest) (Narrow k) _ (form_narrow _ k refl) (narrow_back (made k) (code_of k) v rest)))
    (λ (l : 256 ≤ v). rw (number_two (code_of k) v l h) (starts (code_of k + 1) (0 ∷ (low_first 2 v ++ rest)) (Wide k) _ (form_wide _ k refl) (wide_back (made k) 2 256 (code_of k + 1) v rest l h)))
    (below_or v 256)

element_back : (v : ℕ) (rest : List ℕ) → v < 4294967296 → read_seg (logical element_code v ++ rest) ≡ done (front (Element v) (length (logical element_code v)))
element_back v rest h = ⊎_elim
    (λ (l : v < 65536). number_back kElement v rest l)
    (λ (l : 65536 ≤ v). rw (number_four element_code v l) (starts (element_code + 2) (0 ∷ (low_first 4 v ++ rest)) Widest _ (form_widest _ refl) (wide_back Element 4 65536 (element_code + 2) v rest l h)))
    (below_or v 65536)

-- ---- bytes with a pad
part_back : (x : Segment) (h rest : List ℕ) → read_part x (length h) (padded h ++ rest) ≡ done (front x (length (padded h)))
part_back x h rest = go (length h % 2) refl
  where
    go : (r : ℕ) → length h % 2 ≡ r → read_part x (length h) (padded h ++ rest) ≡ done (front x (length (padded h)))
    go zero e = rw (padded_even h e) (sym (part_even (h ++ rest) x (length h) (omega (arith, length-append h rest)) e))
    go (suc r) e =
        let o : length h % 2 ≡ 1 = omega arith in
        let t : List ℕ = (h ++ (0 ∷ [])) ++ rest in
        let s : t ≡ h ++ (0 ∷ rest) = append_assoc h (0 ∷ []) rest in
        let z : 0 ≡ get_or t (length h) 0 = sym (rw s (get_or-append_seam h 0 rest 0)) in
        let l : length h + 1 ≤ length t = rw s (omega (arith, length-append h (0 ∷ rest))) in
        let m : length (h ++ (0 ∷ [])) ≡ length h + 1 = length-append h (0 ∷ []) in
        rw (padded_odd h o, m) (sym (part_odd t x (length h) 0 z (λ q. absurd (omega arith)) l refl))

-- the bytes behind a head
behind : (hd bs rest : List ℕ) → take (length bs) (drop (length hd) (padded (hd ++ bs) ++ rest)) ≡ bs
unfolding padded
behind hd bs rest =
    let q : List ℕ = pad (length (hd ++ bs)) in
    let e : ((hd ++ bs) ++ q) ++ rest ≡ hd ++ (bs ++ (q ++ rest)) = simp append_assoc in
    rw (e, drop_at hd (bs ++ (q ++ rest)) (length hd) refl) (take-append_seam bs (q ++ rest))

-- ---- symbols
module _ (bs rest : List ℕ) where
  sym_one : length bs ≡ get_or (padded (symbol_code ∷ length bs ∷ bs) ++ rest) 1 0
  unfolding padded
  sym_one = refl

  sym_two : 2 ≤ length (padded (symbol_code ∷ length bs ∷ bs) ++ rest)
  unfolding padded
  sym_two = omega arith

  sym_starts : {z : Answer Front} → read_symbol (padded (symbol_code ∷ length bs ∷ bs) ++ rest) ≡ z → read_seg (padded (symbol_code ∷ length bs ∷ bs) ++ rest) ≡ z
  unfolding padded
  sym_starts {z} h = starts symbol_code (length bs ∷ ((bs ++ pad (suc (suc (length bs)))) ++ rest)) fSymbol z (form_symbol _ refl) h

  symbol_back : read_seg (padded (symbol_code ∷ length bs ∷ bs) ++ rest) ≡ done (front (Symbol (record { start = 2; len = length bs })) (length (padded (symbol_code ∷ length bs ∷ bs))))
  symbol_back =
      let x : Segment = Symbol (record { start = 2; len = length bs }) in
      let e : 2 + length bs ≡ suc (suc (length bs)) = omega arith in
      let p : read_part x (2 + length bs) (padded (symbol_code ∷ length bs ∷ bs) ++ rest) ≡ done (front x (length (padded (symbol_code ∷ length bs ∷ bs)))) = rw e (part_back x (symbol_code ∷ length bs ∷ bs) rest) in
      sym_starts (sym (symbol_is _ (length bs) _ sym_one sym_two (sym p)))

-- ---- ports: the link behind any head, then each of the four heads
module _ (p : ℕ) (link rest : List ℕ) where
  abbrev Back : List ℕ → ℕ → Answer Front
  Back hd at = done (front (Port (record { port = p; start = at; len = length link })) (length (padded (hd ++ link))))

  link_back : (hd : List ℕ) (at : ℕ) → length hd ≡ at → read_link p at (length link) (padded (hd ++ link) ++ rest) ≡ Back hd at
  link_back hd at e =
      let x : Segment = Port (record { port = p; start = at; len = length link }) in
      let m : at + length link ≡ length (hd ++ link) = omega (arith, length-append hd link) in
      sym (link_is _ p at (length link) _ (sym (rw m (part_back x (hd ++ link) rest))))

  abbrev pub Ported : List ℕ → ℕ → Type 0
  Ported hd at = read_seg (padded (hd ++ link) ++ rest) ≡ Back hd at

  back_short : p ≤ near_port → length link ≡ 1 → Ported (p ∷ []) 1
  unfolding padded
  back_short h l =
      let t : List ℕ = padded ((p ∷ []) ++ link) ++ rest in
      let z : p % long_link ≡ p = omega arith in
      let g : read_link p 1 1 t ≡ Back (p ∷ []) 1 = subst (λ (k : ℕ). read_link p 1 k t ≡ Back (p ∷ []) 1) l (link_back (p ∷ []) 1 refl) in
      let n : read_port_number (p % long_link) 1 1 t ≡ Back (p ∷ []) 1 = rw z (sym (number_low t p 1 1 _ (omega arith) (sym g))) in
      starts p _ fPort _ (form_port p (omega arith)) (sym (port_one t p _ (omega arith) (sym n)))

  back_escaped : near_port < p → length link ≡ 1 → Ported (far_port_code ∷ far_port p) 3
  unfolding padded
  back_escaped h l =
      let hd : List ℕ = far_port_code ∷ far_port p in
      let t : List ℕ = padded (hd ++ link) ++ rest in
      let z : far_value (p / 256) (p % 256) ≡ p = omega arith in
      let g : read_link p 3 1 t ≡ Back hd 3 = (subst (λ (k : ℕ). read_link p 3 k t ≡ Back hd 3) l (link_back hd 3 refl)) in
      let n : read_port_number far_port_code 1 1 t ≡ Back hd 3 = sym (number_is t far_port_code 1 1 p (sym z) (omega arith) (omega arith) _ h (sym g)) in
      starts far_port_code _ fPort _ (form_port far_port_code (omega arith)) (sym (port_one t far_port_code _ (omega arith) (sym n)))

  back_long : p ≤ near_port → 2 ≤ length link → length link ≤ max_link → Ported ((p + long_link) ∷ length link ∷ []) 2
  unfolding padded
  back_long h l m =
      let hd : List ℕ = (p + long_link) ∷ length link ∷ [] in
      let t : List ℕ = padded (hd ++ link) ++ rest in
      let z : (p + long_link) % long_link ≡ p = omega arith in
      let n : read_port_number ((p + long_link) % long_link) 2 (length link) t ≡ Back hd 2 = rw z (sym (number_low t p 2 (length link) _ (omega arith) (sym (link_back hd 2 refl)))) in
      starts (p + long_link) _ fPort _ (form_port (p + long_link) (omega arith)) (sym (port_is t (p + long_link) (length link) refl (omega arith) (omega arith) _ l m (sym n)))

  back_both : near_port < p → 2 ≤ length link → length link ≤ max_link → Ported ((far_port_code + long_link) ∷ length link ∷ far_port p) 4
  unfolding padded
  back_both h l m =
      let hd : List ℕ = (far_port_code + long_link) ∷ length link ∷ far_port p in
      let t : List ℕ = padded (hd ++ link) ++ rest in
      let z : far_value (p / 256) (p % 256) ≡ p = omega arith in
      let g : read_link p 4 (length link) t ≡ Back hd 4 = link_back hd 4 refl in
      let n : read_port_number far_port_code 2 (length link) t ≡ Back hd 4 = sym (number_is t far_port_code 2 (length link) p (sym z) (omega arith) (omega arith) _ h (sym g)) in
      starts (far_port_code + long_link) _ fPort _ (form_port (far_port_code + long_link) (omega arith)) (sym (port_is t (far_port_code + long_link) (length link) refl (omega arith) (omega arith) _ l m (sym n)))

-- ---- a segment, with its bytes inside

-- an empty link is written as [0] is
pub norm_same : (x : Seg) → encode_seg (norm x) ≡ encode_seg x
unfolding padded
norm_same (symbol bs) = refl
norm_same (class v) = refl
norm_same (instance v) = refl
norm_same (attribute v) = refl
norm_same (element v) = refl
norm_same (port p (b ∷ bs)) = refl
norm_same (port p []) = ⊎_elim
    (λ (l : p ≤ near_port). rw (head_short p 0 (omega arith) (omega arith)))
    (λ (l : near_port < p). rw (head_escaped p 0 l (omega arith)))
    (near_or p)

link_seen : (p : ℕ) (link rest hd : List ℕ) (at : ℕ) → length hd ≡ at → Ported p link rest hd at → parse (padded (hd ++ link) ++ rest) ≡ done (parsed (port p link) (length (padded (hd ++ link))))
link_seen p link rest hd at e h = rw (h, ← e, behind hd link rest)

port_parsed : (p : ℕ) (link rest : List ℕ) → 1 ≤ length link → length link ≤ max_link → parse (encode_seg (port p link) ++ rest) ≡ done (parsed (port p link) (length (encode_seg (port p link))))
port_parsed p link rest o m = ⊎_elim
    (λ (l : p ≤ near_port). ⊎_elim
    (λ (k : length link < 2). rw (head_short p (length link) (omega arith) (omega arith)) (link_seen p link rest (p ∷ []) 1 refl (back_short p link rest (omega arith) (omega arith))))
    (λ (k : 2 ≤ length link). rw (head_long p (length link) (omega arith) k) (link_seen p link rest ((p + long_link) ∷ length link ∷ []) 2 refl (back_long p link rest (omega arith) k m)))
    (below_or (length link) 2))
    (λ (l : near_port < p). ⊎_elim
    (λ (k : length link < 2). rw (head_escaped p (length link) l (omega arith)) (link_seen p link rest (far_port_code ∷ far_port p) 3 refl (back_escaped p link rest l (omega arith))))
    (λ (k : 2 ≤ length link). rw (head_both p (length link) l k) (link_seen p link rest ((far_port_code + long_link) ∷ length link ∷ far_port p) 4 refl (back_both p link rest l k m)))
    (below_or (length link) 2))
    (near_or p)

-- T1 for one segment and any rest: what is written is read, an empty link as [0]
pub segment_read_of_written : (x : Seg) → Fine x → (rest : List ℕ) → parse (encode_seg x ++ rest) ≡ done (parsed (norm x) (length (encode_seg x)))
segment_read_of_written (symbol bs) f rest = rw (symbol_back bs rest, behind (symbol_code ∷ length bs ∷ []) bs rest)
segment_read_of_written (class v) f rest = rw (number_back kClass v rest f)
segment_read_of_written (instance v) f rest = rw (number_back kInstance v rest f)
segment_read_of_written (attribute v) f rest = rw (number_back kAttribute v rest f)
segment_read_of_written (element v) f rest = rw (element_back v rest f)
segment_read_of_written (port p []) f rest = rw (← norm_same (port p [])) (port_parsed p (0 ∷ []) rest (omega arith) (omega arith))
segment_read_of_written (port p (b ∷ bs)) f rest = port_parsed p (b ∷ bs) rest (omega arith) f.1
