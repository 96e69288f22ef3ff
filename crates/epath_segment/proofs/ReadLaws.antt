-- What the readers of a segment say, as laws with plain conditions: for what is proved of them. Assumes nothing.
use Prim.Native.Nat.{ℕ, ◌+◌, ◌%◌, ◌≤◌, ◌<◌}
use mathlib.Core.Path.{◌≡◌, sym, ◌∙◌}
use mathlib.Core.List.{List, [], ◌∷◌}
use native.Mathlib.Omega.{arith}
use lib.ListN.{length, get_or}
use borrow.Author.Tests.{lt-ltb, le-ltb}
use Rattle.wire.specs.Answers.{Answer, done, refused, under, over, judged}
use Rattle.wire.proofs.Rules.{rules}
use Rattle.epath_sizes.specs.Limits.{max_link, port_end, near_port, far_port_code, long_link, class_code, instance_code, element_code, attribute_code, symbol_code}
use Rattle.epath_sizes.specs.declared.Segment.{Segment}
use Rattle.epath_sizes.specs.declared.Segment.TheVariants.{Symbol, Port}
use Rattle.epath_sizes.specs.Segments.{far_value}
use Rattle.epath_segment.specs.declared.decode.Kind.{Kind}
use Rattle.epath_segment.specs.declared.decode.Kind.TheVariants.{Class as kClass, Instance as kInstance, Attribute as kAttribute, Element as kElement}
use Rattle.epath_segment.specs.declared.decode.Form.{Form}
use Rattle.epath_segment.specs.declared.decode.Form.TheVariants.{Port as fPort, Symbol as fSymbol, Narrow, Wide, Widest}
use Rattle.epath_segment.specs.Reads.{Front, front, form_of, form_in, read_part, read_symbol, read_link, read_port_number, read_port, read_as, read_seg}

-- ---- the first byte: each row of the table

abbrev pub code_of : Kind → ℕ
code_of kClass = class_code
code_of kInstance = instance_code
code_of kAttribute = attribute_code
code_of kElement = element_code

module _ (b : ℕ) where
  pub form_port : b < port_end → fPort ≡ form_of b
  unfolding form_of
  form_port h = simp (lt-ltb _ _ h, form_of)

  pub form_symbol : b ≡ symbol_code → fSymbol ≡ form_of b
  unfolding form_of form_in
  form_symbol h = rw h

  pub form_narrow : (k : Kind) → b ≡ code_of k → Narrow k ≡ form_of b
  unfolding form_of form_in
  form_narrow = elim [ kClass ↦ λ h. rw h | kInstance ↦ λ h. rw h | kAttribute ↦ λ h. rw h | kElement ↦ λ h. rw h ]

  pub form_wide : (k : Kind) → b ≡ code_of k + 1 → Wide k ≡ form_of b
  unfolding form_of form_in
  form_wide = elim [ kClass ↦ λ h. rw h | kInstance ↦ λ h. rw h | kAttribute ↦ λ h. rw h | kElement ↦ λ h. rw h ]

  pub form_widest : b ≡ element_code + 2 → Widest ≡ form_of b
  unfolding form_of form_in
  form_widest h = rw h

-- ---- bytes with a pad
module _ (t : List ℕ) (x : Segment) (end : ℕ) where
  pub part_even : end ≤ length t → end % 2 ≡ 0 → done (front x end) ≡ read_part x end t
  unfolding read_part
  part_even h e = let n : end ≡ end + 0 = omega arith in rw e (search (rules, n))

  pub part_odd : (b : ℕ) → b ≡ get_or t end 0 → (end % 2 ≡ 0 → ⊥) → end + 1 ≤ length t → b ≡ 0 → done (front x (end + 1)) ≡ read_part x end t
  unfolding read_part
  part_odd b f o l p =
      let e : end % 2 ≡ 1 = omega arith in
      let h : end ≤ length t = omega arith in
      let q : get_or t end 0 ≡ 0 = sym f ∙ p in
      rw e (search rules)

-- ---- symbols and ports
module _ (t : List ℕ) where
  pub symbol_is : (n : ℕ) (z : Answer Front) → n ≡ get_or t 1 0 → 2 ≤ length t → z ≡ read_part (Symbol (record { start = 2; len = n })) (2 + n) t → z ≡ read_symbol t
  unfolding read_symbol
  symbol_is n z e h p =
      let q : z ≡ read_part (Symbol (record { start = 2; len = get_or t 1 0 })) (2 + get_or t 1 0) t = p ∙ rw e in
      search rules

  pub link_is : (p at len : ℕ) (z : Answer Front) → z ≡ read_part (Port (record { port = p; start = at; len = len })) (at + len) t → z ≡ read_link p at len t
  unfolding read_link
  link_is p at len z h = h

  module _ (low at len : ℕ) where
    pub number_low : (z : Answer Front) → low < far_port_code → z ≡ read_link low at len t → z ≡ read_port_number low at len t
    unfolding read_port_number
    number_low z h e = simp (lt-ltb _ _ h, read_port_number) e

    pub number_high : far_port_code ≤ low → read_port_number low at len t
        ≡ judged (under (length t) (at + 2) 1 ∷ under (far_value (get_or t at 0) (get_or t (at + 1) 0)) (near_port + 1) 5 ∷ []) (read_link (far_value (get_or t at 0) (get_or t (at + 1) 0)) (at + 2) len t)
    unfolding read_port_number
    number_high h = simp (le-ltb _ _ h, read_port_number)

    module _ (p : ℕ) (is : p ≡ far_value (get_or t at 0) (get_or t (at + 1) 0)) (h : far_port_code ≤ low) (l : at + 2 ≤ length t) where
      pub number_is : (z : Answer Front) → near_port < p → z ≡ read_link p (at + 2) len t → z ≡ read_port_number low at len t
      unfolding read_port_number
      number_is z s e =
          let r : near_port + 1 ≤ far_value (get_or t at 0) (get_or t (at + 1) 0) = omega arith in
          let f : z ≡ read_link (far_value (get_or t at 0) (get_or t (at + 1) 0)) (at + 2) len t = e ∙ rw is in
          simp (le-ltb _ _ h, read_port_number) (search rules)

  module _ (b : ℕ) where
    pub port_one : (z : Answer Front) → b < long_link → z ≡ read_port_number (b % long_link) 1 1 t → z ≡ read_port b t
    unfolding read_port
    port_one z h e = simp (lt-ltb _ _ h, read_port) e

    pub port_long : long_link ≤ b → read_port b t
        ≡ judged (under (length t) 2 1 ∷ under (get_or t 1 0) 2 5 ∷ over (get_or t 1 0) max_link 3 ∷ []) (read_port_number (b % long_link) 2 (get_or t 1 0) t)
    unfolding read_port
    port_long h = simp (le-ltb _ _ h, read_port)

    module _ (n : ℕ) (e : n ≡ get_or t 1 0) (h : long_link ≤ b) (l : 2 ≤ length t) where
      pub port_is : (z : Answer Front) → 2 ≤ n → n ≤ max_link → z ≡ read_port_number (b % long_link) 2 n t → z ≡ read_port b t
      unfolding read_port
      port_is z u s f =
          let q : 2 ≤ get_or t 1 0 = omega arith in
          let r : get_or t 1 0 ≤ max_link = omega arith in
          let g : z ≡ read_port_number (b % long_link) 2 (get_or t 1 0) t = f ∙ rw e in
          simp (le-ltb _ _ h, read_port) (search rules)

  -- ---- a segment at the front
  pub front_short : length t < 1 → refused 1 ≡ read_seg t
  unfolding read_seg
  front_short h = search rules

  pub front_is : (b : ℕ) (f g : Form) (z : Answer Front) → b ≡ get_or t 0 0 → f ≡ form_of b → f ≡ g → 1 ≤ length t → z ≡ read_as g b t → z ≡ read_seg t
  unfolding read_seg
  front_is b f g z e p q h r =
      let s : z ≡ read_as (form_of (get_or t 0 0)) (get_or t 0 0) t = r ∙ rw (← q, p, e) in
      search rules
