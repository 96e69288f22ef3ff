-- Each end of the envelope's reader, as a law with plain conditions. Assumes nothing.
use Prim.Native.Nat.{ℕ, ◌+◌, ◌-◌, ◌≤◌, ◌<◌}
use mathlib.Core.Path.{◌≡◌, refl, sym, ap, ◌∙◌}
use mathlib.Core.List.{List}
use native.Mathlib.Omega.{arith}
use lib.ListN.{length, drop}
use Rattle.wire.specs.Numbers.{value_of}
use Rattle.wire.specs.Answers.{Answer, done, refused, and_then}
use Rattle.wire.proofs.Rules.{rules, never, done_same, then_stops, then_goes, then_were}
use Rattle.wire.proofs.Choice.{pick_here, pick_past}
use Rattle.envelope.specs.Envelopes.{null_address, connected_address, connected_data, unconnected_data, Held, unconnected, connected, item_length, items_at, data_at, unconnected_at, connected_at, read_envelope}
use Rattle.envelope.specs.declared.Data.{Data}

-- ---- one item
module _ (kind : ℕ) (s : List ℕ) (at : ℕ) where
  pub item_short : length s < at + 2 → refused 1 ≡ item_length kind s at
  unfolding item_length
  item_short h = search rules

  module _ (t : ℕ) (is : t ≡ value_of 2 (drop at s)) (h : at + 2 ≤ length s) where
    pub item_other : (t ≡ kind → ⊥) → refused 10 ≡ item_length kind s at
    unfolding item_length
    item_other f = let k : value_of 2 (drop at s) ≡ kind → ⊥ = λ e. f (is ∙ e) in search rules

    module _ (f : t ≡ kind) where
      same_kind : value_of 2 (drop at s) ≡ kind
      same_kind = sym is ∙ f

      pub item_cut : length s < at + 4 → refused 1 ≡ item_length kind s at
      unfolding item_length
      item_cut g = search (rules, same_kind)

      module _ (n : ℕ) (of : n ≡ value_of 2 (drop (at + 2) s)) (g : at + 4 ≤ length s) where
        pub item_missing : length s < at + 4 + n → refused 1 ≡ item_length kind s at
        unfolding item_length
        item_missing l = let m : length s < at + 4 + value_of 2 (drop (at + 2) s) = omega arith in search (rules, same_kind)

        pub item_is : at + 4 + n ≤ length s → done n ≡ item_length kind s at
        unfolding item_length
        item_is l =
            let m : at + 4 + value_of 2 (drop (at + 2) s) ≤ length s = omega arith in
            let e : done n ≡ done (value_of 2 (drop (at + 2) s)) = ap done of in
            search (rules, same_kind)

pub ruleset item_laws = (item_short, item_other, item_cut, item_missing, item_is)

-- ---- two items
module _ (address kind : ℕ) (s : List ℕ) where
  pub address_stops : (k : ℕ) → refused k ≡ item_length address s 2 → refused k ≡ data_at address kind s
  unfolding data_at
  address_stops k h = then_stops _ _ k (sym h)

  module _ (a : ℕ) (h : done a ≡ item_length address s 2) where
    pub data_stops : (k : ℕ) → refused k ≡ item_length kind s (6 + a) → refused k ≡ data_at address kind s
    unfolding data_at
    data_stops k g = then_goes _ _ a _ (sym h) (then_stops _ _ k (sym g))

    pub data_found : (n : ℕ) → done n ≡ item_length kind s (6 + a) → done (record { start = 10 + a; len = n }) ≡ data_at address kind s
    unfolding data_at
    data_found n g = then_goes _ _ a _ (sym h) (then_goes _ _ n _ (sym g) refl)

pub ruleset two_laws = (address_stops, data_stops, data_found)

abbrev made : ℕ → ℕ → Answer Data
made a n = done (record { start = 10 + a; len = n })

-- what follows them
module _ (address kind : ℕ) (s : List ℕ) where
  stops : (f : ℕ → ℕ → Answer Held) (k : ℕ) → refused k ≡ data_at address kind s → refused k ≡ items_at address kind f s
  unfolding data_at items_at
  stops f k h = go (item_length address s 2) refl
    where
      go : (x : Answer ℕ) → item_length address s 2 ≡ x → refused k ≡ and_then (item_length address s 2) (λ a. and_then (item_length kind s (6 + a)) (λ n. f a n))
      go (refused j) e = let g : refused k ≡ refused j = rw e at h in then_stops _ _ k (e ∙ ap refused cc)
      go (done a) e =
          let g : refused k ≡ and_then (item_length kind s (6 + a)) (made a) = rw e at h in
          then_goes _ _ a _ e (to (item_length kind s (6 + a)) refl g)
        where
          to : (y : Answer ℕ) → item_length kind s (6 + a) ≡ y → refused k ≡ and_then (item_length kind s (6 + a)) (made a) → refused k ≡ and_then (item_length kind s (6 + a)) (λ n. f a n)
          to (refused j) i g = let l : refused k ≡ refused j = rw i at g in then_stops _ _ k (i ∙ ap refused cc)
          to (done n) i g = never (rw i at g)

  -- so many bytes of address are before the data
  pub record Two (d : Data) : Type 0 where
    pub before : ℕ
    pub first : item_length address s 2 ≡ done before
    pub second : item_length kind s (6 + before) ≡ done d.len
    pub start : d.start ≡ 10 + before

  two_were : (d : Data) → done d ≡ data_at address kind s → Two d
  unfolding data_at
  two_were d h =
      let w = then_were _ _ d (sym h) in
      let v = then_were _ _ d w.then in
      let e : record { start = 10 + w.found; len = v.found } ≡ d = done_same v.then in
      record { before = w.found; first = w.is; second = v.is ∙ ap (λ (x : Data). done x.len) e; start = sym (ap (λ (x : Data). x.start) e) }

  found : (f : ℕ → ℕ → Answer Held) (d : Data) (w : Two d) (z : Answer Held) → z ≡ f w.before d.len → z ≡ items_at address kind f s
  unfolding items_at
  found f d w z e = then_goes _ _ w.before z w.first (then_goes _ _ d.len z w.second e)

module _ (s : List ℕ) where
  pub unconnected_stops : (k : ℕ) → refused k ≡ data_at null_address unconnected_data s → refused k ≡ unconnected_at s
  unconnected_stops k h = stops null_address unconnected_data s _ k h

  pub connected_stops : (k : ℕ) → refused k ≡ data_at connected_address connected_data s → refused k ≡ connected_at s
  connected_stops k h = stops connected_address connected_data s _ k h

  module _ (d : Data) where
    module _ (h : done d ≡ data_at null_address unconnected_data s) where
      pub unconnected_left : d.start + d.len < length s → refused 8 ≡ unconnected_at s
      unconnected_left l =
          let w = two_were null_address unconnected_data s d h in
          let m : 10 + w.before + d.len < length s = omega (arith, w.start, l) in
          found _ _ s _ d w (refused 8) (search rules)

      pub unconnected_is : length s ≤ d.start + d.len → done (unconnected d.start d.len) ≡ unconnected_at s
      unconnected_is l =
          let w = two_were null_address unconnected_data s d h in
          let m : length s ≤ 10 + w.before + d.len = omega (arith, w.start, l) in
          ap (λ (k : ℕ). done (unconnected k d.len)) w.start ∙ found _ _ s _ d w (done (unconnected (10 + w.before) d.len)) (search rules)

    module _ (h : done d ≡ data_at connected_address connected_data s) where
      pub connected_short : d.len < 2 → refused 1 ≡ connected_at s
      connected_short l = found _ _ s _ d (two_were connected_address connected_data s d h) (refused 1) (search rules)

      module _ (g : 2 ≤ d.len) where
        pub connected_left : d.start + d.len < length s → refused 8 ≡ connected_at s
        connected_left l =
            let w = two_were connected_address connected_data s d h in
            let m : 10 + w.before + d.len < length s = omega (arith, w.start, l) in
            found _ _ s _ d w (refused 8) (search rules)

        pub connected_is : (c : ℕ) → c ≡ value_of 2 (drop d.start s) → length s ≤ d.start + d.len → done (connected c (d.start + 2) (d.len - 2)) ≡ connected_at s
        connected_is c e l =
            let w = two_were connected_address connected_data s d h in
            let m : length s ≤ 10 + w.before + d.len = omega (arith, w.start, l) in
            rw (e, w.start) (found _ _ s _ d w _ (search rules))

pub ruleset held_laws = (unconnected_stops, connected_stops, unconnected_left, unconnected_is, connected_short, connected_left, connected_is)

-- ---- the envelope
module _ (s : List ℕ) where
  pub envelope_short : length s < 2 → refused 1 ≡ read_envelope s
  unfolding read_envelope
  envelope_short h = search rules

  module _ (c : ℕ) (is : c ≡ value_of 2 (drop 0 s)) (h : 2 ≤ length s) where
    pub envelope_count : (c ≡ 2 → ⊥) → refused 10 ≡ read_envelope s
    unfolding read_envelope
    envelope_count f = let k : value_of 2 (drop 0 s) ≡ 2 → ⊥ = λ e. f (is ∙ e) in search rules

    module _ (f : c ≡ 2) where
      two : value_of 2 (drop 0 s) ≡ 2
      two = sym is ∙ f

      pub envelope_cut : length s < 4 → refused 1 ≡ read_envelope s
      unfolding read_envelope
      envelope_cut g = search (rules, two)

      module _ (t : ℕ) (of : t ≡ value_of 2 (drop 2 s)) (g : 4 ≤ length s) (z : Answer Held) where
        pub envelope_connected : t ≡ connected_address → z ≡ connected_at s → z ≡ read_envelope s
        unfolding read_envelope
        envelope_connected l e = let y = pick_here (value_of 2 (drop 2 s)) connected_address (connected_at s) (unconnected_at s) z (sym of ∙ l) e in search (rules, two)

        pub envelope_unconnected : (t ≡ connected_address → ⊥) → z ≡ unconnected_at s → z ≡ read_envelope s
        unfolding read_envelope
        envelope_unconnected l e = let y = pick_past (value_of 2 (drop 2 s)) connected_address (connected_at s) (unconnected_at s) z (λ i. l (of ∙ i)) e in search (rules, two)

pub ruleset envelope_laws = (envelope_short, envelope_count, envelope_cut, envelope_connected, envelope_unconnected)
