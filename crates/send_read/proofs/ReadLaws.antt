-- Each end of the reader of Unconnected Send, as a law with plain conditions. Assumes nothing.
use Prim.Native.Nat.{ℕ, ◌+◌, ◌%◌, ◌≤◌, ◌<◌}
use mathlib.Core.Path.{◌≡◌, refl, sym, ap, ◌∙◌}
use mathlib.Core.List.{List}
use native.Mathlib.Omega.{arith}
use lib.ListN.{length, get_or, drop}
use Rattle.std.specs.Prelude.{Result, Ok, Err}
use Rattle.wire.specs.Numbers.{value_of}
use Rattle.wire.specs.Refusals.{number}
use Rattle.wire.specs.Answers.{Answer, done, refused, paper}
use Rattle.wire.specs.declared.Refusal.{Refusal}
use Rattle.wire.proofs.Numbers.{byte_here}
use Rattle.wire.proofs.Rules.{rules, then_stops, then_goes}
use Rattle.request_first.specs.Firsts.{first_rules, verdict}
use Rattle.request_first.proofs.FirstLaws.{kept_stops, kept_goes}
use Rattle.message_read.specs.Reads.{padded_route_at}
use Rattle.send_read.specs.Reads.{Sent, sent, message_rules, send_behind, read_send}

-- ---- Unconnected Send
module _ (s : List ℕ) where
  module _ (m : ℕ) where
    pub inner_short : length s < 4 + m → refused 1 ≡ verdict (message_rules s m)
    inner_short h = search rules

    module _ (h : 4 + m ≤ length s) where
      pub inner_even : m % 2 ≡ 0 → done tt ≡ verdict (message_rules s m)
      unfolding value_of
      inner_even g =
          let l : 4 + m + m % 2 ≤ length s = omega arith in
          let k : value_of (m % 2) (drop (4 + m) s) ≡ 0 = rw g in
          search rules

      module _ (g : m % 2 ≡ 0 → ⊥) where
        odd : m % 2 ≡ 1
        odd = omega arith

        pad : value_of (m % 2) (drop (4 + m) s) ≡ get_or s (4 + m) 0
        unfolding value_of
        pad = rw odd (omega (arith, byte_here s (4 + m)))

        pub inner_cut : length s ≤ 4 + m → refused 1 ≡ verdict (message_rules s m)
        inner_cut f = let l : length s < 4 + m + m % 2 = omega (arith, odd) in search rules

        module _ (f : 4 + m < length s) where
          whole : 4 + m + m % 2 ≤ length s
          whole = omega (arith, odd)

          pub inner_form : (get_or s (4 + m) 0 ≡ 0 → ⊥) → refused 5 ≡ verdict (message_rules s m)
          inner_form n = let k : value_of (m % 2) (drop (4 + m) s) ≡ 0 → ⊥ = λ e. n (sym pad ∙ e) in search (rules, whole)

          pub inner_kept : get_or s (4 + m) 0 ≡ 0 → done tt ≡ verdict (message_rules s m)
          inner_kept z = let k : value_of (m % 2) (drop (4 + m) s) ≡ 0 = pad ∙ z in search (rules, whole)

    module _ (r : Result (Unit {0}) Refusal) (is : paper r ≡ verdict (message_rules s m)) where
      pub behind_inner : (e : Refusal) → r ≡ Err e → refused (number e) ≡ send_behind s m
      unfolding send_behind
      behind_inner = kept_stops _ _ r is

      module _ (h : r ≡ (Ok tt)) (q : Result ℕ Refusal) (of : paper q ≡ padded_route_at s (4 + m + m % 2)) where
        pub behind_route : (e : Refusal) → q ≡ Err e → refused (number e) ≡ send_behind s m
        unfolding send_behind
        behind_route e f = kept_goes _ _ r is _ h (then_stops _ _ (number e) (sym of ∙ ap paper f))

        pub behind_found : (len a b : ℕ) → q ≡ Ok len → a ≡ get_or s 0 0 → b ≡ get_or s 1 0
            → done (sent (record { priority_ticks = a; timeout_ticks = b }) 4 m (4 + m + m % 2 + 2) len) ≡ send_behind s m
        unfolding send_behind
        behind_found len a b f e g = rw (e, g) (kept_goes _ _ r is _ h (then_goes _ _ len _ (sym of ∙ ap paper f) refl))

  module _ (r : Result (Unit {0}) Refusal) (is : paper r ≡ verdict (first_rules s)) where
    pub send_first : (e : Refusal) → r ≡ Err e → refused (number e) ≡ read_send s
    unfolding read_send
    send_first = kept_stops _ _ r is

    pub send_short : r ≡ (Ok tt) → length s < 4 → refused 1 ≡ read_send s
    unfolding read_send
    send_short h f = kept_goes _ _ r is _ h (search rules)

    pub send_found : (m : ℕ) (z : Answer Sent) → r ≡ (Ok tt) → 4 ≤ length s → m ≡ value_of 2 (drop 2 s) → z ≡ send_behind s m → z ≡ read_send s
    unfolding read_send
    send_found m z h f e g = let k : z ≡ send_behind s (value_of 2 (drop 2 s)) = g ∙ ap (send_behind s) e in kept_goes _ _ r is z h (search rules)

pub ruleset send_laws = (inner_short, inner_even, inner_cut, inner_form, inner_kept, behind_inner, behind_route, behind_found, send_first, send_short, send_found)
