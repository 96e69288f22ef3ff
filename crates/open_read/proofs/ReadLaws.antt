-- Each end of the reader of Forward Open, as a law with plain conditions. Assumes nothing.
use Prim.Native.Nat.{ℕ, ◌+◌, ◌*◌, ◌≤◌, ◌<◌}
use mathlib.Core.Path.{◌≡◌, sym, ap, ◌∙◌}
use mathlib.Core.List.{List}
use mathlib.Core.Bool.{Bool, true, false}
use native.Mathlib.Omega.{arith}
use lib.ListN.{length, get_or, drop}
use lib.Seq.{get_or-drop, drop-drop}
use Rattle.std.specs.Prelude.{Result, Ok, Err}
use Rattle.wire.specs.Numbers.{value_of}
use Rattle.wire.specs.Refusals.{number}
use Rattle.wire.specs.Answers.{Answer, done, refused, paper}
use Rattle.wire.specs.declared.Refusal.{Refusal}
use Rattle.wire.proofs.Rules.{rules}
use Rattle.connection_words.specs.Fields.{Transport, transport, read_parameters, read_transport}
use Rattle.connection_words.specs.Requests.{parameter_width}
use Rattle.connection.specs.declared.ConnectionParameters.{ConnectionParameters}
use Rattle.connection.specs.declared.Direction.{Direction}
use Rattle.connection.specs.declared.TriggerType.{TriggerType}
use Rattle.connection.specs.declared.TransportClass.{TransportClass}
use Rattle.request_first.specs.Firsts.{first_rules, verdict}
use Rattle.request_first.proofs.FirstLaws.{kept_stops, kept_goes}
use Rattle.open_read.specs.Reads.{Opened, open_rules, parameters_at, transport_at, options_at, open_behind, read_open}

-- ---- Forward Open
module _ (s : List ℕ) where
  pub word_large : (large : Bool) (at v : ℕ) → large ≡ true → v ≡ value_of 4 (drop at s) → v ≡ value_of (parameter_width large) (drop at s)
  word_large large at v h e = rw h e

  pub word_small : (large : Bool) (at v : ℕ) → large ≡ false → v ≡ value_of 2 (drop at s) → v ≡ value_of (parameter_width large) (drop at s)
  word_small large at v h e = rw h e

  module _ (large : Bool) (at k : ℕ) (wide : k ≡ parameter_width large) where
    pub parameters_short : length s < at + k → refused 1 ≡ parameters_at large s at
    unfolding parameters_at
    parameters_short h = let g : length s < at + parameter_width large = rw (← wide) h in search rules

    pub parameters_are : (v : ℕ) (z : Answer ConnectionParameters) → at + k ≤ length s → v ≡ value_of (parameter_width large) (drop at s)
        → z ≡ read_parameters large v → z ≡ parameters_at large s at
    unfolding parameters_at
    parameters_are v z h e f =
        let g : at + parameter_width large ≤ length s = rw (← wide) h in
        let d : z ≡ read_parameters large (value_of (parameter_width large) (drop at s)) = f ∙ ap (read_parameters large) e in
        search rules

  pub transport_short : (at : ℕ) → length s < at + 1 → refused 1 ≡ transport_at s at
  unfolding transport_at
  transport_short at h = search rules

  pub transport_is : (at b : ℕ) (z : Answer Transport) → at + 1 ≤ length s → b ≡ get_or s at 0 → z ≡ read_transport b → z ≡ transport_at s at
  unfolding transport_at
  transport_is at b z h e f = let g : z ≡ read_transport (get_or s at 0) = f ∙ ap read_transport e in search rules

  -- three bytes as a number
  three : (a b : ℕ) → a ≡ value_of 2 (drop 19 s) → b ≡ get_or s 21 0 → a + 65536 * b ≡ value_of 3 (drop 19 s)
  unfolding value_of
  three a b p q =
      let d : drop 1 (drop 1 (drop 19 s)) ≡ drop 21 s = drop-drop 1 1 (drop 19 s) ∙ drop-drop 2 19 s in
      let g : get_or (drop 1 (drop 1 (drop 19 s))) 0 0 ≡ get_or s 21 0 = rw d (get_or-drop 21 s 0 0) in
      omega arith

  pub head_short : length s < 22 → refused 1 ≡ verdict (open_rules s)
  head_short h = search rules

  module _ (h : 22 ≤ length s) (a b : ℕ) (p : a ≡ value_of 2 (drop 19 s)) (q : b ≡ get_or s 21 0) where
    pub head_form : (a + 65536 * b ≡ 0 → ⊥) → refused 5 ≡ verdict (open_rules s)
    head_form f = let k : value_of 3 (drop 19 s) ≡ 0 → ⊥ = λ e. f (three a b p q ∙ e) in search rules

    pub head_kept : a + 65536 * b ≡ 0 → done tt ≡ verdict (open_rules s)
    head_kept f = let k : value_of 3 (drop 19 s) ≡ 0 = sym (three a b p q) ∙ f in search rules

  pub options_are : (large : Bool) (x y : ConnectionParameters) (d : Direction) (t : TriggerType) (k : TransportClass) (w a b c e f g h i j l : ℕ)
      → w ≡ parameter_width large → a ≡ value_of 4 (drop 2 s) → b ≡ value_of 4 (drop 6 s) → c ≡ get_or s 0 0 → e ≡ get_or s 1 0 → f ≡ value_of 2 (drop 10 s)
      → g ≡ value_of 2 (drop 12 s) → h ≡ value_of 4 (drop 14 s) → i ≡ value_of 4 (drop 22 s) → j ≡ value_of 4 (drop (26 + w) s) → l ≡ get_or s 18 0
      → record {
        o_t_connection_id = a;
        t_o_connection_id = b;
        priority_tick_time = c;
        timeout_ticks = e;
        connection_serial_number = f;
        vendor_id = g;
        originator_serial_number = h;
        o_t_rpi = i;
        t_o_rpi = j;
        timeout_multiplier = l;
        o_t_params = x;
        t_o_params = y;
        transport_direction = d;
        transport_class = k;
        transport_trigger = t;
        large_open = large;
      } ≡ options_at large s x y (transport d t k)
  options_are large x y d t k w a b c e f g h i j l o p q r u v m n z a1 a2 = rw (p, q, r, u, v, m, n, z, a1, a2, o)

  module _ (large : Bool) where
    module _ (r : Result (Unit {0}) Refusal) (is : paper r ≡ verdict (first_rules s)) where
      pub open_first : (e : Refusal) → r ≡ Err e → refused (number e) ≡ read_open large s
      unfolding read_open
      open_first = kept_stops _ _ r is

      module _ (h : r ≡ (Ok tt)) (q : Result (Unit {0}) Refusal) (of : paper q ≡ verdict (open_rules s)) where
        pub open_head_lem : (e : Refusal) → q ≡ Err e → refused (number e) ≡ read_open large s
        unfolding read_open
        open_head_lem e f = kept_goes _ _ r is _ h (kept_stops _ _ q of e f)

        pub open_found : (z : Answer Opened) → q ≡ (Ok tt) → z ≡ open_behind large s → z ≡ read_open large s
        unfolding read_open
        open_found z f e = kept_goes _ _ r is z h (kept_goes _ _ q of z f e)

pub ruleset field_laws = (word_large, word_small, parameters_short, parameters_are, transport_short, transport_is, head_short, head_form, head_kept)

pub ruleset open_laws = (open_first, open_head_lem, open_found)
