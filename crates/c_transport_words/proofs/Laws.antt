-- Each end of the functions for C that make and read class and trigger, as a law with plain conditions. Assumes nothing.
use Prim.Native.Nat.{ℕ, ◌+◌, ◌*◌, ◌/◌, ◌%◌, ◌≤◌, ◌<◌}
use mathlib.Core.Path.{◌≡◌, refl, sym, ap, ◌∙◌}
use mathlib.Core.Bool.{Bool}
use mathlib.Core.List.{[], ◌∷◌}
use native.Mathlib.Omega.{arith}
use Rattle.std.specs.Prelude.{Result, Ok, Err}
use Rattle.wire.specs.Refusals.{number}
use Rattle.wire.specs.Answers.{done, refused}
use Rattle.wire.specs.declared.Refusal.{Refusal}
use Rattle.wire.proofs.Rules.{rules}
use Rattle.connection.specs.declared.OpenOptions.{OpenOptions}
use Rattle.connection.specs.declared.Direction.{Direction}
use Rattle.connection.specs.declared.TriggerType.{TriggerType}
use Rattle.connection.specs.declared.TransportClass.{TransportClass}
use Rattle.connection.specs.Codes.{last_trigger, last_class, bit, direction_of, trigger_of, class_of, coded}
use Rattle.connection.proofs.CodeLaws.{coded_was, coded_over}
use Rattle.connection_words.specs.Fields.{class_trigger, transport, read_transport, paper_transport}
use Rattle.connection_words.specs.declared.TransportRead.{TransportRead}
use Rattle.connection_words.proofs.FieldLaws.{bit_code, class_code_lem, direction_code, trigger_code}
use Rattle.connection_words.proofs.Words.{transport_were}
use Rattle.c_answers.specs.Codes.{code}
use Rattle.c_transport_words.specs.Transports.{transport_byte, encoded_transport, transport_numbers}

-- the byte of three is that of every record that has them
pub byte_of_record : (o : OpenOptions) → transport_byte o.transport_direction o.transport_trigger o.transport_class ≡ class_trigger o
unfolding class_trigger
byte_of_record o = refl

module _ (server : Bool) (trigger class : ℕ) where
  pub trigger_over : (k : ℕ) → refused k ≡ coded last_trigger trigger_of trigger → refused k ≡ encoded_transport server trigger class
  unfolding encoded_transport
  trigger_over k h =
      let o = coded_over last_trigger trigger_of trigger k (sym h) in
      let g : 2 < trigger = o.0 in
      let z : refused 4 ≡ encoded_transport server trigger class = search rules in
      rw (o.1) z

  module _ (t : TriggerType) (a : done t ≡ coded last_trigger trigger_of trigger) where
    kept : (trigger ≤ 2) × (trigger_of trigger ≡ t)
    kept = coded_was last_trigger trigger_of trigger t (sym a)

    pub class_over : (k : ℕ) → refused k ≡ coded last_class class_of class → refused k ≡ encoded_transport server trigger class
    unfolding encoded_transport
    class_over k h =
        let o = coded_over last_class class_of class k (sym h) in
        let g : 6 < class = o.0 in
        let f : trigger ≤ 2 = kept.0 in
        let z : refused 4 ≡ encoded_transport server trigger class = search rules in
        rw (o.1) z

    pub byte_coded : (d : Direction) (c : TransportClass) (b : ℕ) → done c ≡ coded last_class class_of class → d ≡ direction_of (bit server) → b ≡ transport_byte d t c
        → done b ≡ encoded_transport server trigger class
    unfolding encoded_transport
    byte_coded d c b h i j =
        let o = coded_was last_class class_of class c (sym h) in
        let g : class ≤ 6 = o.0 in
        let f : trigger ≤ 2 = kept.0 in
        let y : done b ≡ done (transport_byte (direction_of (bit server)) (trigger_of trigger) (class_of class)) = rw (j, i, kept.1, o.1) in
        search rules

-- the same, of the number that C gets, as a sum of those that C gives
module _ (server : Bool) (trigger class : ℕ) (a : trigger ≤ 2) where
  pub byte_made : (d : ℕ) → d ≡ bit server → class ≤ 6 → 128 * d + 16 * trigger + class ≡ code (encoded_transport server trigger class)
  unfolding encoded_transport
  byte_made d i h =
      let y : done (128 * d + 16 * trigger + class) ≡ done (transport_byte (direction_of (bit server)) (trigger_of trigger) (class_of class)) =
      rw (i, direction_code.again (bit server) (bit_code.most server), trigger_code.again trigger a, class_code_lem.again class h) in
      let z : done (128 * d + 16 * trigger + class) ≡ encoded_transport server trigger class = search rules in
      ap code z

pub ruleset transport_laws = (trigger_over, class_over, byte_coded)

pub no_transport : (w : Result TransportRead Refusal) (e : Refusal) → w ≡ Err e → paper_transport w ≡ refused (number e)
no_transport w e h = ap paper_transport h

pub some_transport : (w : Result TransportRead Refusal) (t : TransportRead) → w ≡ Ok t → paper_transport w ≡ done (transport t.direction t.trigger t.class)
some_transport w t h = ap paper_transport h

-- a byte that was read has its numbers as quotients
pub transport_numbers_lem : (b : ℕ) (w : Result TransportRead Refusal) (t : TransportRead)
    → b < 256 → paper_transport w ≡ read_transport b → w ≡ Ok t → (b / 128 ∷ b / 16 % 8 ∷ b % 16 ∷ []) ≡ transport_numbers (transport t.direction t.trigger t.class)
transport_numbers_lem b w t l is h =
    let k = transport_were b (transport t.direction t.trigger t.class) (sym is ∙ ap paper_transport h) in
    let n : (b / 128 ∷ b / 16 % 8 ∷ b % 16 ∷ []) ≡ transport_numbers (transport (direction_of (b / 128)) (trigger_of (b / 16 % 8)) (class_of (b % 16))) =
    rw (direction_code.again (b / 128) (omega arith), trigger_code.again (b / 16 % 8) k.0.0, class_code_lem.again (b % 16) k.0.1.0) in
    n ∙ ap transport_numbers k.1

pub ruleset byte_laws = (no_transport, some_transport)
