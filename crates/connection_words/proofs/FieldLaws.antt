-- Each end of the code for fields of several bits, as a law with plain conditions. Assumes nothing.
use Prim.Native.Nat.{ℕ, zero, suc, ◌+◌, ◌*◌, ◌/◌, ◌%◌, ◌^◌, ◌≤◌, ◌<◌}
use mathlib.Core.Path.{◌≡◌, refl, sym, ap, ◌∙◌}
use mathlib.Core.Bool.{Bool, true, false}
use mathlib.Core.Logic.{⊎_elim}
use native.Mathlib.Omega.{arith}
use lib.Dec.{eqb}
use mir.Val.{Fits}
use mir.Syntax.{w32}
use Rattle.std.specs.Prelude.{Result, Ok, Err, IsOk}
use Rattle.wire.specs.Refusals.{number}
use Rattle.wire.specs.declared.Refusal.{Refusal}
use Rattle.wire.specs.Answers.{Answer, done, refused, paper}
use Rattle.wire.proofs.Rules.{rules}
use Rattle.wire.proofs.Numbers.{below_or}
use Rattle.connection.specs.Codes.{last_type, last_priority, last_trigger, last_class, bit, variable_number, priority_number, type_number, direction_number, trigger_number, class_number, variable_of, priority_of, type_of, direction_of, trigger_of, class_of, coded}
use Rattle.connection.proofs.CodeLaws.{coded_was, coded_over}
use Rattle.connection.specs.Limits.{size_limit}
use Rattle.connection_words.specs.Fields.{unit, flags_of, word_of, parameter_word, parameters_of, read_parameters, transport_byte, class_trigger, transport, read_transport}
use Rattle.connection.specs.declared.ConnectionType.{ConnectionType}
use Rattle.connection.specs.declared.ConnectionType.TheVariants.{Null, Multicast, P2P}
use Rattle.connection.specs.declared.Priority.{Priority}
use Rattle.connection.specs.declared.Priority.TheVariants.{Low, High, Scheduled, Urgent}
use Rattle.connection.specs.declared.Direction.{Direction}
use Rattle.connection.specs.declared.Direction.TheVariants.{Client, Server}
use Rattle.connection.specs.declared.TriggerType.{TriggerType}
use Rattle.connection.specs.declared.TriggerType.TheVariants.{Cyclic, ChangeOfState, Application}
use Rattle.connection.specs.declared.TransportClass.{TransportClass}
use Rattle.connection.specs.declared.TransportClass.TheVariants.{Class0, Class1, Class2, Class3, Class4, Class5, Class6}
use Rattle.connection.specs.declared.VariableLength.{VariableLength}
use Rattle.connection.specs.declared.VariableLength.TheVariants.{Fixed, Variable}
use Rattle.connection.specs.declared.ConnectionParameters.{ConnectionParameters}
use Rattle.connection.specs.declared.OpenOptions.{OpenOptions}

-- ---- numbers that stand for values: each value from its number, how large the numbers are, and each number from its value

pub record Coded {A : Type 0} (number : A → ℕ) (of : ℕ → A) (last : ℕ) : Type 0 where
  pub back : (a : A) → of (number a) ≡ a
  pub most : (a : A) → number a ≤ last
  pub again : (n : ℕ) → n ≤ last → number (of n) ≡ n

-- what is the same at each number up to the last
abbrev Same : (ℕ → ℕ) → ℕ → Type 0
Same f zero = f 0 ≡ 0
Same f (suc k) = (f (suc k) ≡ suc k) × Same f k

same : (f : ℕ → ℕ) (k : ℕ) → Same f k → (n : ℕ) → n ≤ k → f n ≡ n
same f zero s n l = let e : n ≡ 0 = omega arith in rw e s
same f (suc k) s n l = ⊎_elim (λ (h : n < suc k). same f k s.1 n (omega arith)) (λ (h : suc k ≤ n). let e : n ≡ suc k = omega arith in rw e s.0) (below_or n (suc k))

pub bit_code : Coded bit (λ n. eqb n 1) 1
bit_code = record {
  back = elim [ false ↦ refl | true ↦ refl ];
  most = elim [ false ↦ omega arith | true ↦ omega arith ];
  again = same _ 1 (search);
}

pub variable_code : Coded variable_number variable_of 1
variable_code = record {
  back = elim [ Fixed ↦ refl | Variable ↦ refl ];
  most = elim [ Fixed ↦ omega arith | Variable ↦ omega arith ];
  again = same _ 1 (search);
}

pub priority_code : Coded priority_number priority_of 3
priority_code = record {
  back = elim [ Low ↦ refl | High ↦ refl | Scheduled ↦ refl | Urgent ↦ refl ];
  most = elim [ Low ↦ omega arith | High ↦ omega arith | Scheduled ↦ omega arith | Urgent ↦ omega arith ];
  again = same _ 3 (search);
}

pub type_code : Coded type_number type_of 2
type_code = record {
  back = elim [ Null ↦ refl | Multicast ↦ refl | P2P ↦ refl ];
  most = elim [ Null ↦ omega arith | Multicast ↦ omega arith | P2P ↦ omega arith ];
  again = same _ 2 (search);
}

pub direction_code : Coded direction_number direction_of 1
direction_code = record {
  back = elim [ Client ↦ refl | Server ↦ refl ];
  most = elim [ Client ↦ omega arith | Server ↦ omega arith ];
  again = same _ 1 (search);
}

pub trigger_code : Coded trigger_number trigger_of 2
trigger_code = record {
  back = elim [ Cyclic ↦ refl | ChangeOfState ↦ refl | Application ↦ refl ];
  most = elim [ Cyclic ↦ omega arith | ChangeOfState ↦ omega arith | Application ↦ omega arith ];
  again = same _ 2 (search);
}

pub class_code_lem : Coded class_number class_of 6
class_code_lem = record {
  back = elim [ Class0 ↦ refl | Class1 ↦ refl | Class2 ↦ refl | Class3 ↦ refl | Class4 ↦ refl | Class5 ↦ refl | Class6 ↦ refl ];
  most = elim [ Class0 ↦ omega arith | Class1 ↦ omega arith | Class2 ↦ omega arith | Class3 ↦ omega arith | Class4 ↦ omega arith | Class5 ↦ omega arith | Class6 ↦ omega arith ];
  again = same _ 6 (search);
}

-- ---- the flags of a parameter word
module _ (p : ConnectionParameters) (v q t o : ℕ)
    (a : v ≡ variable_number p.variable_length) (b : q ≡ priority_number p.priority)
    (c : t ≡ type_number p.connection_type) (d : o ≡ bit p.redundant_owner) where
  pub flags_are : v + 2 * q + 16 * t + 64 * o ≡ flags_of p
  unfolding flags_of
  flags_are = rw (a, b, c, d)

  pub flags_few : v + 2 * q + 16 * t + 64 * o < 128
  flags_few =
      omega
      (arith, a, b, c, d, variable_code.most p.variable_length, priority_code.most p.priority, type_code.most p.connection_type, bit_code.most p.redundant_owner)

pub flags_most : (p : ConnectionParameters) → flags_of p < 128
unfolding flags_of
flags_most p = flags_few p (variable_number p.variable_length) (priority_number p.priority) (type_number p.connection_type) (bit p.redundant_owner) refl refl refl refl

-- ---- the word
module _ (large : Bool) (p : ConnectionParameters) (l : ℕ) (is : l ≡ size_limit large) where
  pub word_over : l < p.connection_size → refused 3 ≡ parameter_word large p
  unfolding parameter_word
  word_over h = let g : size_limit large < p.connection_size = omega arith in search rules

  module _ (u f : ℕ) (a : u ≡ unit large) (b : f ≡ flags_of p) where
    pub word_is : p.connection_size ≤ l → done (p.connection_size + u * f) ≡ parameter_word large p
    unfolding parameter_word word_of
    word_is h =
        let g : p.connection_size ≤ size_limit large = omega arith in
        let e : done (p.connection_size + u * f) ≡ done (p.connection_size + unit large * flags_of p) = rw (a, b) in
        search rules

    pub word_scaled : f < 128 → Fits w32 (u * f)
    word_scaled h = record { fits = scaled large a }
      where
        scaled : (large : Bool) → u ≡ unit large → u * f < 2 ^ 32
        scaled false e = rw e (omega arith)
        scaled true e = rw e (omega arith)

    pub word_fits : p.connection_size ≤ l → f < 128 → Fits w32 (p.connection_size + u * f)
    word_fits h g = record { fits = sum large is a }
      where
        sum : (large : Bool) → l ≡ size_limit large → u ≡ unit large → p.connection_size + u * f < 2 ^ 32
        sum false e k = rw k (omega arith)
        sum true e k = rw k (omega arith)

-- ---- the word's parts
module _ (large : Bool) (w l u : ℕ) (is : l ≡ size_limit large) (of : u ≡ unit large) where
  pub read_size : l < w % u → refused 5 ≡ read_parameters large w
  unfolding read_parameters
  read_size h = let g : size_limit large < w % unit large = rw (← is, ← of) h in search rules

  module _ (small : w % u ≤ l) where
    size_kept : w % unit large ≤ size_limit large
    size_kept = rw (← is, ← of) small

    pub read_past : 127 < w / u → refused 5 ≡ read_parameters large w
    unfolding read_parameters
    read_past h = let g : 127 < w / unit large = rw (← of) h in search (rules, size_kept)

    module _ (few : w / u ≤ 127) where
      flags_kept : w / unit large ≤ 127
      flags_kept = rw (← of) few

      pub read_reserved : (w / u / 8 % 2 ≡ 0 → ⊥) → refused 5 ≡ read_parameters large w
      unfolding read_parameters
      read_reserved h = let g : w / unit large / 8 % 2 ≡ 0 → ⊥ = rw (← of) h in search (rules, size_kept, flags_kept)

      module _ (none : w / u / 8 % 2 ≡ 0) where
        none_kept : w / unit large / 8 % 2 ≡ 0
        none_kept = rw (← of) none

        pub read_type : (k : ℕ) → refused k ≡ coded last_type type_of (w / u / 16 % 4) → refused k ≡ read_parameters large w
        unfolding read_parameters
        read_type k h =
            let o = coded_over last_type type_of (w / u / 16 % 4) k (sym h) in
            let g : 2 < w / unit large / 16 % 4 = rw (← of) o.0 in
            let d : refused 4 ≡ read_parameters large w = search (rules, size_kept, flags_kept, none_kept) in
            rw (o.1) d

        pub read_parts : (k : ConnectionType) (y : Priority) (v : VariableLength)
            → done k ≡ coded last_type type_of (w / u / 16 % 4) → done y ≡ coded last_priority priority_of (w / u / 2 % 4) → v ≡ variable_of (bit (eqb (w / u % 2) 1))
            → done (record { redundant_owner = eqb (w / u / 64 % 2) 1; connection_type = k; variable_length = v; priority = y; connection_size = w % u }) ≡ read_parameters large w
        unfolding read_parameters parameters_of
        read_parts k y v a b c =
            let i = coded_was last_type type_of (w / u / 16 % 4) k (sym a) in
            let j = coded_was last_priority priority_of (w / u / 2 % 4) y (sym b) in
            let g : w / unit large / 16 % 4 ≤ 2 = rw (← of) i.0 in
            let d : done (record { redundant_owner = eqb (w / u / 64 % 2) 1; connection_type = k; variable_length = v; priority = y; connection_size = w % u }) ≡ done (parameters_of (w % unit large) (w / unit large)) =
            rw (← of, ← i.1, ← j.1, c, bit_code.again (w / u % 2) (omega arith)) in
            search (rules, size_kept, flags_kept, none_kept)

-- an answer of the code, on paper
pub told : {A : Type 0} (t : Result A Refusal) (k : A) (x : Answer A) → t ≡ Ok k → paper t ≡ x → done k ≡ x
told t k x h is = sym (ap paper h) ∙ is

-- two bits are none past the last
pub priority_named : (q : Result Priority Refusal) (n : ℕ) → paper q ≡ coded last_priority priority_of n → n ≤ 3 → IsOk q
priority_named (Ok p) n h l = refl
priority_named (Err e) n h l =
    let k = coded_over last_priority priority_of n (number e) (sym h) in
    absurd (omega (arith, k.0))

-- ---- class and trigger
pub trigger_is : (o : OpenOptions) → transport_byte o.transport_direction o.transport_trigger o.transport_class ≡ class_trigger o
unfolding class_trigger
trigger_is o = refl

module _ (x : ℕ) where
  pub transport_trigger_lem : (k : ℕ) → refused k ≡ coded last_trigger trigger_of (x / 16 % 8) → refused k ≡ read_transport x
  unfolding read_transport
  transport_trigger_lem k h =
      let o = coded_over last_trigger trigger_of (x / 16 % 8) k (sym h) in
      let g : 2 < x / 16 % 8 = o.0 in
      let d : refused 4 ≡ read_transport x = search rules in
      rw (o.1) d

  module _ (i : TriggerType) (is : done i ≡ coded last_trigger trigger_of (x / 16 % 8)) where
    kept : (x / 16 % 8 ≤ 2) × (trigger_of (x / 16 % 8) ≡ i)
    kept = coded_was last_trigger trigger_of (x / 16 % 8) i (sym is)

    pub transport_class_lem : (k : ℕ) → refused k ≡ coded last_class class_of (x % 16) → refused k ≡ read_transport x
    unfolding read_transport
    transport_class_lem k h =
        let o = coded_over last_class class_of (x % 16) k (sym h) in
        let g : 6 < x % 16 = o.0 in
        let f : x / 16 % 8 ≤ 2 = kept.0 in
        let d : refused 4 ≡ read_transport x = search rules in
        rw (o.1) d

    pub transport_is : x < 256 → (j : TransportClass) → done j ≡ coded last_class class_of (x % 16) → (d : Direction) → d ≡ direction_of (bit (eqb (x / 128) 1)) → done (transport d i j) ≡ read_transport x
    unfolding read_transport
    transport_is l j h d a =
        let k = coded_was last_class class_of (x % 16) j (sym h) in
        let g : x % 16 ≤ 6 = k.0 in
        let f : x / 16 % 8 ≤ 2 = kept.0 in
        let b : bit (eqb (x / 128) 1) ≡ x / 128 = bit_code.again (x / 128) (omega arith) in
        let y : done (transport d i j) ≡ done (transport (direction_of (x / 128)) (trigger_of (x / 16 % 8)) (class_of (x % 16))) = rw (a, b, kept.1, k.1) in
        search rules

pub ruleset field_laws =
    (flags_are, flags_few, word_over, word_is, word_scaled, word_fits, read_size, read_past, read_reserved, read_type, priority_named, told, read_parts, trigger_is, transport_trigger_lem, transport_class_lem, transport_is)
