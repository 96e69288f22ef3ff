-- Parameter words, once over the size of the form, and the class-and-trigger byte: what is written reads back, what is read writes back.
-- Assumes nothing.
use Prim.Native.Nat.{ℕ, ◌+◌, ◌*◌, ◌/◌, ◌%◌, ◌^◌, ◌≤◌, ◌<◌}
use mathlib.Core.Path.{◌≡◌, refl, ap, ◌∙◌}
use mathlib.Core.Bool.{Bool, true, false}
use native.Mathlib.Nat.{div-div-eq-div-mul}
use native.Mathlib.Omega.{arith}
use lib.Dec.{eqb}
use Rattle.wire.specs.Answers.{done, KeepsAll}
use Rattle.wire.proofs.Rules.{done_same, all_keep, all_were}
use Rattle.connection_words.specs.Codes.{bit, variable_number, priority_number, type_number, direction_number, trigger_number, class_number, variable_of, priority_of, type_of, direction_of, trigger_of, class_of}
use Rattle.connection.specs.Limits.{size_limit}
use Rattle.connection.specs.Defaults.{default_parameters, default_options}
use Rattle.connection_words.specs.Fields.{unit, flags_of, word_of, parameters_of, word_rules, read_parameters, class_trigger, Transport, transport, transport_rules, read_transport}
use Rattle.connection_words.specs.Requests.{parameter_width}
use Rattle.connection.specs.declared.ConnectionParameters.{ConnectionParameters}
use Rattle.connection.specs.declared.OpenOptions.{OpenOptions}
use Rattle.connection_words.proofs.FieldLaws.{bit_code, variable_code, priority_code, type_code, direction_code, trigger_code, class_code_lem, flags_most}

-- ---- the flags of a parameter word

pub record Flags (p : ConnectionParameters) (f : ℕ) : Type 0 where
  pub reserved : f / 8 % 2 ≡ 0
  pub kind : f / 16 % 4 ≤ 2
  pub parts : (size : ℕ) → size ≡ p.connection_size → parameters_of size f ≡ p

flags_back : (p : ConnectionParameters) → Flags p (flags_of p)
unfolding flags_of parameters_of
flags_back p =
    let v : ℕ = variable_number p.variable_length in
    let q : ℕ = priority_number p.priority in
    let t : ℕ = type_number p.connection_type in
    let o : ℕ = bit p.redundant_owner in
    let a : v ≤ 1 = variable_code.most p.variable_length in
    let b : q ≤ 3 = priority_code.most p.priority in
    let c : t ≤ 2 = type_code.most p.connection_type in
    let d : o ≤ 1 = bit_code.most p.redundant_owner in
    let e : (v + 2 * q + 16 * t + 64 * o) % 2 ≡ v = omega arith in
    let i : (v + 2 * q + 16 * t + 64 * o) / 2 ≡ q + 8 * t + 32 * o = omega arith in
    let j : (v + 2 * q + 16 * t + 64 * o) / 8 ≡ 2 * t + 8 * o = omega arith in
    let k : (v + 2 * q + 16 * t + 64 * o) / 16 ≡ t + 4 * o = omega arith in
    let l : (v + 2 * q + 16 * t + 64 * o) / 64 ≡ o = omega arith in
    let f : (v + 2 * q + 16 * t + 64 * o) / 2 % 4 ≡ q = rw i (omega arith) in
    let g : (v + 2 * q + 16 * t + 64 * o) / 16 % 4 ≡ t = rw k (omega arith) in
    let h : (v + 2 * q + 16 * t + 64 * o) / 64 % 2 ≡ o = rw l (omega arith) in
    record {
      reserved = rw j (omega arith);
      kind = rw g c;
      parts = λ size is.
          rw (e, f, g, h, variable_code.back p.variable_length, priority_code.back p.priority, type_code.back p.connection_type, bit_code.back p.redundant_owner, is);
    }

flags_again : (size f : ℕ) → f ≤ 127 → f / 8 % 2 ≡ 0 → f / 16 % 4 ≤ 2 → flags_of (parameters_of size f) ≡ f
unfolding flags_of parameters_of
flags_again size f h r k =
    let a : variable_number (variable_of (f % 2)) ≡ f % 2 = variable_code.again (f % 2) (omega arith) in
    let b : priority_number (priority_of (f / 2 % 4)) ≡ f / 2 % 4 = priority_code.again (f / 2 % 4) (omega arith) in
    let c : type_number (type_of (f / 16 % 4)) ≡ f / 16 % 4 = type_code.again (f / 16 % 4) k in
    let d : bit (eqb (f / 64 % 2) 1) ≡ f / 64 % 2 = bit_code.again (f / 64 % 2) (omega arith) in
    let i : f / 2 / 4 ≡ f / 8 = div-div-eq-div-mul f 2 4 in
    let j : f / 8 / 2 ≡ f / 16 = div-div-eq-div-mul f 8 2 in
    let l : f / 16 / 4 ≡ f / 64 = div-div-eq-div-mul f 16 4 in
    let m : f ≡ 2 * (f / 2) + f % 2 = omega arith in
    let n : f / 2 ≡ 4 * (f / 8) + f / 2 % 4 = rw (← i) (omega arith) in
    let o : f / 8 ≡ 2 * (f / 16) = rw (← j) (omega arith) in
    let p : f / 16 ≡ 4 * (f / 64) + f / 16 % 4 = rw (← l) (omega arith) in
    let q : f / 64 % 2 ≡ f / 64 = omega arith in
    rw (a, b, c, d) (sum f (f % 2) (f / 2) (f / 2 % 4) (f / 8) (f / 16) (f / 16 % 4) (f / 64) (f / 64 % 2) m n o p q)
  where
    sum : (f v a q b c t d o : ℕ) → f ≡ 2 * a + v → a ≡ 4 * b + q → b ≡ 2 * c → c ≡ 4 * d + t → o ≡ d → v + 2 * q + 16 * t + 64 * o ≡ f
    sum f v a q b c t d o i j k l m = omega arith

-- ---- the word

pub word_low : (large : Bool) (size f : ℕ) → size ≤ size_limit large → (size + unit large * f) % unit large ≡ size
word_low false size f h = omega arith
word_low true size f h = omega arith

pub word_high : (large : Bool) (size f : ℕ) → size ≤ size_limit large → (size + unit large * f) / unit large ≡ f
word_high false size f h = omega arith
word_high true size f h = omega arith

word_whole : (large : Bool) (w : ℕ) → w % unit large + unit large * (w / unit large) ≡ w
word_whole false w = omega arith
word_whole true w = omega arith

-- a word that was written is one that its bytes hold
pub word_holds : (large : Bool) (p : ConnectionParameters) → p.connection_size ≤ size_limit large → word_of large p < 256 ^ parameter_width large
unfolding word_of
word_holds false p h = omega (arith, flags_most p)
word_holds true p h = omega (arith, flags_most p)

-- read of written
pub parameters_read_of_written : (large : Bool) (p : ConnectionParameters) → p.connection_size ≤ size_limit large → read_parameters large (word_of large p) ≡ done p
unfolding read_parameters word_of
parameters_read_of_written large p h =
    let w : ℕ = p.connection_size + unit large * flags_of p in
    let a : w % unit large ≡ p.connection_size = word_low large p.connection_size (flags_of p) h in
    let b : w / unit large ≡ flags_of p = word_high large p.connection_size (flags_of p) h in
    let g : Flags p (flags_of p) = flags_back p in
    all_keep (word_rules large w) (done (parameters_of (w % unit large) (w / unit large)))
    (rw a h, (rw b (omega (arith, flags_most p)), (rw b g.reserved, (rw b g.kind, tt))))
    ∙ rw (a, b) (ap done (g.parts p.connection_size refl))

-- a word that was read kept each rule, and its parts are what was read
pub parameters_were : (large : Bool) (w : ℕ) (p : ConnectionParameters) → read_parameters large w ≡ done p
    → KeepsAll (word_rules large w) × (parameters_of (w % unit large) (w / unit large) ≡ p)
unfolding read_parameters
parameters_were large w p h =
    let u = all_were _ _ p h in
    (u.0, done_same u.1)

-- written of read
pub record WordWas (large : Bool) (w : ℕ) (p : ConnectionParameters) : Type 0 where
  pub word : word_of large p ≡ w
  pub size : p.connection_size ≤ size_limit large

pub parameters_written_of_read : (large : Bool) (w : ℕ) (p : ConnectionParameters) → read_parameters large w ≡ done p → WordWas large w p
unfolding word_of parameters_of
parameters_written_of_read large w p h =
    let u = parameters_were large w p h in
    rw (← u.1) (was u.0.0 u.0.1.0 u.0.1.1.0 u.0.1.1.1.0)
  where
    was : w % unit large ≤ size_limit large → w / unit large ≤ 127 → w / unit large / 8 % 2 ≡ 0 → w / unit large / 16 % 4 ≤ 2
        → WordWas large w (parameters_of (w % unit large) (w / unit large))
    was a b c d =
        record {
          word = ap (λ (k : ℕ). w % unit large + unit large * k) (flags_again (w % unit large) (w / unit large) b c d) ∙ word_whole large w;
          size = a;
        }

-- ---- class and trigger

module _ (d t c : ℕ) (a : d ≤ 1) (b : t ≤ 2) (e : c ≤ 6) where
  byte_class : (128 * d + 16 * t + c) % 16 ≡ c
  byte_class = omega arith

  byte_trigger : (128 * d + 16 * t + c) / 16 % 8 ≡ t
  byte_trigger = omega arith

  byte_direction : (128 * d + 16 * t + c) / 128 ≡ d
  byte_direction = omega arith

pub trigger_holds : (o : OpenOptions) → class_trigger o < 256
unfolding class_trigger
trigger_holds o =
    omega (arith, direction_code.most o.transport_direction, trigger_code.most o.transport_trigger, class_code_lem.most o.transport_class)

-- read of written
pub transport_read_of_written : (o : OpenOptions) → read_transport (class_trigger o) ≡ done (transport o.transport_direction o.transport_trigger o.transport_class)
unfolding read_transport class_trigger
transport_read_of_written o =
    let d : ℕ = direction_number o.transport_direction in
    let t : ℕ = trigger_number o.transport_trigger in
    let c : ℕ = class_number o.transport_class in
    let i : d ≤ 1 = direction_code.most o.transport_direction in
    let j : t ≤ 2 = trigger_code.most o.transport_trigger in
    let k : c ≤ 6 = class_code_lem.most o.transport_class in
    let b : ℕ = 128 * d + 16 * t + c in
    let x : b / 16 % 8 ≡ t = byte_trigger d t c i j k in
    let y : b % 16 ≡ c = byte_class d t c i j k in
    let z : b / 128 ≡ d = byte_direction d t c i j k in
    all_keep (transport_rules b) (done (transport (direction_of (b / 128)) (trigger_of (b / 16 % 8)) (class_of (b % 16)))) (rw x j, (rw y k, tt))
    ∙ rw (x, y, z, direction_code.back o.transport_direction, trigger_code.back o.transport_trigger, class_code_lem.back o.transport_class)

-- a byte that was read kept each rule, and its parts are what was read
pub transport_were : (b : ℕ) (t : Transport) → read_transport b ≡ done t
    → KeepsAll (transport_rules b) × (transport (direction_of (b / 128)) (trigger_of (b / 16 % 8)) (class_of (b % 16)) ≡ t)
unfolding read_transport
transport_were b t h =
    let u = all_were _ _ t h in
    (u.0, done_same u.1)

-- written of read
pub transport_written_of_read : (o : OpenOptions) (b : ℕ) → b < 256 → read_transport b ≡ done (transport o.transport_direction o.transport_trigger o.transport_class)
    → class_trigger o ≡ b
unfolding class_trigger
transport_written_of_read o b l h =
    let u = transport_were b (transport o.transport_direction o.transport_trigger o.transport_class) h in
    let e : transport (direction_of (b / 128)) (trigger_of (b / 16 % 8)) (class_of (b % 16)) ≡ transport o.transport_direction o.transport_trigger o.transport_class = u.1 in
    let x : direction_of (b / 128) ≡ o.transport_direction = cc in
    let y : trigger_of (b / 16 % 8) ≡ o.transport_trigger = cc in
    let z : class_of (b % 16) ≡ o.transport_class = cc in
    rw (← x, ← y, ← z, direction_code.again (b / 128) (omega arith), trigger_code.again (b / 16 % 8) u.0.0, class_code_lem.again (b % 16) u.0.1.0) (omega arith)

-- ---- document 01's card of the default Forward Open

pub card_small : word_of false default_parameters ≡ 0x45F8
unfolding word_of flags_of
card_small = refl

pub card_large : word_of true default_parameters ≡ 0x440001F8
unfolding word_of flags_of
card_large = refl

pub card_class : (serial : ℕ) → class_trigger (default_options serial) ≡ 0xA3
unfolding class_trigger
card_class serial = refl
