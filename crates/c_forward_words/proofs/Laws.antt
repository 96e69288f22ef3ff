-- Each end of the functions for C that make and read connection parameters, as a law with plain conditions. Assumes nothing.
use Prim.Native.Nat.{ℕ, ◌+◌, ◌*◌, ◌/◌, ◌%◌, ◌≤◌, ◌<◌}
use mathlib.Core.Path.{◌≡◌, refl, sym, ap, ◌∙◌}
use mathlib.Core.Bool.{Bool, true, false}
use mathlib.Core.List.{[], ◌∷◌}
use native.Mathlib.Omega.{arith}
use Rattle.std.specs.Prelude.{Result, Ok, Err}
use Rattle.wire.specs.Refusals.{number}
use Rattle.wire.specs.Answers.{Answer, done, refused, paper}
use Rattle.wire.specs.declared.Refusal.{Refusal}
use Rattle.wire.proofs.Rules.{rules}
use Rattle.connection.specs.Codes.{last_type, last_priority, bit, variable_of, priority_of, type_of, coded}
use Rattle.connection.specs.Limits.{size_limit}
use Rattle.connection.specs.declared.ConnectionParameters.{ConnectionParameters}
use Rattle.connection.specs.declared.ConnectionType.{ConnectionType}
use Rattle.connection.specs.declared.Priority.{Priority}
use Rattle.connection.specs.declared.VariableLength.{VariableLength}
use Rattle.connection.proofs.CodeLaws.{coded_was, coded_over}
use Rattle.connection_words.specs.Fields.{unit, flags_of, parameter_word, parameters_of, read_parameters}
use Rattle.connection_words.proofs.FieldLaws.{bit_code, priority_code, type_code, variable_code, word_is}
use Rattle.connection_words.proofs.Words.{parameters_were}
use Rattle.c_answers.specs.Codes.{code}
use Rattle.c_forward_words.specs.Words.{parameters_from, encoded_parameters, parameter_numbers}

-- ---- made
module _ (large owner variable : Bool) (kind level size : ℕ) where
  pub kind_over : (k : ℕ) → refused k ≡ coded last_type type_of kind → refused k ≡ encoded_parameters large owner kind variable level size
  unfolding encoded_parameters
  kind_over k h =
      let o = coded_over last_type type_of kind k (sym h) in
      let g : 2 < kind = o.0 in
      let z : refused 4 ≡ encoded_parameters large owner kind variable level size = search rules in
      rw (o.1) z

  module _ (t : ConnectionType) (a : done t ≡ coded last_type type_of kind) where
    kept : (kind ≤ 2) × (type_of kind ≡ t)
    kept = coded_was last_type type_of kind t (sym a)

    pub level_over : (k : ℕ) → refused k ≡ coded last_priority priority_of level → refused k ≡ encoded_parameters large owner kind variable level size
    unfolding encoded_parameters
    level_over k h =
        let o = coded_over last_priority priority_of level k (sym h) in
        let g : 3 < level = o.0 in
        let f : kind ≤ 2 = kept.0 in
        let z : refused 4 ≡ encoded_parameters large owner kind variable level size = search rules in
        rw (o.1) z

    pub encoded_is : (q : Priority) (v : VariableLength) (z : Answer ℕ) → done q ≡ coded last_priority priority_of level → v ≡ variable_of (bit variable)
        → z ≡ parameter_word large (record { redundant_owner = owner; connection_type = t; variable_length = v; priority = q; connection_size = size })
        → z ≡ encoded_parameters large owner kind variable level size
    unfolding encoded_parameters
    encoded_is q v z b c e =
        let o = coded_was last_priority priority_of level q (sym b) in
        let g : level ≤ 3 = o.0 in
        let f : kind ≤ 2 = kept.0 in
        let y : z ≡ parameter_word large (parameters_from owner kind variable level size) = e ∙ rw (c, kept.1, o.1) in
        search rules

pub ruleset encode_laws = (kind_over, level_over, encoded_is)

-- the same, of the number that C gets, as a sum of those that C gives
module _ (large owner variable : Bool) (kind level size : ℕ) (a : kind ≤ 2) (b : level ≤ 3) where
  named : ConnectionParameters
  named = parameters_from owner kind variable level size

  worded : (x : Answer ℕ) → x ≡ parameter_word large named → code x ≡ code (encoded_parameters large owner kind variable level size)
  unfolding encoded_parameters named
  worded x h = let z : x ≡ encoded_parameters large owner kind variable level size = search rules in ap code z

  flags_named : bit variable + 2 * level + 16 * kind + 64 * bit owner ≡ flags_of named
  unfolding flags_of named
  flags_named = rw (variable_code.again (bit variable) (bit_code.most variable), priority_code.again level b, type_code.again kind a)

  module _ (v o : ℕ) (i : v ≡ bit variable) (j : o ≡ bit owner) where
    made : (u : ℕ) → u ≡ unit large → size ≤ size_limit large → size + u * (v + 2 * level + 16 * kind + 64 * o) ≡ code (encoded_parameters large owner kind variable level size)
    unfolding named
    made u of h =
        let f : ℕ = v + 2 * level + 16 * kind + 64 * o in
        worded (done (size + u * f)) (word_is large named (size_limit large) refl u f of (rw (i, j) flags_named) h)

    pub large_made : large ≡ true → size < 65536
        → size + 33554432 * (v + 2 * level + 16 * kind + 64 * o) ≡ code (encoded_parameters large owner kind variable level size)
    large_made t h = made 33554432 (rw t) (rw t (omega arith))

    pub small_made : large ≡ false → size ≤ 511 → size + 512 * (v + 2 * level + 16 * kind + 64 * o) ≡ code (encoded_parameters large owner kind variable level size)
    small_made t h = made 512 (rw t) (rw t h)

-- ---- read
pub no_parameters : (w : Result ConnectionParameters Refusal) (e : Refusal) → w ≡ Err e → paper w ≡ refused (number e)
no_parameters w e h = ap paper h

pub some_parameters : (w : Result ConnectionParameters Refusal) (p : ConnectionParameters) → w ≡ Ok p → paper w ≡ done p
some_parameters w p h = ap paper h

-- a word that was read has its numbers as quotients
pub parameter_numbers_lem : (large : Bool) (word : ℕ) (w : Result ConnectionParameters Refusal) (p : ConnectionParameters) (u f : ℕ)
    → paper w ≡ read_parameters large word → w ≡ Ok p → u ≡ unit large → f ≡ word / u
    → (f / 64 % 2 ∷ f / 16 % 4 ∷ f % 2 ∷ f / 2 % 4 ∷ word % u ∷ []) ≡ parameter_numbers p
unfolding parameters_of
parameter_numbers_lem large word w p u f is h of by =
    let k = parameters_were large word p (sym is ∙ ap paper h) in
    let g : ℕ = word / unit large in
    rw
    (by, of, ← k.1, bit_code.again (g / 64 % 2) (omega arith), type_code.again (g / 16 % 4) k.0.1.1.1.0, variable_code.again (g % 2) (omega arith), priority_code.again (g / 2 % 4) (omega arith))

pub ruleset decode_laws = (no_parameters, some_parameters)
