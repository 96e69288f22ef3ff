-- The writers' stores, put together: fields and path. Assumes nothing.
use Prim.Native.Nat.{ℕ, ◌+◌, ◌/◌, ◌*◌, ◌^◌, ◌≤◌, ◌<◌}
use mathlib.Core.Path.{◌≡◌, refl, sym, ap, ◌∙◌}
use mathlib.Core.List.{List, [], ◌∷◌, ◌++◌, append_assoc}
use mathlib.Core.Bool.{Bool, true, false, true≢false}
use native.Mathlib.Omega.{arith}
use lib.ListN.{length, length-append}
use lib.Seq.{sets}
use mir.Val.{Fits}
use mir.Syntax.{w16}
use Rattle.std.specs.Prelude.{Result, Ok, Err, IsOk}
use Rattle.wire.specs.Answers.{paper}
use Rattle.wire.specs.Numbers.{low_first}
use Rattle.wire.specs.Answers.{done}
use Rattle.wire.specs.Records.{Field, byte, num, bytes_of, laid}
use Rattle.wire.specs.declared.Refusal.{Refusal}
use Rattle.wire.proofs.Rules.{never}
use Rattle.wire.proofs.Stores.{sets_append, sets_ahead}
use Rattle.wire.proofs.Folds.{joined_append}
use Rattle.wire.proofs.Records.{laid_length, laid_more}
use Rattle.epath_sizes.specs.Segments.{encode}
use Rattle.epath_sizes.specs.Lists.{segs_of}
use Rattle.epath_sizes.specs.declared.Path.{Path}
use Rattle.connection.specs.Limits.{size_limit}
use Rattle.connection_words.proofs.FieldLaws.{flags_most}
use Rattle.connection_words.specs.Fields.{unit, flags_of, word_of, parameter_word, class_trigger}
use Rattle.connection_words.specs.Requests.{triad, parameter_width, direction_fields, open_ids, open_head, open_rest, open_bytes}
use Rattle.connection.specs.declared.ConnectionParameters.{ConnectionParameters}
use Rattle.connection.specs.declared.OpenOptions.{OpenOptions}
use Rattle.route.specs.Routes.{Ready, Routed}
use Rattle.open_sizes.specs.Sizes.{open_base}
use Rattle.open_sizes.proofs.SizeLaws.{word_small_size, open_front}

-- the last store comes first: what it leaves is known, and says what the one before it left
pub open_ids_lem : (priority ticks x y : ℕ) (old a0 a1 a2 : List ℕ) → a2 ≡ sets a1 6 (low_first 4 y) → a1 ≡ sets a0 2 (low_first 4 x)
    → a0 ≡ sets old 0 (priority ∷ ticks ∷ []) → a2 ≡ sets old 0 (laid (open_ids priority ticks x y))
open_ids_lem priority ticks x y old a0 a1 a2 e2 e1 e0 = e2 ∙ rw (e1, e0)

pub open_head_lem : (o : OpenOptions) (old a0 a1 a2 : List ℕ)
    → a0 ≡ sets old 0 (laid (open_ids o.priority_tick_time o.timeout_ticks o.o_t_connection_id o.t_o_connection_id))
    → a1 ≡ sets a0 10 (laid (triad o.connection_serial_number o.vendor_id o.originator_serial_number))
    → a2 ≡ sets a1 18 (o.timeout_multiplier ∷ 0 ∷ 0 ∷ 0 ∷ []) → a2 ≡ sets old 0 (laid (open_head o))
open_head_lem o old a0 a1 a2 e0 e1 e2 = e2 ∙ rw (e1, e0)

-- a word of parameters
module _ (large : Bool) (q : ConnectionParameters) (good : parameter_word large q ≡ done (word_of large q)) (r : Result ℕ Refusal) (is : paper r ≡ parameter_word large q) where
  pub word_made : IsOk r
  word_made = go r (is ∙ good)
    where
      go : (r : Result ℕ Refusal) → paper r ≡ done (word_of large q) → IsOk r
      go (Ok w) h = refl
      go (Err e) h = never h

  module _ (w : ℕ) (h : r ≡ Ok w) where
    value : w ≡ word_of large q
    value = let d : done w ≡ done (word_of large q) = sym (ap paper h) ∙ is ∙ good in cc

    pub word_large : large ≡ true → (old new : List ℕ) (at : ℕ) → new ≡ sets old at (low_first 4 w) → new ≡ sets old at (low_first (parameter_width large) (word_of large q))
    word_large l old new at e = e ∙ rw (value, l)

    pub word_small : large ≡ false → (old new : List ℕ) (at : ℕ) → new ≡ sets old at (low_first 2 w) → new ≡ sets old at (low_first (parameter_width large) (word_of large q))
    word_small l old new at e = e ∙ rw (value, l)

    pub word_cast : large ≡ false → Fits w16 w
    unfolding word_of
    word_cast l =
        let k : q.connection_size ≤ size_limit large = word_small_size large q (word_of large q) good in
        record { fits = below large l k (value ∙ refl) }
      where
        below : (large : Bool) → large ≡ false → q.connection_size ≤ size_limit large → w ≡ q.connection_size + unit large * flags_of q → w < 2 ^ 16
        below false e k v = omega (arith, flags_most q)
        below true e k v = absurd (true≢false e)

-- a direction, and the second 14 or 18 bytes
pub direction_put : (large : Bool) (rpi : ℕ) (q : ConnectionParameters) (at : ℕ) (old a b : List ℕ) → a ≡ sets old at (low_first 4 rpi)
    → b ≡ sets a (at + 4) (low_first (parameter_width large) (word_of large q)) → b ≡ sets old at (laid (direction_fields large rpi q))
direction_put large rpi q at old a b e f =
    let x : a ≡ sets old at (laid (num 4 rpi ∷ [])) = laid_more [] (num 4 rpi) old old a at at refl (omega arith) e in
    laid_more (num 4 rpi ∷ []) (num (parameter_width large) (word_of large q)) old a b at (at + 4) x (omega arith) f

module _ (o : OpenOptions) (w k b : ℕ) (old a0 a1 a2 : List ℕ) (is : k ≡ parameter_width o.large_open) (trigger : b ≡ class_trigger o)
    (e0 : a0 ≡ sets old 22 (laid (direction_fields o.large_open o.o_t_rpi o.o_t_params)))
    (e1 : a1 ≡ sets a0 (26 + k) (laid (direction_fields o.large_open o.t_o_rpi o.t_o_params)))
    (e2 : a2 ≡ sets a1 (30 + k + k) (b ∷ w ∷ [])) where
  pub open_rest_lem : a2 ≡ sets old 22 (laid (open_rest o w))
  open_rest_lem =
      let l : Bool = o.large_open in
      let x : List Field = direction_fields l o.o_t_rpi o.o_t_params in
      let y : List Field = direction_fields l o.t_o_rpi o.t_o_params in
      let z : List Field = byte (class_trigger o) ∷ byte w ∷ [] in
      let f1 : a1 ≡ sets old 22 (laid x ++ laid y) =
      e1 ∙ ap (λ (t : List ℕ). sets t (26 + k) (laid y)) e0 ∙ ap (λ (i : ℕ). sets (sets old 22 (laid x)) i (laid y)) (omega (arith, laid_length x)) ∙ sets_append old (laid x) (laid y) 22 in
      e2
      ∙ ap (λ (i : ℕ). sets a1 (30 + k + k) (i ∷ w ∷ [])) trigger
      ∙ ap (λ (t : List ℕ). sets t (30 + k + k) (laid z)) f1
      ∙ ap (λ (i : ℕ). sets (sets old 22 (laid x ++ laid y)) i (laid z)) (omega (arith, laid_length x, laid_length y, length-append (laid x) (laid y)))
      ∙ sets_append old (laid x ++ laid y) (laid z) 22
      ∙ ap (λ (t : List ℕ). sets old 22 t) (append_assoc (laid x) (laid y) (laid z))
      ∙ ap (λ (t : List ℕ). sets old 22 (laid x ++ t)) (sym (joined_append bytes_of y z))
      ∙ ap (λ (t : List ℕ). sets old 22 t) (sym (joined_append bytes_of x (y ++ z)))

-- before any path's bytes, all together
module _ (o : OpenOptions) (base : ℕ) (is : base ≡ open_base o.large_open) where
  pub open_laid : (path old a b c : List ℕ) → a ≡ sets old base path → b ≡ sets a 0 (laid (open_head o))
      → c ≡ sets b 22 (laid (open_rest o (length path / 2))) → c ≡ sets old 0 (open_bytes o path)
  unfolding open_bytes
  open_laid path old a b c s e f =
      let head : List ℕ = laid (open_head o) in
      let rest : List ℕ = laid (open_rest o (length path / 2)) in
      f
      ∙ ap (λ (l : List ℕ). sets l 22 rest) e
      ∙ sets_append a head rest 0
      ∙ ap (λ (l : List ℕ). sets l 0 (head ++ rest)) s
      ∙ sets_ahead old (head ++ rest) path base (is ∙ sym (open_front o (length path / 2)))
      ∙ ap (λ (l : List ℕ). sets old 0 l) (append_assoc head rest path)

module _ (pool : List ℕ) (p : Path) (o : OpenOptions) (base : ℕ) (is : base ≡ open_base o.large_open) where
  pub open_at : (out : List ℕ) → Ready pool p (open_base o.large_open) out → Ready pool p base out
  open_at out r = rw is r

  pub open_put : (old : List ℕ) (n : ℕ) (a b c : List ℕ) → Routed pool p base old n a → b ≡ sets a 0 (laid (open_head o)) → c ≡ sets b 22 (laid (open_rest o (n / 2)))
      → c ≡ sets old 0 (open_bytes o (encode (segs_of pool p)))
  open_put old n a b c t e f =
      open_laid o base is (encode (segs_of pool p)) old a b c t.stored e (f ∙ ap (λ (k : ℕ). sets b 22 (laid (open_rest o (k / 2)))) t.size)

pub ruleset open_laws = (open_ids_lem, open_head_lem, word_made, word_large, word_small, word_cast, direction_put, open_rest_lem, open_at, open_put)
