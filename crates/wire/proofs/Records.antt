-- Records: what was laid out is read, and what is read was laid out. Assumes nothing.
use Prim.Native.Nat.{ℕ, ◌+◌, ◌≤◌}
use mathlib.Core.Path.{◌≡◌, refl, sym, ap, ◌∙◌}
use mathlib.Core.List.{List, [], ◌∷◌, ◌++◌, append_assoc, append-nil}
use native.Mathlib.Nat.{add-zero, add_assoc}
use native.Mathlib.Omega.{arith}
use lib.ListN.{length, get_or, take, drop, length-append, length-drop, take-append-drop}
use lib.Seq.{sets, drop-drop}
use Rattle.wire.specs.Numbers.{value_of, Bytes}
use Rattle.wire.specs.Records.{Field, byte, num, bytes_of, laid, width, widths, Holds, AllHold, field_at, fields_at}
use Rattle.wire.proofs.Numbers.{byte_here, value_low, low_value, low_length, bytes_drop, first_one}
use Rattle.wire.proofs.Stores.{sets_onto, past_part}
use Rattle.wire.proofs.Folds.{joined_append}

field_length : (f : Field) → length (bytes_of f) ≡ width f
field_length (byte v) = refl
field_length (num k v) = low_length k v

pub laid_length : (fs : List Field) → length (laid fs) ≡ widths fs
laid_length [] = refl
laid_length (f ∷ fs) = length-append (bytes_of f) (laid fs) ∙ rw (field_length f, laid_length fs)

pub laid_size : (fs : List Field) (rest : List ℕ) → length (laid fs ++ rest) ≡ widths fs + length rest
laid_size fs rest = length-append (laid fs) rest ∙ ap (λ (k : ℕ). k + length rest) (laid_length fs)

-- what stands behind a record
pub past_laid : (s : List ℕ) (fs : List Field) (b : List ℕ) (at : ℕ) → drop at s ≡ laid fs ++ b → drop (at + widths fs) s ≡ b
past_laid s fs b at e = ap (λ (k : ℕ). drop (at + k) s) (sym (laid_length fs)) ∙ past_part s (laid fs) b at e

-- ---- read of written

field_back : (f : Field) (s rest : List ℕ) (at : ℕ) → Holds f → drop at s ≡ bytes_of f ++ rest → field_at f s at ≡ f
field_back (byte v) s rest at h e =
    ap byte (sym (byte_here s at) ∙ ap (λ (l : List ℕ). get_or l 0 0) e)
field_back (num k v) s rest at h e = ap (num k) (ap (value_of k) e ∙ value_low k v rest h)

-- what stands behind a field
past : (f : Field) (s rest : List ℕ) (at : ℕ) → drop at s ≡ bytes_of f ++ rest → drop (at + width f) s ≡ rest
past f s rest at e = ap (λ (k : ℕ). drop (at + k) s) (sym (field_length f)) ∙ past_part s (bytes_of f) rest at e

pub fields_back : (fs : List Field) (s rest : List ℕ) (at : ℕ) → AllHold fs → drop at s ≡ laid fs ++ rest → fields_at fs s at ≡ fs
fields_back [] s rest at h e = refl
fields_back (f ∷ fs) s rest at h e =
    let g : drop at s ≡ bytes_of f ++ (laid fs ++ rest) = e ∙ append_assoc (bytes_of f) (laid fs) rest in
    rw (field_back f s (laid fs ++ rest) at h.0 g, fields_back fs s rest (at + width f) h.1 (past f s (laid fs ++ rest) at g))

-- a field's number, by its place in the list of fields
abbrev number_in : Field → ℕ
number_in (byte v) = v
number_in (num k v) = v

abbrev pub field : ℕ → List Field → ℕ
field i fs = number_in (get_or fs i (byte 0))

-- ---- written of read

field_again : (f : Field) (s : List ℕ) (at : ℕ) → Bytes s → at + width f ≤ length s → bytes_of (field_at f s at) ≡ take (width f) (drop at s)
field_again (byte v) s at b h =
    sym (first_one (drop at s) (simp length-drop (omega arith)) ∙ rw (byte_here s at))
field_again (num k v) s at b h = low_value k (drop at s) (bytes_drop s at b) (simp length-drop (omega arith))

pub fields_again : (fs : List Field) (s : List ℕ) (at : ℕ) → Bytes s → at + widths fs ≤ length s → laid (fields_at fs s at) ++ drop (at + widths fs) s ≡ drop at s
fields_again [] s at b h = ap (λ (k : ℕ). drop k s) (add-zero at)
fields_again (f ∷ fs) s at b h =
    append_assoc (bytes_of (field_at f s at)) (laid (fields_at fs s (at + width f))) (drop (at + (width f + widths fs)) s)
    ∙ ap (λ (k : ℕ). bytes_of (field_at f s at) ++ (laid (fields_at fs s (at + width f)) ++ drop k s)) (sym (add_assoc at (width f) (widths fs)))
    ∙ ap (λ (l : List ℕ). bytes_of (field_at f s at) ++ l) (fields_again fs s (at + width f) b (omega arith))
    ∙ ap (λ (l : List ℕ). l ++ drop (at + width f) s) (field_again f s at b (omega arith))
    ∙ ap (λ (l : List ℕ). take (width f) (drop at s) ++ l) (sym (drop-drop (width f) at s))
    ∙ take-append-drop (width f) (drop at s)

-- the same, of fields that were read as others and of what follows them
pub fields_were : (fs gs : List Field) (s rest : List ℕ) (at to : ℕ) → Bytes s → at + widths fs ≡ to → to ≤ length s → fields_at fs s at ≡ gs → drop to s ≡ rest
    → drop at s ≡ laid gs ++ rest
fields_were fs gs s rest at to b e h same r = sym (fields_again fs s at b (omega arith)) ∙ rw (e, same, r)

-- ---- a writer that stores field after field, each where the one before it ends
pub laid_more : (fs : List Field) (f : Field) (old a b : List ℕ) (n at : ℕ) → a ≡ sets old n (laid fs) → at ≡ n + widths fs → b ≡ sets a at (bytes_of f)
    → b ≡ sets old n (laid (fs ++ (f ∷ [])))
laid_more fs f old a b n at e h g =
    sets_onto old a b (laid fs) (bytes_of f) n at e (h ∙ ap (λ (k : ℕ). n + k) (sym (laid_length fs))) g
    ∙ ap (λ (l : List ℕ). sets old n (laid fs ++ l)) (sym (append-nil (bytes_of f)))
    ∙ ap (λ (l : List ℕ). sets old n l) (sym (joined_append bytes_of fs (f ∷ [])))
