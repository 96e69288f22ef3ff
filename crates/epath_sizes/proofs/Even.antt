-- What a user may rely on of sizes: every encoding has even length, and so has every size that is answered. Assumes nothing.
use Prim.Native.Nat.{ℕ, zero, suc, ◌+◌, ◌%◌}
use mathlib.Core.Path.{◌≡◌, refl, ap, ◌∙◌}
use mathlib.Core.List.{List, [], ◌∷◌, ◌++◌}
use native.Mathlib.Omega.{arith}
use lib.ListN.{length, length-append}
use Rattle.wire.specs.Answers.{done}
use Rattle.epath_sizes.specs.Limits.{symbol_code, class_code, instance_code, attribute_code, element_code}
use Rattle.epath_sizes.specs.Segments.{Seg, symbol, class, instance, attribute, element, port, logical, pad_of, padded, port_head, encode_seg, encode}
use Rattle.epath_sizes.specs.Lists.{segs_of}
use Rattle.epath_sizes.specs.Sizes.{path_size}
use Rattle.epath_sizes.specs.declared.Path.{Path}
use Rattle.epath_sizes.proofs.Forms.{logical_each}
use Rattle.epath_sizes.proofs.SizeLaws.{length_padded}
use Rattle.epath_sizes.proofs.PathLaws.{path_sized}

pad_evens : (n r : ℕ) → n % 2 ≡ r → (n + length (pad_of r)) % 2 ≡ 0
pad_evens n zero h = omega arith
pad_evens n (suc r) h = omega arith

padded_evens : (xs : List ℕ) → length (padded xs) % 2 ≡ 0
padded_evens xs = ap (λ (k : ℕ). k % 2) (length_padded xs) ∙ pad_evens (length xs) (length xs % 2) refl

logical_even : (code v : ℕ) → length (logical code v) % 2 ≡ 0
logical_even code v = logical_each code v (λ l. length l % 2 ≡ 0) refl refl refl

pub segment_even : (x : Seg) → length (encode_seg x) % 2 ≡ 0
segment_even (symbol bs) = padded_evens (symbol_code ∷ length bs ∷ bs)
segment_even (class v) = logical_even class_code v
segment_even (instance v) = logical_even instance_code v
segment_even (attribute v) = logical_even attribute_code v
segment_even (element v) = logical_even element_code v
segment_even (port p link) = padded_evens (port_head p (length link) ++ link)

pub path_even : (xs : List Seg) → length (encode xs) % 2 ≡ 0
path_even [] = refl
path_even (x ∷ xs) = omega (arith, length-append (encode_seg x) (encode xs), segment_even x, path_even xs)

-- so is every size that is answered
pub size_even : (pool : List ℕ) (p : Path) (n : ℕ) → path_size pool p ≡ done n → n % 2 ≡ 0
size_even pool p n h = ap (λ (k : ℕ). k % 2) (path_sized pool p n h).size ∙ path_even (segs_of pool p)
