-- A message's stores, put together: fields, path, data. For the writers over a list and over a written path. Assumes nothing.
use Prim.Native.Nat.{ℕ, ◌+◌, ◌/◌}
use mathlib.Core.Path.{◌≡◌, refl, ap, ◌∙◌}
use mathlib.Core.List.{List, [], ◌∷◌, ◌++◌}
use native.Mathlib.Omega.{arith}
use lib.ListN.{length, set}
use lib.Seq.{sets}
use Rattle.wire.proofs.Stores.{sets_append, sets_ahead}
use Rattle.connection_words.specs.Requests.{message_bytes}

-- what stands around a path that was stored
module _ (old path : List ℕ) (n : ℕ) (a : List ℕ) (size : n ≡ length path) (stored : a ≡ sets old 2 path) where
  pub message_around : (service : ℕ) (content b c d : List ℕ) → b ≡ set a 0 service → c ≡ set b 1 (n / 2) → d ≡ sets c (2 + n) content
      → d ≡ sets old 0 (message_bytes service path content)
  unfolding message_bytes
  message_around service content b c d e f g =
      let front : List ℕ = service ∷ (n / 2) ∷ [] in
      let h : c ≡ sets old 0 (front ++ path) = f ∙ rw (e, stored) (sets_ahead old front path 2 refl) in
      g
      ∙ ap (λ (l : List ℕ). sets l (2 + n) content) h
      ∙ ap (λ (k : ℕ). sets (sets old 0 (front ++ path)) k content) (omega arith)
      ∙ sets_append old (front ++ path) content 0
      ∙ rw size
