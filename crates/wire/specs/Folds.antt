-- Lists of things that each have a size, or bytes. Assumes nothing: these are definitions.
use Rattle.std.specs.Prelude.{ℕ, List, [], ◌∷◌, ◌++◌}
use Rattle.wire.specs.Answers.{Answer, done, plus}

module _ {A : Type 0} where
  -- the first refusal, else the sizes' sum
  abbrev pub sizes : (A → Answer ℕ) → List A → Answer ℕ
  sizes size [] = done 0
  sizes size (x ∷ xs) = plus (size x) (sizes size xs)

  -- the bytes of each, end to end
  abbrev pub joined : (A → List ℕ) → List A → List ℕ
  joined bytes [] = []
  joined bytes (x ∷ xs) = bytes x ++ joined bytes xs
