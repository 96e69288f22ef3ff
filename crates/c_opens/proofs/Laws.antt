-- The ends of the function for C that gives the default Forward Open, as laws with plain conditions. Assumes nothing.
use Prim.Native.Nat.{ℕ}
use mathlib.Core.Path.{◌≡◌, ap, ◌∙◌}
use mathlib.Core.Bool.{Bool}
use mathlib.Core.List.{List}
use lib.ListN.{length, take, drop}
use Rattle.wire.specs.Answers.{done, with_room, written}
use Rattle.connection.specs.Defaults.{default_options}
use Rattle.connection.specs.declared.OpenOptions.{OpenOptions}
use Rattle.open_read.specs.Reads.{opened}
use Rattle.c_answers.specs.Codes.{code, run_answer, run_left}
use Rattle.c_opens.specs.Opens.{opened_numbers, default_numbers}

-- ---- the default one is the first 13 numbers
module _ (large : Bool) (serial : ℕ) (o : OpenOptions) (n : List ℕ) (of : o ≡ default_options serial) (is : n ≡ opened_numbers large (opened o 0 0)) where
  front : take 13 (drop 0 n) ≡ default_numbers large serial
  front = ap (λ (x : List ℕ). take 13 (drop 0 x)) (is ∙ ap (λ (x : OpenOptions). opened_numbers large (opened x 0 0)) of)

  pub default_answer : (old : List ℕ) (r : ℕ) → r ≡ code (with_room (done (length (take 13 (drop 0 n)))) (length old))
      → r ≡ code (run_answer (done (default_numbers large serial)) old)
  default_answer old r e = e ∙ ap (λ (x : List ℕ). code (run_answer (done x) old)) front

  pub default_stored : (old new : List ℕ) → new ≡ written (with_room (done (length (take 13 (drop 0 n)))) (length old)) (take 13 (drop 0 n)) old
      → new ≡ run_left (done (default_numbers large serial)) old
  default_stored old new e = e ∙ ap (λ (x : List ℕ). run_left (done x) old) front

pub ruleset default_laws = (default_answer, default_stored)
