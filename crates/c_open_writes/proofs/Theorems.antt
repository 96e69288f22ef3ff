-- A Forward Open that is written has the words that were given for it. Assumes nothing.
use Prim.Native.Nat.{ℕ, ◌+◌, ◌<◌}
use mathlib.Core.Path.{◌≡◌, sym, ap, ◌∙◌}
use mathlib.Core.Bool.{Bool}
use mathlib.Core.List.{List, [], ◌∷◌}
use Rattle.wire.specs.Answers.{done, and_then, or_zero}
use Rattle.wire.proofs.Rules.{Went, then_were}
use Rattle.connection_words.specs.Fields.{class_trigger}
use Rattle.connection_words.proofs.Words.{parameters_were, transport_were, transport_written_of_read}
use Rattle.open_sizes.specs.Sizes.{open_base}
use Rattle.route_written.specs.Written.{written_route}
use Rattle.c_opens.specs.Opens.{word_number, open_numbers}
use Rattle.c_open_writes.specs.Writes.{OpenWords, open_words, read_words, open_given, word_parts, options_of}
use Rattle.c_open_writes.proofs.Laws.{word_good, Were, words_were}

-- where it is not refused, the numbers of the record that is written are those that were given, in the order of the wire
module _ (path : List ℕ) (large : Bool) (priority ticks i j serial vendor originator multiplier m x n y b size : ℕ) where
  pub open_as_given : b < 256 → open_given path large x y b ≡ done size
      → open_numbers large (options_of large priority ticks i j serial vendor originator multiplier m x n y b)
      ≡ (priority ∷ ticks ∷ i ∷ j ∷ serial ∷ vendor ∷ originator ∷ multiplier ∷ m ∷ x ∷ n ∷ y ∷ b ∷ [])
  unfolding open_given
  open_as_given l h =
      let w : Went (written_route path) (λ k. and_then (read_words large x y b) (λ _. done (open_base large + k))) size =
      then_were (written_route path) (λ k. and_then (read_words large x y b) (λ _. done (open_base large + k))) size h in
      let v : Went (read_words large x y b) (λ _. done (open_base large + w.found)) size =
      then_were (read_words large x y b) (λ _. done (open_base large + w.found)) size w.then in
      go v.found v.is
    where
      go : (k : OpenWords) → read_words large x y b ≡ done k
          → open_numbers large (options_of large priority ticks i j serial vendor originator multiplier m x n y b)
          ≡ (priority ∷ ticks ∷ i ∷ j ∷ serial ∷ vendor ∷ originator ∷ multiplier ∷ m ∷ x ∷ n ∷ y ∷ b ∷ [])
      go (open_words p q t) e =
          let u : Were large x y b p q t = words_were large x y b p q t e in
          let f : word_number large (word_parts large x) ≡ x = rw (parameters_were large x p u.first).1 (ap or_zero (word_good large x p u.first)) in
          let g : word_number large (word_parts large y) ≡ y = rw (parameters_were large y q u.second).1 (ap or_zero (word_good large y q u.second)) in
          let c : class_trigger (options_of large priority ticks i j serial vendor originator multiplier m x n y b) ≡ b =
          transport_written_of_read (options_of large priority ticks i j serial vendor originator multiplier m x n y b) b l (u.third ∙ ap done (sym (transport_were b t u.third).1)) in
          rw (f, g, c)
