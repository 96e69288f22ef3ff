-- Each end of the writer for C of a Forward Open, as a law with plain conditions. Assumes nothing.
use Prim.Native.Nat.{ℕ, ◌+◌, ◌/◌, ◌%◌}
use mathlib.Core.Path.{◌≡◌, refl, sym, ap, ◌∙◌}
use mathlib.Core.Bool.{Bool}
use mathlib.Core.List.{List, [], ◌∷◌}
use lib.ListN.{length}
use Rattle.std.specs.Prelude.{Result, Ok, Err}
use Rattle.wire.specs.Refusals.{number}
use Rattle.wire.specs.Answers.{Answer, done, refused, paper, over, and_then, with_room, written}
use Rattle.wire.specs.declared.Refusal.{Refusal}
use Rattle.wire.proofs.Rules.{all_keep, then_stops, then_done, Went, then_were}
use Rattle.connection.specs.Limits.{size_limit}
use Rattle.connection.specs.declared.ConnectionParameters.{ConnectionParameters}
use Rattle.connection.specs.declared.OpenOptions.{OpenOptions}
use Rattle.connection.specs.declared.Direction.{Direction}
use Rattle.connection.specs.declared.TriggerType.{TriggerType}
use Rattle.connection.specs.declared.TransportClass.{TransportClass}
use Rattle.connection_words.specs.Codes.{direction_of, trigger_of, class_of}
use Rattle.connection_words.specs.Fields.{word_of, parameter_word, read_parameters, Transport, transport, read_transport}
use Rattle.connection_words.specs.Requests.{open_bytes}
use Rattle.connection_words.proofs.Words.{parameters_were, parameters_written_of_read, transport_were}
use Rattle.open_sizes.specs.Sizes.{open_base}
use Rattle.open_encode.specs.Over.{open_after, open_over_size}
use Rattle.route_written.specs.Written.{written_route}
use Rattle.route_written.proofs.WrittenLaws.{over_stops, over_goes}
use Rattle.c_answers.specs.Codes.{code}
use Rattle.c_open_writes.specs.Writes.{open_words, read_words, paper_words, open_given, options_from, word_parts, options_of}
use Rattle.c_open_writes.specs.declared.Words.{Words}

-- ---- backwards: what words that were read hold

-- a word that was read is the word of what it holds
pub word_good : (large : Bool) (x : ℕ) (p : ConnectionParameters) → read_parameters large x ≡ done p → parameter_word large p ≡ done x
unfolding parameter_word
word_good large x p h =
    let w = parameters_written_of_read large x p h in
    all_keep (over p.connection_size (size_limit large) 3 ∷ []) (done (word_of large p)) (w.size, tt) ∙ ap done w.word

pub record Were (large : Bool) (x y b : ℕ) (p q : ConnectionParameters) (t : Transport) : Type 0 where
  pub first : read_parameters large x ≡ done p
  pub second : read_parameters large y ≡ done q
  pub third : read_transport b ≡ done t

pub words_were : (large : Bool) (x y b : ℕ) (p q : ConnectionParameters) (t : Transport) → read_words large x y b ≡ done (open_words p q t) → Were large x y b p q t
unfolding read_words
words_were large x y b p q t h =
    let u : Went (read_parameters large x) (λ p. and_then (read_parameters large y) (λ q. and_then (read_transport b) (λ t. done (open_words p q t)))) (open_words p q t) =
    then_were (read_parameters large x) (λ p. and_then (read_parameters large y) (λ q. and_then (read_transport b) (λ t. done (open_words p q t)))) (open_words p q t) h in
    let v : Went (read_parameters large y) (λ q. and_then (read_transport b) (λ t. done (open_words u.found q t))) (open_words p q t) =
    then_were (read_parameters large y) (λ q. and_then (read_transport b) (λ t. done (open_words u.found q t))) (open_words p q t) u.then in
    let w : Went (read_transport b) (λ t. done (open_words u.found v.found t)) (open_words p q t) =
    then_were (read_transport b) (λ t. done (open_words u.found v.found t)) (open_words p q t) v.then in
    let e : done (open_words u.found v.found w.found) ≡ done (open_words p q t) = w.then in
    let f : u.found ≡ p = cc in
    let g : v.found ≡ q = cc in
    let k : w.found ≡ t = cc in
    record { first = u.is ∙ ap done f; second = v.is ∙ ap done g; third = w.is ∙ ap done k }

-- ---- a Forward Open whose words are refused
module _ (path : List ℕ) (large : Bool) (x y b : ℕ) (z : Result Words Refusal) (is : paper_words z ≡ read_words large x y b) (v : Result ℕ Refusal) (of : paper v ≡ written_route path) where
  given_path : (e : Refusal) → v ≡ Err e → open_given path large x y b ≡ refused (number e)
  unfolding open_given
  given_path e h = sym (over_stops path v of _ e h)

  given_words : (n : ℕ) (e : Refusal) → v ≡ Ok n → z ≡ Err e → open_given path large x y b ≡ refused (number e)
  unfolding open_given
  given_words n e h g =
      sym
      (over_goes path v of n h (λ k. and_then (read_words large x y b) (λ _. done (open_base large + k)))
      (then_stops (read_words large x y b) _ (number e) (sym is ∙ ap paper_words g)))

  module _ (e : Refusal) (stops : open_given path large x y b ≡ refused (number e)) where
    told : (r room : ℕ) → r ≡ code (refused (number e)) → r ≡ code (with_room (open_given path large x y b) room)
    told r room h = h ∙ sym (ap (λ (a : Answer ℕ). code (with_room a room)) stops)

    kept : (bytes old : List ℕ) → old ≡ written (with_room (open_given path large x y b) (length old)) bytes old
    kept bytes old = sym (ap (λ (a : Answer ℕ). written (with_room a (length old)) bytes old) stops)

  pub path_told : (e : Refusal) (r room : ℕ) → v ≡ Err e → r ≡ code (refused (number e)) → r ≡ code (with_room (open_given path large x y b) room)
  path_told e r room h = told e (given_path e h) r room

  pub path_kept : (e : Refusal) (bytes old : List ℕ) → v ≡ Err e → old ≡ written (with_room (open_given path large x y b) (length old)) bytes old
  path_kept e bytes old h = kept e (given_path e h) bytes old

  pub words_told : (n : ℕ) (e : Refusal) (r room : ℕ) → v ≡ Ok n → z ≡ Err e → r ≡ code (refused (number e)) → r ≡ code (with_room (open_given path large x y b) room)
  words_told n e r room h g = told e (given_words n e h g) r room

  pub words_kept : (n : ℕ) (e : Refusal) (bytes old : List ℕ) → v ≡ Ok n → z ≡ Err e → old ≡ written (with_room (open_given path large x y b) (length old)) bytes old
  words_kept n e bytes old h g = kept e (given_words n e h g) bytes old

-- ---- a Forward Open whose words are good
then_same : {A B : Type 0} (a : Answer A) (f g : A → Answer B) → ((k : A) → f k ≡ g k) → and_then a f ≡ and_then a g
then_same (done k) f g h = h k
then_same (refused k) f g h = refl

module _ (path : List ℕ) (large : Bool) (priority ticks i j serial vendor originator multiplier m n x y b : ℕ)
    (w : Words) (z : Result Words Refusal) (is : paper_words z ≡ read_words large x y b) (h : z ≡ Ok w) where
  abbrev p : ConnectionParameters
  p = w.o_t_params

  abbrev q : ConnectionParameters
  q = w.t_o_params

  abbrev d : Direction
  d = w.transport.direction

  abbrev t : TriggerType
  t = w.transport.trigger

  abbrev c : TransportClass
  c = w.transport.class

  abbrev made : OpenOptions
  made = options_from large priority ticks i j serial vendor originator multiplier m n p q d t c

  abbrev asked : OpenOptions
  asked = options_of large priority ticks i j serial vendor originator multiplier m x n y b

  good : read_words large x y b ≡ done (open_words p q (transport d t c))
  good = sym is ∙ ap paper_words h

  were : Were large x y b p q (transport d t c)
  were = words_were large x y b p q (transport d t c) good

  made_is : made ≡ asked
  made_is =
      let e : p ≡ word_parts large x = sym (parameters_were large x p were.first).1 in
      let f : q ≡ word_parts large y = sym (parameters_were large y q were.second).1 in
      let g : transport d t c ≡ transport (direction_of (b / 128)) (trigger_of (b / 16 % 8)) (class_of (b % 16)) = sym (transport_were b (transport d t c) were.third).1 in
      let k : d ≡ direction_of (b / 128) = cc in
      let l : t ≡ trigger_of (b / 16 % 8) = cc in
      let o : c ≡ class_of (b % 16) = cc in
      rw (e, f, k, l, o)

  after : (k : ℕ) → open_after made k ≡ done (open_base large + k)
  unfolding open_after
  after k =
      then_done (parameter_word large p) _ x (word_good large x p were.first)
      ∙ then_done (parameter_word large q) _ y (word_good large y q were.second)

  size_is : open_over_size path made ≡ open_given path large x y b
  unfolding open_over_size open_given
  size_is =
      then_same (written_route path) (open_after made) (λ k. and_then (read_words large x y b) (λ _. done (open_base large + k)))
      (λ k. after k ∙ sym (then_done (read_words large x y b) (λ _. done (open_base large + k)) (open_words p q (transport d t c)) good))

  pub open_told : (k : Result ℕ Refusal) (r room : ℕ) → paper k ≡ with_room (open_over_size path made) room → r ≡ code (paper k)
      → r ≡ code (with_room (open_given path large x y b) room)
  open_told k r room e f = f ∙ ap code e ∙ ap (λ (a : Answer ℕ). code (with_room a room)) size_is

  pub open_stored : (old new : List ℕ) → new ≡ written (with_room (open_over_size path made) (length old)) (open_bytes made path) old
      → new ≡ written (with_room (open_given path large x y b) (length old)) (open_bytes asked path) old
  open_stored old new e =
      e
      ∙ ap (λ (a : Answer ℕ). written (with_room a (length old)) (open_bytes made path) old) size_is
      ∙ ap (λ (o : OpenOptions). written (with_room (open_given path large x y b) (length old)) (open_bytes o path) old) made_is

pub ruleset given_laws = (path_told, path_kept, words_told, words_kept, open_told, open_stored)
