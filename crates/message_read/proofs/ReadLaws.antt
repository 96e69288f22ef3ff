-- Each end of the reader of a message, and of what the readers of all requests share, as a law with plain conditions. Assumes nothing.
use Prim.Native.Nat.{ℕ, ◌+◌, ◌*◌, ◌-◌, ◌^◌, ◌≤◌, ◌<◌}
use mathlib.Core.Path.{◌≡◌, sym, ap, ◌∙◌}
use mathlib.Core.List.{List}
use native.Mathlib.Omega.{arith}
use lib.ListN.{length, get_or}
use Rattle.std.specs.Prelude.{Result, Ok, Err}
use Rattle.wire.specs.Parts.{part}
use Rattle.wire.specs.Refusals.{number}
use Rattle.wire.specs.Answers.{Answer, done, refused, and_then, paper}
use Rattle.wire.specs.declared.Refusal.{Refusal}
use Rattle.wire.proofs.Rules.{rules, done_same, all_were, then_stops, then_goes}
use Rattle.epath_check.specs.Paths.{check_path}
use Rattle.connection.specs.Limits.{max_path, max_record}
use Rattle.message_read.specs.declared.MessageRequest.{MessageRequest}
use Rattle.message_read.specs.Reads.{path_bytes, path_at, last_path, route_at, padded_route_at, message_at, read_message}

-- ---- backwards: a size byte that was read, and a path that was judged

pub record SizeWas (s : List ℕ) (at len : ℕ) : Type 0 where
  pub here : at + 1 ≤ length s
  pub is : len ≡ 2 * get_or s at 0
  pub short : len ≤ max_path

pub size_was : (s : List ℕ) (at len : ℕ) → path_bytes s at ≡ done len → SizeWas s at len
unfolding path_bytes
size_was s at len h =
    let u = all_were _ _ len h in
    let f = done_same u.1 in
    record { here = u.0.0; is = sym f; short = rw f at u.0.1.0 }

pub record PathWas (s : List ℕ) (at len : ℕ) : Type 0 where
  pub here : at + len ≤ length s
  pub count : ℕ
  pub checked : check_path (part s at len) ≡ done count

pub path_was : (s : List ℕ) (at len n : ℕ) → path_at s at len ≡ done n → PathWas s at len
unfolding path_at
path_was s at len n h = let u = all_were _ _ n h in record { here = u.0.0; count = n; checked = u.1 }

-- ---- the path
module _ (s : List ℕ) (at : ℕ) where
  pub size_short : length s ≤ at → refused 1 ≡ path_bytes s at
  unfolding path_bytes
  size_short h = let k : length s < at + 1 = omega arith in search rules

  module _ (b : ℕ) (is : b ≡ get_or s at 0) (h : at < length s) where
    there : at + 1 ≤ length s
    there = omega arith

    pub size_over : max_path < 2 * b → refused 3 ≡ path_bytes s at
    unfolding path_bytes
    size_over f = let k : max_path < 2 * get_or s at 0 = omega arith in search (rules, there)

    pub size_is : 2 * b ≤ max_path → done (2 * b) ≡ path_bytes s at
    unfolding path_bytes
    size_is f =
        let k : 2 * get_or s at 0 ≤ max_path = omega arith in
        let e : done (2 * b) ≡ done (2 * get_or s at 0) = rw is in
        search (rules, there)

  pub size_most : (r : Result ℕ Refusal) (len : ℕ) → paper r ≡ path_bytes s at → r ≡ Ok len → len ≤ max_path
  size_most r len is h = (size_was s at len (sym is ∙ ap paper h)).short

  pub size_inside : (r : Result ℕ Refusal) (len : ℕ) → paper r ≡ path_bytes s at → r ≡ Ok len → at + 1 ≤ length s
  size_inside r len is h = (size_was s at len (sym is ∙ ap paper h)).here

  -- so what lies one and two places behind it can be named
  module _ (r : Result ℕ Refusal) (len : ℕ) (is : paper r ≡ path_bytes s at) (h : r ≡ Ok len) (room : length s * 1 < 2 ^ 63) where
    pub one_behind : at + 1 < 2 ^ 64
    one_behind = let k : at + 1 ≤ length s = size_inside r len is h in omega arith

    pub two_behind : at + 2 < 2 ^ 64
    two_behind = let k : at + 1 ≤ length s = size_inside r len is h in omega arith

  module _ (len : ℕ) where
    pub path_short : length s < at + len → refused 1 ≡ path_at s at len
    unfolding path_at
    path_short h = search rules

    pub path_is : (t : List ℕ) (z : Answer ℕ) → t ≡ part s at len → at + len ≤ length s → z ≡ check_path t → z ≡ path_at s at len
    unfolding path_at
    path_is t z e h f = let g : z ≡ check_path (part s at len) = f ∙ ap check_path e in search rules

    module _ (r : Result ℕ Refusal) (is : paper r ≡ path_at s at len) where
      pub last_stops : (e : Refusal) → r ≡ Err e → refused (number e) ≡ last_path s at len
      unfolding last_path
      last_stops e h = then_stops _ _ (number e) (sym is ∙ ap paper h)

      pub last_over : (n : ℕ) → r ≡ Ok n → at + len < length s → refused 8 ≡ last_path s at len
      unfolding last_path
      last_over n h f = then_goes _ _ n _ (sym is ∙ ap paper h) (search rules)

      pub last_is : (n : ℕ) → r ≡ Ok n → length s ≤ at + len → done len ≡ last_path s at len
      unfolding last_path
      last_is n h f = then_goes _ _ n _ (sym is ∙ ap paper h) (search rules)

  module _ (r : Result ℕ Refusal) (is : paper r ≡ path_bytes s at) where
    pub route_stops : (e : Refusal) → r ≡ Err e → refused (number e) ≡ route_at s at
    unfolding route_at
    route_stops e h = then_stops _ _ (number e) (sym is ∙ ap paper h)

    pub route_is : (len : ℕ) (z : Answer ℕ) → r ≡ Ok len → z ≡ last_path s (at + 1) len → z ≡ route_at s at
    unfolding route_at
    route_is len z h e = then_goes _ _ len z (sym is ∙ ap paper h) e

    pub padded_stops : (e : Refusal) → r ≡ Err e → refused (number e) ≡ padded_route_at s at
    unfolding padded_route_at
    padded_stops e h = then_stops _ _ (number e) (sym is ∙ ap paper h)

    module _ (len : ℕ) (h : r ≡ Ok len) where
      pub padded_short : length s ≤ at + 1 → refused 1 ≡ padded_route_at s at
      unfolding padded_route_at
      padded_short f = let k : length s < at + 2 = omega arith in then_goes _ _ len _ (sym is ∙ ap paper h) (search rules)

      module _ (b : ℕ) (read : b ≡ get_or s (at + 1) 0) (g : at + 1 < length s) where
        behind : at + 2 ≤ length s
        behind = omega arith

        pub padded_form : (b ≡ 0 → ⊥) → refused 5 ≡ padded_route_at s at
        unfolding padded_route_at
        padded_form f = let k : get_or s (at + 1) 0 ≡ 0 → ⊥ = λ e. f (read ∙ e) in then_goes _ _ len _ (sym is ∙ ap paper h) (search (rules, behind))

        pub padded_is : (z : Answer ℕ) → b ≡ 0 → z ≡ last_path s (at + 2) len → z ≡ padded_route_at s at
        unfolding padded_route_at
        padded_is z f e = let k : get_or s (at + 1) 0 ≡ 0 = sym read ∙ f in then_goes _ _ len z (sym is ∙ ap paper h) (search (rules, behind))

pub ruleset path_laws = (size_short, size_over, size_is, size_most, size_inside, one_behind, two_behind, path_short, path_is, last_stops, last_over, last_is, route_stops, route_is, padded_stops, padded_short, padded_form, padded_is)

-- ---- message
module _ (s : List ℕ) where
  pub message_record : (len b : ℕ) → b ≡ get_or s 0 0
      → record { service_code = b; path_start = 2; path_len = len; data_start = 2 + len; data_len = length s - (2 + len) } ≡ message_at s len
  message_record len b e = rw e

  pub message_limit : max_record < length s → refused 3 ≡ read_message s
  unfolding read_message
  message_limit h = search rules

  module _ (h : length s ≤ max_record) (r : Result ℕ Refusal) (is : paper r ≡ path_bytes s 1) where
    begun : (z : Answer MessageRequest) → z ≡ and_then (path_bytes s 1) (λ len. and_then (path_at s 2 len) (λ n. done (message_at s len))) → z ≡ read_message s
    unfolding read_message
    begun z e = search rules

    pub message_size_lem : (e : Refusal) → r ≡ Err e → refused (number e) ≡ read_message s
    message_size_lem e f = begun _ (then_stops _ _ (number e) (sym is ∙ ap paper f))

    module _ (len : ℕ) (g : r ≡ Ok len) (q : Result ℕ Refusal) (of : paper q ≡ path_at s 2 len) where
      pub message_path : (e : Refusal) → q ≡ Err e → refused (number e) ≡ read_message s
      message_path e f = begun _ (then_goes _ _ len _ (sym is ∙ ap paper g) (then_stops _ _ (number e) (sym of ∙ ap paper f)))

      pub message_found : (n : ℕ) (m : MessageRequest) → q ≡ Ok n → m ≡ message_at s len → done m ≡ read_message s
      message_found n m f e = begun _ (then_goes _ _ len _ (sym is ∙ ap paper g) (then_goes _ _ n _ (sym of ∙ ap paper f) (ap done e)))

  pub message_begun : (r : Result ℕ Refusal) (len : ℕ) → paper r ≡ path_bytes s 1 → r ≡ Ok len → 2 ≤ length s
  message_begun r len is h = size_inside s 1 r len is h

  pub message_inside : (len n : ℕ) (q : Result ℕ Refusal) → paper q ≡ path_at s 2 len → q ≡ Ok n → 2 + len ≤ length s
  message_inside len n q of f = (path_was s 2 len n (sym of ∙ ap paper f)).here

pub ruleset message_laws = (message_record, message_limit, message_size_lem, message_path, message_found, message_begun, message_inside, size_most)
