-- The sizes' ends, and what a size that was answered says of the request. Assumes nothing.
use Prim.Native.Nat.{ℕ, ◌+◌, ◌-◌, ◌%◌, ◌≤◌, ◌<◌}
use mathlib.Core.Path.{◌≡◌, sym, ap, ◌∙◌}
use mathlib.Core.List.{List}
use native.Mathlib.Omega.{arith}
use lib.ListN.{length}
use mir.Val.{Fits}
use mir.Syntax.{w64}
use Rattle.std.specs.Prelude.{Result, Ok, Err}
use Rattle.wire.specs.Refusals.{number}
use Rattle.wire.specs.Answers.{done, refused, paper, within_limit}
use Rattle.wire.specs.declared.Refusal.{Refusal}
use Rattle.wire.proofs.Rules.{rules, then_stops, then_goes, within_was}
use Rattle.connection_words.proofs.Lengths.{message_length, send_length}
use Rattle.epath_sizes.specs.Segments.{encode}
use Rattle.epath_sizes.specs.Lists.{segs_of}
use Rattle.epath_sizes.specs.declared.Path.{Path}
use Rattle.epath_sizes.proofs.PathLaws.{path_sized}
use Rattle.connection.specs.Limits.{max_path, max_record}
use Rattle.connection.specs.declared.UnconnectedSend.{UnconnectedSend}
use Rattle.connection_words.specs.Requests.{message_bytes, send_bytes}
use Rattle.route.specs.Routes.{route_size, Ready}
use Rattle.route.proofs.RouteLaws.{route_sized, Left, left}
use Rattle.request_sizes.specs.Sizes.{message_size, send_size}

-- ---- a record's size
module _ (head n : ℕ) (small : head ≤ 1000) where
  pub record_over : max_record - head < n → refused 3 ≡ within_limit max_record (head + n)
  record_over h = let g : max_record < head + n = omega arith in search rules

  pub record_is : n ≤ max_record - head → done (head + n) ≡ within_limit max_record (head + n)
  record_is h = let g : head + n ≤ max_record = omega arith in search rules

  pub record_head : head ≤ max_record
  record_head = omega arith

  pub record_fits : n ≤ max_record - head → Fits w64 (head + n)
  record_fits h = record { fits = omega arith }

pub ruleset record_laws = (record_over, record_is, record_head, record_fits)

-- ---- forwards: what the code's ends answer
module _ (pool : List ℕ) (p : Path) (r : Result ℕ Refusal) (is : paper r ≡ route_size pool p) where
  module _ (e : Refusal) (h : r ≡ Err e) where
    pub message_stops : (d : ℕ) → refused (number e) ≡ message_size pool p d
    unfolding message_size
    message_stops d = then_stops _ _ (number e) (sym is ∙ ap paper h)

    pub send_stops : (m : ℕ) → refused (number e) ≡ send_size pool p m
    unfolding send_size
    send_stops m = then_stops _ _ (number e) (sym is ∙ ap paper h)

  module _ (n : ℕ) (h : r ≡ Ok n) where
    short : n ≤ max_path
    short = (route_sized pool p n (sym is ∙ ap paper h)).short

    pub message_is : (d : ℕ) (q : Result ℕ Refusal) → paper q ≡ within_limit max_record (2 + n + d) → paper q ≡ message_size pool p d
    unfolding message_size
    message_is d q e = then_goes _ _ n _ (sym is ∙ ap paper h) e

    pub message_head : 2 + n ≤ 1000
    message_head = omega (arith, short)

    pub message_fits : Fits w64 (2 + n)
    message_fits = record { fits = omega (arith, short) }

    pub send_is : (m : ℕ) (q : Result ℕ Refusal) → paper q ≡ within_limit max_record (6 + n + m % 2 + m) → paper q ≡ send_size pool p m
    unfolding send_size
    send_is m q e = then_goes _ _ n _ (sym is ∙ ap paper h) e

    pub send_head_lem : (m : ℕ) → 6 + n + m % 2 ≤ 1000
    send_head_lem m = omega (arith, short)

    pub send_fits : Fits w64 (6 + n)
    send_fits = record { fits = omega (arith, short) }

    pub send_pad_fits : (m : ℕ) → Fits w64 (6 + n + m % 2)
    send_pad_fits m = record { fits = omega (arith, short) }

pub ruleset size_laws = (message_stops, message_is, message_head, message_fits, send_stops, send_is, send_head_lem, send_fits, send_pad_fits)

-- ---- backwards

-- a request that was sized and has its room: its path is ready to be written
module _ (pool : List ℕ) (p : Path) (r : Result ℕ Refusal) (size : ℕ) (h : r ≡ Ok size) where
  pub message_ready : (d : ℕ) (out : List ℕ) → paper r ≡ message_size pool p d → size ≤ length out → Ready pool p 2 out
  unfolding message_size
  message_ready d out is g =
      let w = left pool p _ size (sym is ∙ ap paper h) in
      record { size = w.n; is = w.is; short = w.short; room = omega (arith, (within_was _ _ size w.then).1) }

  module _ (m : ℕ) (is : paper r ≡ send_size pool p m) where
    sent : Left pool p (λ k. within_limit max_record (6 + k + m % 2 + m)) size
    unfolding send_size
    sent = left pool p _ size (sym is ∙ ap paper h)

    pub send_small : m ≤ max_record
    send_small = omega (arith, (within_was _ _ size sent.then).0)

    pub send_ready : (out : List ℕ) → size ≤ length out → Ready pool p (6 + m % 2 + m) out
    send_ready out g =
        record { size = sent.n; is = sent.is; short = sent.short; room = omega (arith, (within_was _ _ size sent.then).1) }

pub ruleset ready_laws = (message_ready, send_small, send_ready)

-- ---- a size is that of the bytes

module _ (pool : List ℕ) (p : Path) (r : Result ℕ Refusal) (size : ℕ) (h : r ≡ Ok size) where
  abbrev path : List ℕ
  path = encode (segs_of pool p)

  pub message_sized : (service : ℕ) (content : List ℕ) → paper r ≡ message_size pool p (length content) → size ≡ length (message_bytes service path content)
  unfolding message_size
  message_sized service content is =
      let w = left pool p _ size (sym is ∙ ap paper h) in
      omega (arith, (within_was _ _ size w.then).1, (path_sized pool p w.n w.is).size, message_length service path content)

  pub send_sized : (u : UnconnectedSend) (message : List ℕ) → paper r ≡ send_size pool p (length message) → size ≡ length (send_bytes u message path)
  send_sized u message is =
      let w = sent pool p r size h (length message) is in
      omega (arith, (within_was _ _ size w.then).1, (path_sized pool p w.n w.is).size, send_length u message path)

pub ruleset length_laws = (message_sized, send_sized)
