-- A record with a written path in it: its size's ends, and what a size that was answered says of the path and of the rest. Assumes nothing.
use Prim.Native.Nat.{ℕ, ◌+◌, ◌-◌, ◌≤◌, ◌<◌}
use mathlib.Core.Path.{◌≡◌, sym, ap, ◌∙◌}
use mathlib.Core.List.{List}
use native.Mathlib.Omega.{arith}
use lib.ListN.{length}
use Rattle.std.specs.Prelude.{Result, Ok, Err}
use Rattle.wire.specs.Refusals.{number}
use Rattle.wire.specs.Answers.{Answer, done, refused, paper, within_limit}
use Rattle.wire.specs.declared.Refusal.{Refusal}
use Rattle.wire.proofs.Rules.{rules, within_was}
use Rattle.connection.specs.Limits.{max_path, max_record}
use Rattle.route_written.specs.Written.{written_route, over_size}
use Rattle.route_written.proofs.WrittenLaws.{over_stops, over_goes, over_short, Over, over_was}

-- ---- forwards: what the code's ends answer
module _ (path : List ℕ) (w : Result ℕ Refusal) (is : paper w ≡ written_route path) (head rest : ℕ) where
  abbrev sum : ℕ → Answer ℕ
  sum n = within_limit max_record (head + n + rest)

  pub record_stops : (e : Refusal) → w ≡ Err e → refused (number e) ≡ over_size path head rest
  unfolding over_size
  record_stops e h = over_stops path w is sum e h

  module _ (n : ℕ) (h : w ≡ Ok n) where
    short : n ≤ max_path
    short = over_short path w is n h

    goes : {z : Answer ℕ} → z ≡ sum n → z ≡ over_size path head rest
    unfolding over_size
    goes e = over_goes path w is n h sum e

    past : max_record < head + n + rest → refused 3 ≡ over_size path head rest
    past g = goes (search rules)

    -- the path alone is within the limit
    pub record_path : n ≤ max_record
    record_path = omega (arith, short)

    pub record_head : max_record - n < head → refused 3 ≡ over_size path head rest
    record_head g = past (omega (arith, short))

    pub record_rest : max_record - n - head < rest → refused 3 ≡ over_size path head rest
    record_rest g = past (omega (arith, short))

    pub record_is : head ≤ max_record - n → rest ≤ max_record - n - head → done (head + n + rest) ≡ over_size path head rest
    record_is f g = goes (let k : head + n + rest ≤ max_record = omega (arith, short) in search rules)

pub ruleset record_laws = (record_stops, record_path, record_head, record_rest, record_is)

-- ---- backwards: a size that was answered
module _ (path : List ℕ) (head rest : ℕ) (r : Result ℕ Refusal) (is : paper r ≡ over_size path head rest) (size : ℕ) (h : r ≡ Ok size) where
  was : Over path (λ n. within_limit max_record (head + n + rest)) size
  unfolding over_size
  was = over_was path (λ n. within_limit max_record (head + n + rest)) size (sym is ∙ ap paper h)

  pub over_path : length path ≤ max_path
  over_path = was.short

  pub over_rest : rest ≤ max_record
  over_rest = omega (arith, (within_was max_record (head + length path + rest) size was.then).0)

  pub over_sum : head + length path + rest ≡ size
  over_sum = (within_was max_record (head + length path + rest) size was.then).1
