-- Each end of the reader of the first byte, and what follows a judgement of rules, as a law with plain conditions. Assumes nothing.
use Prim.Native.Nat.{ℕ, ◌≤◌, ◌<◌}
use mathlib.Core.Path.{◌≡◌, sym, ap, ◌∙◌}
use mathlib.Core.List.{List}
use native.Mathlib.Omega.{arith}
use lib.ListN.{length, get_or}
use Rattle.std.specs.Prelude.{Result, Ok, Err}
use Rattle.wire.specs.Answers.{paper}
use Rattle.wire.specs.Refusals.{number}
use Rattle.wire.specs.Answers.{Answer, done, refused, Rule, judged}
use Rattle.wire.specs.declared.Refusal.{Refusal}
use Rattle.wire.proofs.Rules.{rules, all_keep, all_were, same_refusal}
use Rattle.connection.specs.Limits.{max_record}
use Rattle.request_first.specs.Firsts.{most_ticks, first_rules, verdict}

-- ---- what a callee answered, and the question after it

-- rules that a function judged
module _ {A : Type 0} (rs : List Rule) (y : Answer A) (r : Result (Unit {0}) Refusal) (is : paper r ≡ verdict rs) where
  pub kept_stops : (e : Refusal) → r ≡ Err e → refused (number e) ≡ judged rs y
  kept_stops e h = sym (same_refusal rs tt y (number e) (sym is ∙ ap paper h))

  pub kept_goes : (z : Answer A) → r ≡ (Ok tt) → z ≡ y → z ≡ judged rs y
  kept_goes z h e = e ∙ sym (all_keep rs y (all_were _ _ tt (sym is ∙ ap paper h)).0)

-- ---- the first byte
module _ (s : List ℕ) where
  pub first_limit : max_record < length s → refused 3 ≡ verdict (first_rules s)
  first_limit h = search rules

  pub first_short : length s ≤ max_record → length s < 1 → refused 1 ≡ verdict (first_rules s)
  first_short h g = search rules

  module _ (b : ℕ) (is : b ≡ get_or s 0 0) (h : length s ≤ max_record) (g : 1 ≤ length s) where
    pub first_form : most_ticks < b → refused 5 ≡ verdict (first_rules s)
    first_form f = let k : most_ticks < get_or s 0 0 = omega arith in search rules

    pub first_kept : b ≤ most_ticks → done tt ≡ verdict (first_rules s)
    first_kept f = let k : get_or s 0 0 ≤ most_ticks = omega arith in search rules

pub ruleset first_laws = (first_limit, first_short, first_form, first_kept)
