-- The sizes' ends, and what a size that was answered says of the reply. Assumes nothing.
use Prim.Native.Nat.{ℕ, ◌+◌, ◌%◌, ◌≤◌, ◌<◌}
use mathlib.Core.Path.{◌≡◌, sym, ap, ◌∙◌}
use mathlib.Core.List.{List}
use lib.ListN.{length}
use Rattle.std.specs.Prelude.{Result, Ok}
use Rattle.wire.specs.Answers.{done, refused, paper, KeepsAll}
use Rattle.wire.specs.declared.Refusal.{Refusal}
use Rattle.wire.proofs.Rules.{rules, all_were}
use Rattle.connection.specs.Limits.{max_app_data}
use Rattle.connection.specs.declared.ForwardOpenSuccess.{ForwardOpenSuccess}
use Rattle.connection.specs.declared.ForwardCloseSuccess.{ForwardCloseSuccess}
use Rattle.success_encode.specs.Replies.{open_reply_bytes, close_reply_bytes}
use Rattle.success_encode.specs.Sizes.{open_success_base, close_success_base, app_rules, success_size}
use Rattle.success_encode.proofs.Lengths.{open_reply_length, close_reply_length}

-- ---- forwards: what the code's ends answer
module _ (base : ℕ) (app : List ℕ) where
  pub app_over : max_app_data < length app → refused 3 ≡ success_size base app
  unfolding success_size
  app_over h = search rules

  module _ (h : length app ≤ max_app_data) where
    pub app_odd : (length app % 2 ≡ 0 → ⊥) → refused 5 ≡ success_size base app
    unfolding success_size
    app_odd g = search rules

    pub app_is : length app % 2 ≡ 0 → done (base + length app) ≡ success_size base app
    unfolding success_size
    app_is g = search rules

pub ruleset app_laws = (app_over, app_odd, app_is)

-- ---- backwards: a size that was answered
module _ (r : Result ℕ Refusal) (size : ℕ) (h : r ≡ Ok size) where
  module _ (base : ℕ) (app : List ℕ) (is : paper r ≡ success_size base app) where
    were : KeepsAll (app_rules app) × (done (base + length app) ≡ done size)
    unfolding success_size
    were = all_were (app_rules app) (done (base + length app)) size (sym is ∙ ap paper h)

    pub app_small : length app ≤ max_app_data
    app_small = were.0.0

    sum : size ≡ base + length app
    sum = let e : done (base + length app) ≡ done size = were.1 in cc

  pub open_sized : (service : ℕ) (o : ForwardOpenSuccess) (app : List ℕ) → paper r ≡ success_size open_success_base app → size ≡ length (open_reply_bytes service o app)
  open_sized service o app is = sum open_success_base app is ∙ sym (open_reply_length service o app)

  pub close_sized : (service : ℕ) (c : ForwardCloseSuccess) (app : List ℕ) → paper r ≡ success_size close_success_base app → size ≡ length (close_reply_bytes service c app)
  close_sized service c app is = sum close_success_base app is ∙ sym (close_reply_length service c app)

pub ruleset sized_laws = (app_small, open_sized, close_sized)
