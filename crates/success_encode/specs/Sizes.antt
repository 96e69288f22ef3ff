-- What the writers answer before room is judged. Document 01, "Refusal numbers" and "Numbers that bound it".
-- Assumes nothing: these are definitions.
use Rattle.std.specs.Prelude.{ℕ, ◌+◌, ◌%◌, List, [], ◌∷◌, length}
use Rattle.wire.specs.Answers.{Answer, done, Rule, over, other, judged}
use Rattle.connection.specs.Limits.{max_app_data}

-- what stands before the application data, header included
abbrev pub open_success_base : ℕ
open_success_base = 30

abbrev pub close_success_base : ℕ
close_success_base = 14

-- application data over its limit is 3, odd application data 5
abbrev pub app_rules : List ℕ → List Rule
app_rules app = over (length app) max_app_data 3 ∷ other (length app % 2) 0 5 ∷ []

unfoldable pub success_size : ℕ → List ℕ → Answer ℕ
success_size base app = judged (app_rules app) (done (base + length app))
