-- An item of a body as two numbers, for C. Assumes nothing: these are definitions.
use Rattle.std.specs.Prelude.{ℕ, List, [], ◌∷◌}
use Rattle.wire.specs.Answers.{Answer}
use Rattle.body_items.specs.declared.Item.{Item}
use Rattle.c_answers.specs.Codes.{run_of}

abbrev pub item_numbers : Item → List ℕ
item_numbers i = i.start ∷ i.len ∷ []

abbrev pub item_run : Answer Item → Answer (List ℕ)
item_run a = run_of item_numbers a
