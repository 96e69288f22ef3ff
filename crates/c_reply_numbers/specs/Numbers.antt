-- A reply's header as a run of numbers, at the places of include/barkcushion.h. Assumes nothing: these are definitions.
use Rattle.std.specs.Prelude.{ℕ, List, [], ◌∷◌}
use Rattle.std.specs.Prelude.{Option, Some, None}
use Rattle.wire.specs.Answers.{Answer}
use Rattle.reply_header.specs.declared.MessageReply.{MessageReply}
use Rattle.c_answers.specs.Codes.{run_of}

-- words of extended status
abbrev pub extended_words : Option ℕ → ℕ
extended_words None = 0
extended_words (Some w) = 1

-- that word, 0 if there is none
abbrev pub extended_word : Option ℕ → ℕ
extended_word None = 0
extended_word (Some w) = w

-- service, general status, words of extended status and that word, start and length of the data
abbrev pub reply_numbers : MessageReply → List ℕ
reply_numbers m =
    m.reply_service
    ∷ m.status.general
    ∷ extended_words m.status.extended
    ∷ extended_word m.status.extended
    ∷ m.data_start
    ∷ m.data_len
    ∷ []

-- what was read of a header, as those numbers
abbrev pub reply_run : Answer MessageReply → Answer (List ℕ)
reply_run a = run_of reply_numbers a
