-- Document 01's cards on bodies, computed. Assumes nothing.
use Prim.Native.Nat.{ℕ}
use mathlib.Core.Path.{◌≡◌, refl}
use mathlib.Core.List.{List, [], ◌∷◌}
use Rattle.std.specs.Prelude.{None}
use Rattle.wire.specs.Numbers.{value_of}
use Rattle.wire.specs.Answers.{done, refused, breaks, judged}
use Rattle.reply_header.specs.Headers.{read_header}
use Rattle.body_read.specs.Reads.{read_body}
use Rattle.body_items.specs.Items.{body_item}
use Rattle.body_replies.specs.Replies.{body_reply}
use Rattle.body_theorems.proofs.Replies.{tells}

-- an item with two words of extended status before one that is read
abbrev pub two_words : List ℕ
two_words = 2 ∷ 0 ∷ 6 ∷ 0 ∷ 0xE ∷ 0 ∷ 0x8E ∷ 0 ∷ 1 ∷ 2 ∷ 0 ∷ 0 ∷ 0 ∷ 0 ∷ 0x8E ∷ 0 ∷ 0 ∷ 0 ∷ 0 ∷ 0 ∷ 0x48 ∷ 0x42 ∷ []

pub card_two_words_first : body_reply two_words 0 ≡ refused 6
unfolding body_item read_body read_header judged breaks value_of
card_two_words_first = refl

pub card_two_words_second : tells two_words (body_reply two_words 1)
    ≡ done (record { service = 0x8E; status = record { general = 0; extended = None }; bytes = 0 ∷ 0 ∷ 0x48 ∷ 0x42 ∷ [] })
unfolding body_item read_body read_header judged breaks value_of
card_two_words_second = refl
