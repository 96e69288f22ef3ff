-- Document 01's example, its rows and its text, computed. Assumes nothing.
use Prim.Native.Nat.{ℕ}
use mathlib.Core.Path.{◌≡◌, refl}
use mathlib.Core.List.{List, [], ◌∷◌}
use Rattle.wire.specs.Choice.{same_bytes}
use Rattle.wire.specs.Numbers.{value_of}
use Rattle.wire.specs.Answers.{done, breaks, judged}
use Rattle.epath_check.specs.Paths.{walk, check_path}
use Rattle.epath_segment.specs.Reads.{form_of, form_in, read_narrow, read_seg}
use Rattle.message_read.specs.Reads.{path_bytes, path_at, read_message}
use Rattle.body_read.specs.Reads.{read_body}
use Rattle.body_items.specs.Items.{items_of}
use Rattle.hex_digits.specs.Hex.{hex_digit}
use Rattle.nested.specs.Nested.{kind_of, held, in_order, message_by, listed, nested}
use Rattle.dump_text.specs.Text.{decimal_by, dump_text}

abbrev pub example : List ℕ
example = 0x0A ∷ 0x02 ∷ 0x20 ∷ 0x02 ∷ 0x24 ∷ 0x01 ∷ 0x02 ∷ 0x00 ∷ 0x06 ∷ 0x00 ∷ 0x0E ∷ 0x00 ∷ 0x0E ∷ 0x03 ∷ 0x20 ∷ 0x01 ∷ 0x24 ∷ 0x01 ∷ 0x30 ∷ 0x07 ∷ 0x0E ∷ 0x03 ∷ 0x20 ∷ 0x01 ∷ 0x24 ∷ 0x01 ∷ 0x30 ∷ 0x06 ∷ []

pub card_nested : nested example
    ≡ done (
    record { depth = 0; service = 0x0A; path_len = 4; data_len = 22 }
    ∷ record { depth = 1; service = 0x0E; path_len = 6; data_len = 0 }
    ∷ record { depth = 1; service = 0x0E; path_len = 6; data_len = 0 }
    ∷ []
    )
unfolding nested listed message_by in_order held kind_of same_bytes read_message path_bytes path_at check_path walk read_seg read_narrow form_of form_in read_body items_of judged breaks value_of
card_nested = refl

-- `0 0A 4 22`, `1 0E 6 0`, `1 0E 6 0`, each with a newline
pub card_dump : dump_text example
    ≡ 48 ∷ 32 ∷ 48 ∷ 65 ∷ 32 ∷ 52 ∷ 32 ∷ 50 ∷ 50 ∷ 10 ∷ 49 ∷ 32 ∷ 48 ∷ 69 ∷ 32 ∷ 54 ∷ 32 ∷ 48 ∷ 10 ∷ 49 ∷ 32 ∷ 48 ∷ 69 ∷ 32 ∷ 54 ∷ 32 ∷ 48 ∷ 10 ∷ []
unfolding dump_text decimal_by hex_digit
card_dump = rw card_nested
