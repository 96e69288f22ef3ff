-- The reader of the two-item envelope, executable: fields in wire order, the first broken rule refuses. CIP Volume 2, 2-6 (common packet format: an
-- item count, then items of type, length, bytes); rules and numbers from document 01, "Replies". Assumes nothing: these are definitions.
use Rattle.std.specs.Prelude.{ℕ, ◌+◌, ◌-◌, List, [], ◌∷◌, length, drop, eqb, Result, Ok, Err}
use Rattle.wire.specs.Choice.{pick}
use Rattle.wire.specs.Numbers.{value_of}
use Rattle.wire.specs.Refusals.{number}
use Rattle.wire.specs.Answers.{Answer, done, refused, and_then, Rule, under, over, other, judged}
use Rattle.wire.specs.declared.Refusal.{Refusal}
use Rattle.envelope.specs.declared.EnvelopeRead.{EnvelopeRead}
use Rattle.envelope.specs.declared.EnvelopeRead.TheVariants.{Unconnected, Connected}
use Rattle.envelope.specs.declared.Data.{Data}
use Rattle.envelope.specs.declared.ItemType.{ItemType}
use Rattle.envelope.specs.declared.ItemType.TheVariants.{NullAddress, ConnectedAddress, ConnectedData, UnconnectedData}

-- item types
abbrev pub null_address : ℕ
null_address = 0

abbrev pub connected_address : ℕ
connected_address = 0xA1

abbrev pub connected_data : ℕ
connected_data = 0xB1

abbrev pub unconnected_data : ℕ
unconnected_data = 0xB2

-- the same as the code names them
abbrev pub item_number : ItemType → ℕ
item_number NullAddress = null_address
item_number ConnectedAddress = connected_address
item_number ConnectedData = connected_data
item_number UnconnectedData = unconnected_data

-- what an envelope holds: start and length of its data, and of connected data the count before it
pub data Held : Type 0 where
  unconnected : ℕ → ℕ → Held
  connected : ℕ → ℕ → ℕ → Held

-- an item of a type, from a place on: how many bytes it has. The length is free
abbrev pub item_rules : ℕ → List ℕ → ℕ → List Rule
item_rules kind s at =
    under (length s) (at + 2) 1
    ∷ other (value_of 2 (drop at s)) kind 10
    ∷ under (length s) (at + 4) 1
    ∷ under (length s) (at + 4 + value_of 2 (drop (at + 2) s)) 1
    ∷ []

unfoldable pub item_length : ℕ → List ℕ → ℕ → Answer ℕ
item_length kind s at = judged (item_rules kind s at) (done (value_of 2 (drop (at + 2) s)))

-- an address item of a type, behind it an item of another, and then what there is to say of their a and n bytes
unfoldable pub items_at : ℕ → ℕ → (ℕ → ℕ → Answer Held) → List ℕ → Answer Held
items_at address kind f s = and_then (item_length address s 2) (λ a. and_then (item_length kind s (6 + a)) (λ n. f a n))

-- the two items alone: where the data starts, and how much there is
unfoldable pub data_at : ℕ → ℕ → List ℕ → Answer Data
data_at address kind s =
    and_then (item_length address s 2) (λ a. and_then (item_length kind s (6 + a)) (λ n. done (record { start = 10 + a; len = n })))

-- a null address, and data
abbrev pub unconnected_at : List ℕ → Answer Held
unconnected_at s = items_at null_address unconnected_data (λ a n. judged (over (length s) (10 + a + n) 8 ∷ []) (done (unconnected (10 + a) n))) s

-- a connected address, and data behind its 16-bit count
abbrev pub connected_at : List ℕ → Answer Held
connected_at s =
    items_at connected_address connected_data (λ a n.
    judged (under n 2 1 ∷ over (length s) (10 + a + n) 8 ∷ []) (done (connected (value_of 2 (drop (10 + a) s)) (10 + a + 2) (n - 2)))) s

-- two items, and the first one's type says which form
abbrev pub count_rules : List ℕ → List Rule
count_rules s = under (length s) 2 1 ∷ other (value_of 2 (drop 0 s)) 2 10 ∷ under (length s) 4 1 ∷ []

unfoldable pub read_envelope : List ℕ → Answer Held
read_envelope s = judged (count_rules s) (pick (eqb (value_of 2 (drop 2 s)) connected_address) (connected_at s) (unconnected_at s))

-- ---- what the functions answer

abbrev pub paper_envelope : Result EnvelopeRead Refusal → Answer Held
paper_envelope (Ok (Unconnected start len)) = done (unconnected start len)
paper_envelope (Ok (Connected count start len)) = done (connected count start len)
paper_envelope (Err e) = refused (number e)
