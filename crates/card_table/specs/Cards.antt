-- Document 01's bench cards, those that it marks *, in one table: what is asked, and the answer. Bytes in hex, as the card has them.
-- Assumes nothing: these are definitions.
use Rattle.std.specs.Prelude.{ℕ, List, [], ◌∷◌, Bool, false, length, eqb}
use Rattle.std.specs.Prelude.{Option, Some, None}
use Rattle.wire.specs.Choice.{same_bytes}
use Rattle.wire.specs.Answers.{Answer, done, refused, and_then}
use Rattle.epath_sizes.specs.Segments.{encode_seg}
use Rattle.epath_sizes.specs.Lists.{meaning}
use Rattle.epath_sizes.specs.Sizes.{segment_size}
use Rattle.epath_sizes.specs.declared.Segment.{Segment}
use Rattle.epath_sizes.specs.declared.Segment.TheVariants.{Symbol, Element, Port}
use Rattle.epath_check.specs.Paths.{check_path}
use Rattle.reply_header.specs.Headers.{read_header}
use Rattle.body_join.specs.Joins.{join_of, join_size}

-- ---- what a card asks

pub data Asked : Type 0 where
  -- a segment over a pool, written
  write : List ℕ → Segment → Asked
  -- a path, read
  read : List ℕ → Asked
  -- a reply's header, read
  reply : List ℕ → Asked
  -- two bodies, joined
  join : List ℕ → List ℕ → Asked

abbrev pub extended_list : Option ℕ → List ℕ
extended_list None = []
extended_list (Some w) = w ∷ []

-- what the promises say: the bytes; of a path how many segments it has; of a reply its words of extended status. Or the refusal
abbrev pub promised : Asked → Answer (List ℕ)
promised (write pool x) = and_then (segment_size pool x) (λ _. done (encode_seg (meaning pool x)))
promised (read s) = and_then (check_path s) (λ n. done (n ∷ []))
promised (reply s) = and_then (read_header s) (λ m. done (extended_list m.status.extended))
promised (join a b) = and_then (join_size a b) (λ _. done (join_of a b))

-- ---- the table

pub record Card : Type 0 where
  pub asked : Asked
  pub answer : Answer (List ℕ)

-- a port and its link, an element, a symbol: the bytes that are written
abbrev port_card : ℕ → List ℕ → List ℕ → Card
port_card p link bytes = record { asked = write link (Port (record { port = p; start = 0; len = length link })); answer = done bytes }

abbrev element_card : ℕ → List ℕ → Card
element_card v bytes = record { asked = write [] (Element v); answer = done bytes }

abbrev symbol_card : List ℕ → List ℕ → Card
symbol_card name bytes = record { asked = write name (Symbol (record { start = 0; len = length name })); answer = done bytes }

abbrev pub cards : List Card
cards =
    port_card 14 (5 ∷ []) (0x0E ∷ 0x05 ∷ [])
    ∷ port_card 15 (5 ∷ []) (0x0F ∷ 0x00 ∷ 0x0F ∷ 0x05 ∷ [])
    ∷ port_card 1 [] (0x01 ∷ 0x00 ∷ [])
    ∷ port_card 1 (0 ∷ []) (0x01 ∷ 0x00 ∷ [])
    ∷ port_card 2 (0x31 ∷ 0x30 ∷ 0x2E ∷ 0x30 ∷ 0x2E ∷ 0x30 ∷ 0x2E ∷ 0x37 ∷ []) (0x12 ∷ 0x08 ∷ 0x31 ∷ 0x30 ∷ 0x2E ∷ 0x30 ∷ 0x2E ∷ 0x30 ∷ 0x2E ∷ 0x37 ∷ [])
    ∷ element_card 255 (0x28 ∷ 0xFF ∷ [])
    ∷ element_card 256 (0x29 ∷ 0x00 ∷ 0x00 ∷ 0x01 ∷ [])
    ∷ element_card 65535 (0x29 ∷ 0x00 ∷ 0xFF ∷ 0xFF ∷ [])
    ∷ element_card 65536 (0x2A ∷ 0x00 ∷ 0x00 ∷ 0x00 ∷ 0x01 ∷ 0x00 ∷ [])
    ∷ symbol_card (0x46 ∷ 0x6C ∷ 0x6F ∷ 0x77 ∷ 0x31 ∷ []) (0x91 ∷ 0x05 ∷ 0x46 ∷ 0x6C ∷ 0x6F ∷ 0x77 ∷ 0x31 ∷ 0x00 ∷ [])
    ∷ record { asked = read (0x21 ∷ 0x00 ∷ 0x05 ∷ 0x00 ∷ []); answer = refused 5 }
    ∷ record { asked = reply (0x8E ∷ 0x00 ∷ 0x08 ∷ 0x01 ∷ 0x03 ∷ 0x00 ∷ []); answer = done (3 ∷ []) }
    ∷ record { asked = reply (0x8E ∷ 0x00 ∷ 0x08 ∷ 0x01 ∷ 0x03 ∷ []); answer = refused 1 }
    ∷ record {
      asked = join (0x01 ∷ 0x00 ∷ 0x04 ∷ 0x00 ∷ 0xAA ∷ []) (0x01 ∷ 0x00 ∷ 0x04 ∷ 0x00 ∷ 0xBB ∷ 0xCC ∷ []);
      answer = done (0x02 ∷ 0x00 ∷ 0x06 ∷ 0x00 ∷ 0x07 ∷ 0x00 ∷ 0xAA ∷ 0xBB ∷ 0xCC ∷ []);
    }
    ∷ []

-- ---- the test, computed

abbrev pub same_answer : Answer (List ℕ) → Answer (List ℕ) → Bool
same_answer (done a) (done b) = same_bytes a b
same_answer (done a) (refused k) = false
same_answer (refused k) (done b) = false
same_answer (refused k) (refused l) = eqb k l

-- the promises say what the card has
abbrev pub right : Card → Bool
right c = same_answer (promised c.asked) c.answer
