-- What a message holds, and what that holds. CIP Volume 1: a message, 2-4.1; Multiple_Service_Packet, service 0A of the Message Router (class 2),
-- Appendix A-4.10; Unconnected_Send, service 52 of the Connection Manager (class 6), 3-5.5.4. Rules and numbers from document 01, "Nesting and the
-- dump". Assumes nothing: these are definitions.
use Rattle.std.specs.Prelude.{ℕ, zero, suc, ◌+◌, ◌*◌, ◌-◌, ◌≡◌, List, [], ◌∷◌, ◌++◌, length, eqb}
use Rattle.std.proofs.lemmas.List.Edits.{sets}
use Rattle.std.specs.Prelude.{Result}
use Rattle.wire.specs.declared.Refusal.{Refusal}
use Rattle.wire.specs.Choice.{pick, same_bytes}
use Rattle.wire.specs.Parts.{part}
use Rattle.wire.specs.Folds.{joined}
use Rattle.wire.specs.Answers.{Answer, done, refused, and_then, under, judged, paper, written}
use Rattle.epath_sizes.specs.Segments.{class, instance, encode}
use Rattle.message_read.specs.declared.MessageRequest.{MessageRequest}
use Rattle.message_read.specs.Reads.{read_message}
use Rattle.send_read.specs.Reads.{Sent, sent, read_send}
use Rattle.body_read.specs.Reads.{read_body}
use Rattle.body_items.specs.Items.{items_of}
use Rattle.nested.specs.declared.kinds.Kind.{Kind}
use Rattle.nested.specs.declared.kinds.Kind.TheVariants.{Plain, Packet, Send}

-- how deep a message may stand; the outermost has depth 0
abbrev pub max_depth : ℕ
max_depth = 3

-- the outermost message's own level, and those below it
abbrev pub levels : ℕ
levels = max_depth + 1

-- ---- what a message opens

-- Multiple_Service_Packet, and the class that it is a service of
abbrev pub packet_service : ℕ
packet_service = 0x0A

abbrev pub message_router : ℕ
message_router = 2

-- Unconnected_Send, and the class that it is a service of
abbrev pub send_service : ℕ
send_service = 0x52

abbrev pub connection_manager : ℕ
connection_manager = 6

-- just this class, instance 1
abbrev pub path_to : ℕ → List ℕ
path_to c = encode (class c ∷ instance 1 ∷ [])

unfoldable pub kind_of : ℕ → List ℕ → Kind
kind_of service path =
    pick (eqb service packet_service) (pick (same_bytes path (path_to message_router)) Packet Plain)
    (pick (eqb service send_service) (pick (same_bytes path (path_to connection_manager)) Send Plain) Plain)

-- what a message that was read from s opens
abbrev pub opens_as : List ℕ → MessageRequest → Kind
opens_as s m = kind_of m.service_code (part s m.path_start m.path_len)

abbrev pub message_in : List ℕ → Sent → List ℕ
message_in t (sent u from m start len) = part t from m

-- the messages that are held in data of this kind, which is judged whole
unfoldable pub held : Kind → List ℕ → Answer (List (List ℕ))
held Plain t = done []
held Packet t = and_then (read_body t) (λ n. done (items_of t))
held Send t = and_then (read_send t) (λ u. done (message_in t u ∷ []))

-- ---- what is read of a message, and of those that it holds

pub record Row : Type 0 where
  pub depth : ℕ
  pub service : ℕ
  pub path_len : ℕ
  pub data_len : ℕ

abbrev pub row_of : ℕ → MessageRequest → Row
row_of d m = record { depth = d; service = m.service_code; path_len = m.path_len; data_len = m.data_len }

-- rows before those of an answer
abbrev pub onto : List Row → Answer (List Row) → Answer (List Row)
onto rs w = and_then w (λ more. done (rs ++ more))

-- messages in order, each read by f
unfoldable pub in_order : (List ℕ → Answer (List Row)) → List (List ℕ) → Answer (List Row)
in_order f [] = done []
in_order f (x ∷ xs) = and_then (f x) (λ rs. onto rs (in_order f xs))

-- a message at a depth, followed at once by those that it holds, each read by f
unfoldable pub message_by : (List ℕ → Answer (List Row)) → ℕ → List ℕ → Answer (List Row)
message_by f d s =
    and_then (read_message s) (λ m.
    onto (row_of d m ∷ [])
    (and_then (held (opens_as s m) (part s m.data_start m.data_len)) (in_order f)))

-- a message, where so many levels may be read, its own the first of them
unfoldable pub listed : ℕ → List ℕ → Answer (List Row)
listed zero s = refused 9
listed (suc left) s = message_by (λ x. listed left x) (max_depth - left) s

-- the outermost
unfoldable pub nested : List ℕ → Answer (List Row)
nested s = listed levels s

-- bytes that a held message takes at least: an offset, and its service and path size
abbrev pub row_bytes : ℕ
row_bytes = 4

-- so no message has more rows (theorem `most_rows`)
abbrev pub max_rows : ℕ
max_rows = 16384

-- ---- what the functions answer and store

-- a row in a run of numbers: so many, in this order
abbrev pub row_size : ℕ
row_size = 4

abbrev pub row_values : Row → List ℕ
row_values r = r.depth ∷ r.service ∷ r.path_len ∷ r.data_len ∷ []

abbrev pub values_in : Answer (List Row) → List ℕ
values_in (done rs) = joined row_values rs
values_in (refused k) = []

-- how many messages there are, where the lent run has a place for each number (2)
unfoldable pub counted : Answer (List Row) → ℕ → Answer ℕ
counted w room = and_then w (λ rs. judged (under room (row_size * length rs) 2 ∷ []) (done (length rs)))

-- what the lent run holds then
unfoldable pub stored_rows : Answer (List Row) → List ℕ → List ℕ
stored_rows w old = written (counted w (length old)) (values_in w) old

-- ---- what a walk leaves: from row `at` on, as far as they fit, the rows that are in w

unfoldable pub held_rows : Kind → ℕ → List ℕ → Answer (List Row)
held_rows k left t = and_then (held k t) (in_order (λ x. listed left x))

abbrev pub ends_at : ℕ → Answer (List Row) → Answer ℕ
ends_at at (done rs) = done (at + length rs)
ends_at at (refused k) = refused k

pub record Walked (w : Answer (List Row)) (at : ℕ) (r : Result ℕ Refusal) (l l' : List ℕ) : Type 0 where
  pub says : paper r ≡ ends_at at w
  pub holds : (rs : List Row) → w ≡ done rs → l' ≡ sets l (row_size * at) (joined row_values rs)
