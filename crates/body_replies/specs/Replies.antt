-- The replies in a body. CIP Volume 1, Appendix A-4.10 (Multiple_Service_Packet): each item of a response is a message router response (2-4.2);
-- document 01, "Bodies" and "Replies". Assumes nothing: these are definitions.
use Rattle.std.specs.Prelude.{ℕ, ◌+◌, List}
use Rattle.wire.specs.Answers.{Answer, done, and_then}
use Rattle.reply_header.specs.Headers.{read_header}
use Rattle.reply_header.specs.declared.MessageReply.{MessageReply}
use Rattle.body_items.specs.declared.Item.{Item}
use Rattle.body_items.specs.Items.{bytes_in, walk_item, body_item}

-- a reply that was read from a place on, with its data counted from before that place
abbrev pub shifted_reply : ℕ → MessageReply → MessageReply
shifted_reply at m = record { reply_service = m.reply_service; status = m.status; data_start = at + m.data_start; data_len = m.data_len }

-- the header of exactly that item's bytes
abbrev pub reply_in : List ℕ → Item → Answer MessageReply
reply_in s i = and_then (read_header (bytes_in s i)) (λ m. done (shifted_reply i.start m))

abbrev pub body_reply : List ℕ → ℕ → Answer MessageReply
body_reply s k = and_then (body_item s k) (reply_in s)

abbrev pub walk_reply : List ℕ → ℕ → ℕ → Answer MessageReply
walk_reply s n k = and_then (walk_item s n k) (reply_in s)
