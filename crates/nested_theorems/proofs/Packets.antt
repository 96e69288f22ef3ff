-- What was written reads back: a packet that is written around messages lists them, and so does an Unconnected Send around one. Assumes nothing.
use Prim.Native.Nat.{ℕ, suc, ◌+◌, ◌-◌, ◌≤◌}
use mathlib.Core.Path.{◌≡◌, refl, ap}
use mathlib.Core.List.{List, [], ◌∷◌}
use native.Mathlib.Omega.{arith}
use lib.ListN.{length}
use Rattle.wire.specs.Parts.{part}
use Rattle.wire.specs.Answers.{breaks, judged}
use Rattle.epath_check.specs.Paths.{walk, check_path}
use Rattle.epath_segment.specs.Reads.{form_of, form_in, read_narrow, read_seg}
use Rattle.connection.specs.Limits.{max_record}
use Rattle.connection.specs.declared.UnconnectedSend.{UnconnectedSend}
use Rattle.connection_words.specs.Requests.{message_bytes, send_bytes}
use Rattle.connection_words.proofs.Lengths.{send_length}
use Rattle.request_theorems.proofs.Routes.{Route}
use Rattle.request_theorems.proofs.RoundTrip.{message_parts, MessageBack, message_read_of_written, SendFits, SendBack, send_read_of_written}
use Rattle.body_sizes.specs.Bodies.{body_of}
use Rattle.body_theorems.proofs.Written.{Filled, read_of_written, items_of_body}
use Rattle.nested.specs.declared.kinds.Kind.TheVariants.{Packet, Send}
use Rattle.nested.specs.Nested.{max_depth, packet_service, message_router, send_service, connection_manager, path_to, kind_of, held, row_of, onto, in_order, message_by, listed}
use Rattle.nested.proofs.Order.{in_order_one}
use Rattle.nested_theorems.proofs.Nesting.{opens_packet, opens_send}

-- the two paths are paths
route_to_router : Route (path_to message_router)
unfolding check_path walk read_seg read_narrow form_of form_in judged breaks
route_to_router = record { count = 2; is = refl; short = omega arith; even = refl }

route_to_manager : Route (path_to connection_manager)
unfolding check_path walk read_seg read_narrow form_of form_in judged breaks
route_to_manager = record { count = 2; is = refl; short = omega arith; even = refl }

-- ---- a packet around messages: its own row, then theirs
pub packet_of : List (List ℕ) → List ℕ
packet_of xs = message_bytes packet_service (path_to message_router) (body_of xs)

pub packet_reads_back : (left : ℕ) (xs : List (List ℕ)) → Filled xs → 6 + length (body_of xs) ≤ max_record
    → listed (suc left) (packet_of xs) ≡ onto (row_of (max_depth - left) (message_parts packet_service (path_to message_router) (body_of xs)) ∷ []) (in_order (listed left) xs)
unfolding packet_of listed message_by held
packet_reads_back left xs f small =
    let b : MessageBack packet_service (path_to message_router) (body_of xs) = message_read_of_written packet_service (path_to message_router) (body_of xs) route_to_router small in
    let k : kind_of packet_service (part (message_bytes packet_service (path_to message_router) (body_of xs)) 2 4) ≡ Packet = opens_packet _ _ (record { service_is = refl; path_is = b.path_is }) in
    rw (b.read, k, b.data_is, read_of_written xs f (omega arith), items_of_body xs f (omega arith))

-- ---- an Unconnected Send around a message: its own row, then the message's
pub send_of : UnconnectedSend → List ℕ → List ℕ → List ℕ
send_of u message route = message_bytes send_service (path_to connection_manager) (send_bytes u message route)

pub send_reads_back : (left : ℕ) (u : UnconnectedSend) (message route : List ℕ) → SendFits u → Route route → 6 + length (send_bytes u message route) ≤ max_record
    → listed (suc left) (send_of u message route) ≡ onto (row_of (max_depth - left) (message_parts send_service (path_to connection_manager) (send_bytes u message route)) ∷ []) (listed left message)
unfolding send_of listed message_by held
send_reads_back left u message route f r small =
    let t : List ℕ = send_bytes u message route in
    let b : MessageBack send_service (path_to connection_manager) t = message_read_of_written send_service (path_to connection_manager) t route_to_manager small in
    let k : kind_of send_service (part (message_bytes send_service (path_to connection_manager) (send_bytes u message route)) 2 4) ≡ Send = opens_send _ _ (record { service_is = refl; path_is = b.path_is }) in
    let w : SendBack u message route = send_read_of_written u message route f r (omega (arith, send_length u message route)) in
    rw (b.read, k, b.data_is, w.read, w.message_is) (ap (onto (row_of (max_depth - left) (message_parts send_service (path_to connection_manager) t) ∷ [])) (in_order_one (λ x. listed left x) message))
