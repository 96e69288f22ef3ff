-- Nested reading: what is opened, in what order rows stand, how deep, how many. Assumes nothing.
use Prim.Native.Nat.{ℕ, zero, suc, ◌*◌, ◌-◌, ◌≤◌}
use mathlib.Core.Path.{◌≡◌, refl, sym, ap, ◌∙◌}
use mathlib.Core.List.{List, [], ◌∷◌, ◌++◌}
use mathlib.Core.Bool.{Bool, true, false}
use native.Mathlib.Omega.{arith}
use lib.ListN.{length}
use lib.Dec.{eqb}
use borrow.Author.Tests.{eqb-true}
use Rattle.wire.specs.Choice.{pick, same_bytes}
use Rattle.wire.specs.Parts.{part}
use Rattle.wire.specs.Answers.{Answer, done, refused, and_then}
use Rattle.wire.proofs.Rules.{never}
use Rattle.wire.proofs.Choice.{same_true}
use Rattle.message_read.specs.declared.MessageRequest.{MessageRequest}
use Rattle.message_read.specs.Reads.{read_message}
use Rattle.body_read.specs.Reads.{read_body}
use Rattle.body_items.specs.Items.{items_of}
use Rattle.nested.specs.declared.kinds.Kind.{Kind}
use Rattle.nested.specs.declared.kinds.Kind.TheVariants.{Plain, Packet, Send}
use Rattle.nested.specs.Nested.{max_depth, levels, packet_service, message_router, send_service, connection_manager, path_to, kind_of, opens_as, held, Row, row_of, onto, in_order, message_by, listed, nested, max_rows, row_size, counted}
use Rattle.nested.proofs.Order.{onto_none, onto_onto, Apart, apart, OneLevel, one_level}
use Rattle.nested.proofs.RowLaws.{counted_fits}
use Rattle.nested.proofs.Few.{most_rows}

-- ---- by the levels that are left

-- about to read a fifth level, depth 4, is 9
pub too_deep : (s : List ℕ) → listed 0 s ≡ refused 9
unfolding listed
too_deep s = refl

-- what a message holds has one level less, and stands one deeper
pub level_falls : (left : ℕ) (s : List ℕ) → listed (suc left) s ≡ message_by (listed left) (max_depth - left) s
unfolding listed
level_falls left s = refl

-- ---- what is opened: exactly service 0A to just class 2 instance 1, and service 52 to just class 6 instance 1

pub record To (service : ℕ) (path : List ℕ) (s : ℕ) (p : List ℕ) : Type 0 where
  pub service_is : s ≡ service
  pub path_is : p ≡ path

pub opens_packet : (s : ℕ) (p : List ℕ) → To packet_service (path_to message_router) s p → kind_of s p ≡ Packet
unfolding kind_of same_bytes
opens_packet s p t = rw (t.service_is, t.path_is)

pub opens_send : (s : ℕ) (p : List ℕ) → To send_service (path_to connection_manager) s p → kind_of s p ≡ Send
unfolding kind_of same_bytes
opens_send s p t = rw (t.service_is, t.path_is)

other : {B : Type 0} {a b : Kind} → a ≡ b → (a ≡ b → ◌≡◌ {A = ℕ} 0 1) → B
other e f = absurd (let z = f e in omega arith)

chosen : Bool → Bool → Bool → Bool → Kind
chosen a b c d = pick a (pick b Packet Plain) (pick c (pick d Send Plain) Plain)

packet_chosen : (a b c d : Bool) → chosen a b c d ≡ Packet → (a ≡ true) × (b ≡ true)
unfolding chosen
packet_chosen true true c d h = (refl, refl)
packet_chosen true false c d h = other h (λ e. cc)
packet_chosen false b true true h = other h (λ e. cc)
packet_chosen false b true false h = other h (λ e. cc)
packet_chosen false b false d h = other h (λ e. cc)

send_chosen : (a b c d : Bool) → chosen a b c d ≡ Send → (c ≡ true) × (d ≡ true)
unfolding chosen
send_chosen true true c d h = other h (λ e. cc)
send_chosen true false c d h = other h (λ e. cc)
send_chosen false b true true h = (refl, refl)
send_chosen false b true false h = other h (λ e. cc)
send_chosen false b false d h = other h (λ e. cc)

module _ (s : ℕ) (p : List ℕ) where
  by_tests : kind_of s p ≡ chosen (eqb s packet_service) (same_bytes p (path_to message_router)) (eqb s send_service) (same_bytes p (path_to connection_manager))
  unfolding kind_of chosen
  by_tests = refl

  pub packet_opened : kind_of s p ≡ Packet → To packet_service (path_to message_router) s p
  packet_opened h =
      let w = packet_chosen (eqb s packet_service) (same_bytes p (path_to message_router)) (eqb s send_service) (same_bytes p (path_to connection_manager)) (sym by_tests ∙ h) in
      record { service_is = eqb-true s packet_service w.0; path_is = same_true p (path_to message_router) w.1 }

  pub send_opened : kind_of s p ≡ Send → To send_service (path_to connection_manager) s p
  send_opened h =
      let w = send_chosen (eqb s packet_service) (same_bytes p (path_to message_router)) (eqb s send_service) (same_bytes p (path_to connection_manager)) (sym by_tests ∙ h) in
      record { service_is = eqb-true s send_service w.0; path_is = same_true p (path_to connection_manager) w.1 }

-- ---- rows

-- a message that opens nothing is one row
pub plain_one : (left : ℕ) (s : List ℕ) (m : MessageRequest) → read_message s ≡ done m → opens_as s m ≡ Plain → listed (suc left) s ≡ done (row_of (max_depth - left) m ∷ [])
unfolding listed message_by held in_order
plain_one left s m r k = rw (r, k)

-- a packet: its own row, then those of its items in order
pub packet_rows : (left : ℕ) (s : List ℕ) (m : MessageRequest) (n : ℕ) → read_message s ≡ done m → opens_as s m ≡ Packet → read_body (part s m.data_start m.data_len) ≡ done n
    → listed (suc left) s ≡ onto (row_of (max_depth - left) m ∷ []) (in_order (listed left) (items_of (part s m.data_start m.data_len)))
unfolding listed message_by held
packet_rows left s m n r k b = rw (r, k, b)

-- so an empty one is one row, also where nothing more may be read
pub empty_packet : (left : ℕ) (s : List ℕ) (m : MessageRequest) → read_message s ≡ done m → opens_as s m ≡ Packet → held Packet (part s m.data_start m.data_len) ≡ done []
    → listed (suc left) s ≡ done (row_of (max_depth - left) m ∷ [])
unfolding listed message_by in_order
empty_packet left s m r k b = rw (r, k, b)

-- a body or an Unconnected Send that is refused is refused before anything in it
pub whole_first : (left : ℕ) (s : List ℕ) (m : MessageRequest) (e : ℕ) → read_message s ≡ done m → held (opens_as s m) (part s m.data_start m.data_len) ≡ refused e
    → listed (suc left) s ≡ refused e
unfolding listed message_by
whole_first left s m e r h = rw (r, h)

module _ (f : List ℕ → Answer (List Row)) where
  -- what stands first is read first, and its rows stand first
  pub rows_in_order : (a b : List (List ℕ)) → in_order f (a ++ b) ≡ and_then (in_order f a) (λ rs. onto rs (in_order f b))
  unfolding in_order
  rows_in_order [] b = onto_none (in_order f b)
  rows_in_order (x ∷ a) b = go (f x) (rows_in_order a b)
    where
      step : (rs : List Row) (w v : Answer (List Row)) → onto rs (and_then w (λ qs. onto qs v)) ≡ and_then (onto rs w) (λ qs. onto qs v)
      step rs (done qs) v = onto_onto rs qs v
      step rs (refused e) v = refl

      go : (w : Answer (List Row)) → in_order f (a ++ b) ≡ and_then (in_order f a) (λ rs. onto rs (in_order f b))
          → and_then w (λ rs. onto rs (in_order f (a ++ b))) ≡ and_then (and_then w (λ rs. onto rs (in_order f a))) (λ rs. onto rs (in_order f b))
      go (done rs) h = ap (onto rs) h ∙ step rs (in_order f a) (in_order f b)
      go (refused e) h = refl

  -- the first message that is refused refuses all, whatever follows it
  pub first_refusal : (a b : List (List ℕ)) (x : List ℕ) (rs : List Row) (e : ℕ) → in_order f a ≡ done rs → f x ≡ refused e → in_order f (a ++ (x ∷ b)) ≡ refused e
  unfolding in_order
  first_refusal a b x rs e h g = rows_in_order a (x ∷ b) ∙ rw (h, g)

-- ---- how deep, how many

-- each row stands between a message's own depth and the deepest
abbrev pub Between : ℕ → List Row → Type 0
Between d [] = Unit {0}
Between d (r ∷ rs) = ((d ≤ r.depth) × (r.depth ≤ max_depth)) × Between d rs

between_append : (d : ℕ) (a b : List Row) → Between d a → Between d b → Between d (a ++ b)
between_append d [] b p q = q
between_append d (r ∷ a) b p q = (p.0, between_append d a b p.1 q)

between_less : (d e : ℕ) (a : List Row) → d ≤ e → Between e a → Between d a
between_less d e [] h p = tt
between_less d e (r ∷ a) h p = ((omega (arith, p.0.0), p.0.1), between_less d e a h p.1)

in_order_between : (d : ℕ) (f : List ℕ → Answer (List Row)) → ((x : List ℕ) (rs : List Row) → f x ≡ done rs → Between d rs)
    → (xs : List (List ℕ)) (rs : List Row) → in_order f xs ≡ done rs → Between d rs
unfolding in_order
in_order_between d f b [] rs h = let e : [] ≡ rs = cc in rw (← e) tt
in_order_between d f b (x ∷ xs) rs h =
    let a : Apart f x xs rs = apart f x xs rs h in
    rw (← a.all) (between_append d a.first a.rest (b x a.first a.first_is) (in_order_between d f b xs a.rest a.rest_is))

pub depth_between : (n : ℕ) (s : List ℕ) (rs : List Row) → listed n s ≡ done rs → Between (levels - n) rs
unfolding listed
depth_between zero s rs h = never h
depth_between (suc left) s rs h =
    let o : OneLevel left s rs = one_level left s rs h in
    let below : (x : List ℕ) (r : List Row) → listed left x ≡ done r → Between (levels - suc left) r
    = λ x r g. between_less (levels - suc left) (levels - left) r (omega arith) (depth_between left x r g) in
    rw (← o.all) ((omega arith, omega arith), in_order_between (levels - suc left) (λ x. listed left x) below o.them o.more o.more_is)

-- a run with a place for each number of MAX_ROWS rows is never too short
pub room_for_all : (s : List ℕ) (rs : List Row) (room : ℕ) → row_size * max_rows ≤ room → nested s ≡ done rs → counted (nested s) room ≡ done (length rs)
room_for_all s rs room h e = counted_fits (nested s) rs room e (omega (arith, most_rows s rs e))
