-- What is held is smaller than what holds it, so no message has more than a row for every four bytes (`row_bytes`). Assumes nothing.
use Prim.Native.Nat.{ℕ, zero, suc, ◌+◌, ◌*◌, ◌-◌, ◌≤◌}
use mathlib.Core.Path.{◌≡◌, refl, sym, ap}
use mathlib.Core.List.{List, [], ◌∷◌}
use native.Mathlib.Omega.{arith}
use lib.ListN.{length, drop, length-append}
use Rattle.wire.specs.Parts.{part}
use Rattle.wire.specs.Numbers.{value_of}
use Rattle.wire.specs.Answers.{Answer, done}
use Rattle.wire.proofs.Rules.{never, done_same, all_were, Went, then_were}
use Rattle.wire.proofs.Stores.{part_length}
use Rattle.connection.specs.Limits.{max_record}
use Rattle.connection.specs.declared.UnconnectedSend.{UnconnectedSend}
use Rattle.message_read.specs.declared.MessageRequest.{MessageRequest}
use Rattle.message_read.proofs.ReadLaws.{size_was, path_was}
use Rattle.message_read.specs.Reads.{path_bytes, path_at, padded_route_at, message_at, read_message}
use Rattle.send_read.specs.Reads.{Sent, sent, message_end, send_behind, read_send}
use Rattle.body_read.specs.Reads.{offset_at, read_body}
use Rattle.body_read.proofs.Accepts.{Accepted, accepted}
use Rattle.body_items.specs.Items.{items_from, items_of}
use Rattle.body_items.proofs.ItemLaws.{stop_next, stop_last, span, item_length_lem}
use Rattle.nested.specs.declared.kinds.Kind.{Kind}
use Rattle.nested.specs.declared.kinds.Kind.TheVariants.{Plain, Packet, Send}
use Rattle.nested.proofs.Order.{Apart, apart, OneLevel, one_level}
use Rattle.nested.specs.Nested.{max_depth, levels, message_in, held, Row, in_order, listed, nested, max_rows, row_bytes}

-- ---- what was read lies inside

pub record Inside (s : List ℕ) (m : MessageRequest) : Type 0 where
  pub small : length s ≤ max_record
  pub begun : 2 ≤ length s
  pub path : m.path_len ≤ max_record
  pub data_is : m.data_len ≤ max_record
  pub held : length (part s m.data_start m.data_len) + 2 ≤ length s

pub inside : (s : List ℕ) (m : MessageRequest) → read_message s ≡ done m → Inside s m
unfolding read_message
inside s m h =
    let w = all_were _ _ m h in
    let p = then_were (path_bytes s 1) _ m w.1 in
    let len : ℕ = p.found in
    let q = then_were (path_at s 2 len) _ m p.then in
    let z = size_was s 1 len p.is in
    let c = path_was s 2 len q.found q.is in
    let e : message_at s len ≡ m = done_same q.then in
    let l : length (part s (2 + len) (length s - (2 + len))) ≡ length s - (2 + len) = part_length s (2 + len) (length s - (2 + len)) (omega arith) in
    rw (← e) (record { small = w.0.0; begun = z.here; path = omega (arith, z.short); data_is = omega (arith, w.0.0); held = omega (arith, l, c.here) })

pub sent_inside : (t : List ℕ) (u : UnconnectedSend) (from m start len : ℕ) → read_send t ≡ done (sent u from m start len) → (from ≡ 4) × (4 + m ≤ length t)
unfolding read_send send_behind
sent_inside t u from m start len h =
    let v : ℕ = value_of 2 (drop 2 t) in
    let x : Sent = sent u from m start len in
    let a = all_were _ _ x h in
    let b = all_were _ _ x a.1 in
    let c = all_were _ _ x b.1 in
    let d = then_were (padded_route_at t (message_end v)) _ x c.1 in
    let e = done_same d.then in
    let f : 4 ≡ from = cc in
    let g : v ≡ m = cc in
    (sym f, omega (arith, c.0.0, g))

-- ---- what messages in a body take there: their bytes, and an offset each
abbrev pub weight : List (List ℕ) → ℕ
weight [] = 0
weight (x ∷ xs) = length x + 2 + weight xs

module _ (s : List ℕ) (n : ℕ) (a : Accepted s n) where
  weight_from : (j k : ℕ) → suc j + k ≡ n → weight (items_from (suc j) s n k) + offset_at s k ≡ length s + 2 * suc j
  weight_from zero k h = omega (arith, item_length_lem s n a k (omega arith), (span s n a k (omega arith)).some, stop_last s n k (omega arith))
  weight_from (suc j) k h =
      omega (arith, item_length_lem s n a k (omega arith), (span s n a k (omega arith)).some, stop_next s n k (omega arith), weight_from j (k + 1) (omega arith))

pub weight_all : (n : ℕ) (s : List ℕ) → Accepted s n → weight (items_from n s n 0) + 2 ≡ length s
weight_all zero s a = omega (arith, a.none refl)
weight_all (suc j) s a = omega (arith, weight_from s (suc j) a j 0 (omega arith), a.first (omega arith))

items_all : (s : List ℕ) (n : ℕ) → Accepted s n → items_of s ≡ items_from n s n 0
unfolding items_of
items_all s n a = rw a.count

pub body_held : (s : List ℕ) (n : ℕ) → read_body s ≡ done n → held Packet s ≡ done (items_from n s n 0)
unfolding held
body_held s n h = rw h (ap done (items_all s n (accepted s n h)))

pub held_weight : (k : Kind) (t : List ℕ) (xs : List (List ℕ)) → held k t ≡ done xs → weight xs ≤ length t - 2
unfolding held
held_weight Plain t xs h = let e : [] ≡ xs = cc in rw (← e) (omega arith)
held_weight Packet t xs h =
    let w = then_were (read_body t) _ xs h in
    let n : ℕ = w.found in
    let e : items_of t ≡ xs = done_same w.then in
    rw (← e, items_all t n (accepted t n w.is)) (omega (arith, weight_all n t (accepted t n w.is)))
held_weight Send t xs h = go w.found w.is w.then
  where
    w : Went (read_send t) (λ u. done (message_in t u ∷ [])) xs
    w = then_were (read_send t) _ xs h

    go : (x : Sent) → read_send t ≡ done x → done (message_in t x ∷ []) ≡ done xs → weight xs ≤ length t - 2
    go (sent u from m start len) p q =
        let i = sent_inside t u from m start len p in
        let e : (part t from m ∷ []) ≡ xs = cc in
        let l : length (part t from m) ≡ m = part_length t from m (omega (arith, i.0, i.1)) in
        rw (← e) (omega (arith, l, i.1))

-- ---- a row for every four bytes
pub in_order_few : (f : List ℕ → Answer (List Row)) → ((x : List ℕ) (rs : List Row) → f x ≡ done rs → row_bytes * length rs ≤ length x + 2)
    → (xs : List (List ℕ)) (rs : List Row) → in_order f xs ≡ done rs → row_bytes * length rs ≤ weight xs
unfolding in_order
in_order_few f b [] rs h = let e : [] ≡ rs = cc in rw (← e) (omega arith)
in_order_few f b (x ∷ xs) rs h =
    let a : Apart f x xs rs = apart f x xs rs h in
    rw (← a.all) (omega (arith, length-append a.first a.rest, b x a.first a.first_is, in_order_few f b xs a.rest a.rest_is))

pub few : (d : ℕ) (s : List ℕ) (rs : List Row) → listed d s ≡ done rs → row_bytes * length rs ≤ length s + 2
unfolding listed
few zero s rs h = never h
few (suc d) s rs h =
    let o : OneLevel d s rs = one_level d s rs h in
    let i : Inside s o.message = inside s o.message o.read in
    rw (← o.all)
    (omega (
      arith,
      in_order_few (λ x. listed d x) (λ x r g. few d x r g) o.them o.more o.more_is,
      held_weight _ _ o.them o.holds,
      i.held,
      i.begun,
    ))

pub most_rows : (s : List ℕ) (rs : List Row) → nested s ≡ done rs → length rs ≤ max_rows
unfolding nested
most_rows s rs h = let o : OneLevel max_depth s rs = one_level max_depth s rs h in omega (arith, few levels s rs h, (inside s o.message o.read).small)
