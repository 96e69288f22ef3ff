-- Each branch of the walk, as a law whose conditions are the code's tests and what its calls ensure. Assumes nothing.
use Prim.Native.Nat.{ℕ, suc, ◌+◌, ◌*◌, ◌-◌, ◌/◌, ◌≤◌, ◌<◌}
use mathlib.Core.Path.{◌≡◌, refl, sym, ap, ◌∙◌}
use mathlib.Core.List.{List, [], ◌∷◌, ◌++◌, append-nil}
use native.Mathlib.Omega.{arith}
use native.Mathlib.Nat.{pos_of_ne-zero}
use lib.ListN.{length, length-append}
use lib.Seq.{sets, length-sets}
use Rattle.std.specs.Prelude.{Result, Ok, Err}
use Rattle.wire.specs.Parts.{part}
use Rattle.wire.specs.Refusals.{number}
use Rattle.wire.specs.Folds.{joined}
use Rattle.wire.specs.Answers.{Answer, done, refused, and_then, under, judged, paper, written}
use Rattle.wire.specs.declared.Refusal.{Refusal}
use Rattle.wire.specs.declared.Refusal.TheVariants.{Depth}
use Rattle.wire.proofs.Rules.{rules, never, done_same}
use Rattle.wire.proofs.Stores.{sets_onto, sets_overlay, part_length}
use Rattle.wire.proofs.Folds.{joined_append}
use Rattle.connection.specs.Limits.{max_record}
use Rattle.connection.specs.declared.UnconnectedSend.{UnconnectedSend}
use Rattle.message_read.specs.declared.MessageRequest.{MessageRequest}
use Rattle.message_read.specs.Reads.{read_message}
use Rattle.message_read.proofs.ReadLaws.{message_limit}
use Rattle.send_read.specs.Reads.{sent, read_send}
use Rattle.body_read.specs.Reads.{read_body}
use Rattle.body_read.proofs.Accepts.{accepted}
use Rattle.body_items.specs.declared.Item.{Item}
use Rattle.body_items.specs.Items.{item_at, bytes_in, items_from, walk_item}
use Rattle.body_items.proofs.ItemLaws.{walk_same}
use Rattle.nested.specs.declared.kinds.Kind.{Kind}
use Rattle.nested.specs.declared.kinds.Kind.TheVariants.{Plain, Packet, Send}
use Rattle.nested.specs.Nested.{max_depth, levels, opens_as, held, Row, row_of, onto, in_order, message_by, listed, nested, row_bytes, row_size, row_values, values_in, counted, stored_rows, held_rows, ends_at, Walked}
use Rattle.nested.proofs.RowLaws.{joined_length, counted_fits, lent_none}
use Rattle.nested.proofs.Order.{onto_none, onto_onto, in_order_one}
use Rattle.nested.proofs.Few.{inside, sent_inside, weight, weight_all, body_held, few}

-- ---- an item of a body that was judged
module _ (s : List ℕ) (n k : ℕ) (h : read_body s ≡ done n) (l : k < n) where
  there : walk_item s n k ≡ done (item_at s n k)
  there =
      let g : k + 1 ≤ n = omega arith in
      let z : done (item_at s n k) ≡ judged (under n (k + 1) 11 ∷ []) (done (item_at s n k)) = search rules in
      walk_same s n (accepted s n h) k ∙ sym z

  pub item_bytes : (r : Result Item Refusal) (i : Item) (x : List ℕ) → paper r ≡ walk_item s n k → r ≡ Ok i → x ≡ part s i.start i.len → x ≡ bytes_in s (item_at s n k)
  item_bytes r i x is f e = let q : i ≡ item_at s n k = done_same (sym (ap paper f) ∙ is ∙ there) in e ∙ ap (bytes_in s) q

  pub item_never : (e : ℕ) → refused e ≡ walk_item s n k → ⊥
  item_never e f = never (f ∙ there)

pub ruleset item_laws = (item_bytes, item_never)

-- ---- what a walk leaves

walk_no : (w : Answer (List Row)) (e : Refusal) (at : ℕ) (l l' : List ℕ) → w ≡ refused (number e) → Walked w at (Err e) l l'
walk_no w e at l l' p = record { says = rw p; holds = λ rs q. never (sym p ∙ q) }

walk_yes : (w : Answer (List Row)) (rs : List Row) (at n : ℕ) (l l' : List ℕ) → w ≡ done rs → n ≡ at + length rs → l' ≡ sets l (row_size * at) (joined row_values rs)
    → Walked w at (Ok n) l l'
walk_yes w rs at n l l' p e q = record {
  says = ap done e ∙ rw p;
  holds = λ rs' q'. let z : done rs ≡ done rs' = sym p ∙ q' in let y : rs ≡ rs' = cc in rw (← y) q;
}

-- rows, and behind them others
then_rows : (l m l' : List ℕ) (a b : List Row) (at n : ℕ) → m ≡ sets l (row_size * at) (joined row_values a) → n ≡ at + length a → l' ≡ sets m (row_size * n) (joined row_values b)
    → l' ≡ sets l (row_size * at) (joined row_values (a ++ b))
then_rows l m l' a b at n p e q =
    sets_onto l m l' (joined row_values a) (joined row_values b) (row_size * at) (row_size * n) p (omega (arith, e, joined_length a)) q
    ∙ ap (λ (x : List ℕ). sets l (row_size * at) x) (sym (joined_append row_values a b))

-- rows go before what a walk found
walk_onto : (w : Answer (List Row)) (a : List Row) (at b : ℕ) (r : Result ℕ Refusal) (l m l' : List ℕ) → b ≡ at + length a → m ≡ sets l (row_size * at) (joined row_values a) → Walked w b r m l'
    → Walked (onto a w) at r l l'
walk_onto (refused e) a at b r l m l' p q h = record { says = h.says; holds = λ rs t. never t }
walk_onto (done c) a at b r l m l' p q h = record {
  says = h.says ∙ ap done (omega (arith, p, length-append a c));
  holds = λ rs t. let e : a ++ c ≡ rs = cc in rw (← e) (then_rows l m l' a c at b q p (h.holds c refl));
}

-- what an answer says of what was found
record Got (w : Answer (List Row)) (at m : ℕ) : Type 0 where
  them : List Row
  found : w ≡ done them
  ends : m ≡ at + length them

got : (w : Answer (List Row)) (at m : ℕ) (x : Result ℕ Refusal) → paper x ≡ ends_at at w → x ≡ Ok m → Got w at m
got (done rs) at m x p q = let e : done (at + length rs) ≡ done m = sym p ∙ ap paper q in let z : at + length rs ≡ m = cc in record { them = rs; found = refl; ends = sym z }
got (refused e) at m x p q = never (sym p ∙ ap paper q)

lost : (w : Answer (List Row)) (at : ℕ) (e : Refusal) (x : Result ℕ Refusal) → paper x ≡ ends_at at w → x ≡ Err e → w ≡ refused (number e)
lost (refused k) at e x p q = let z : ◌≡◌ {A = Answer ℕ} (refused k) (refused (number e)) = sym p ∙ ap paper q in let y : k ≡ number e = cc in ap refused y
lost (done rs) at e x p q = never (sym (ap paper q) ∙ p)

positive : (d : ℕ) → (d ≡ 0 → ⊥) → suc (d - 1) ≡ d
positive d z = let p : 0 < d = pos_of_ne-zero z in omega arith

-- ---- a message
pub message_deep : (s : List ℕ) (left at : ℕ) (l : List ℕ) → left ≡ 0 → Walked (listed left s) at (Err Depth) l l
unfolding listed
message_deep s left at l z = walk_no (listed left s) Depth at l l (rw z)

module _ (s : List ℕ) (m : MessageRequest) (was : done m ≡ read_message s) where
  pub message_path : m.path_len ≤ max_record
  message_path = (inside s m (sym was)).path

  pub message_data : m.data_len ≤ max_record
  message_data = (inside s m (sym was)).data_is

  pub message_room : (at : ℕ) (t : List ℕ) → t ≡ part s m.data_start m.data_len → row_bytes * at + length s ≤ max_record → row_bytes * (at + 1) + length t ≤ max_record + 2
  message_room at t te b = let i = (inside s m (sym was)).held in rw te (omega arith)

module _ (s : List ℕ) (left at : ℕ) (l : List ℕ) (z : left ≡ 0 → ⊥) where
  pub message_no : (r : Result ℕ Refusal) (e : Refusal) → r ≡ Err e → refused (number e) ≡ read_message s → Walked (listed left s) at r l l
  unfolding listed message_by
  message_no r e f h = rw f (walk_no (listed left s) e at l l (rw (← positive left z, ← h)))

  module _ (m : MessageRequest) (was : done m ≡ read_message s) (t : List ℕ) (te : t ≡ part s m.data_start m.data_len) (row : List ℕ)
      (re : row ≡ sets l (row_size * at) (row_values (row_of (levels - left) m))) (k : Kind) (ke : k ≡ opens_as s m) where
    opens : listed left s ≡ onto (row_of (levels - left) m ∷ []) (held_rows k (left - 1) t)
    unfolding listed message_by held_rows
    opens =
        let d : max_depth - (left - 1) ≡ levels - left = omega (arith, positive left z) in
        ap (λ (n : ℕ). listed n s) (sym (positive left z)) ∙ rw (← was, d, te, ke)

    opened : (r : Result ℕ Refusal) (l' : List ℕ) → Walked (held_rows k (left - 1) t) (at + 1) r row l' → Walked (listed left s) at r l l'
    opened r l' w = rw opens (walk_onto (held_rows k (left - 1) t) (row_of (levels - left) m ∷ []) at (at + 1) r l row l' refl re w)

    pub message_plain : k ≡ Plain → Walked (listed left s) at (Ok (at + 1)) l row
    unfolding held_rows held in_order
    message_plain f = opened (Ok (at + 1)) row (rw f (walk_yes (done []) [] (at + 1) (at + 1) row row refl (omega arith) refl))

    module _ (r : Result ℕ Refusal) (l' : List ℕ) where
      pub message_packet : k ≡ Packet → Walked (held_rows Packet (left - 1) t) (at + 1) r row l' → Walked (listed left s) at r l l'
      message_packet f w = opened r l' (rw f w)

      pub message_send : k ≡ Send → Walked (held_rows Send (left - 1) t) (at + 1) r row l' → Walked (listed left s) at r l l'
      message_send f w = opened r l' (rw f w)

pub ruleset message_laws = (message_deep, message_no, message_path, message_data, message_room, message_plain, message_packet, message_send)

-- ---- an Unconnected Send
module _ (s : List ℕ) (left at : ℕ) (l : List ℕ) where
  pub send_no : (r : Result ℕ Refusal) (e : Refusal) → r ≡ Err e → refused (number e) ≡ read_send s → Walked (held_rows Send left s) at r l l
  unfolding held_rows held
  send_no r e f h = rw f (walk_no _ e at l l (rw (← h)))

  module _ (u : UnconnectedSend) (from m start len : ℕ) (h : done (sent u from m start len) ≡ read_send s) where
    sent_was : read_send s ≡ done (sent u from m start len)
    sent_was = sym h

    one : held_rows Send left s ≡ listed left (part s from m)
    unfolding held_rows held
    one = rw sent_was (in_order_one (λ x. listed left x) (part s from m))

    module _ (t : List ℕ) (te : t ≡ part s from m) where
      pub send_room : row_bytes * at + length s ≤ max_record + 2 → row_bytes * at + length t ≤ max_record
      send_room b =
          let i = sent_inside s u from m start len sent_was in
          let e : length (part s from m) ≡ m = part_length s from m (omega (arith, i.0, i.1)) in
          rw te (omega (arith, e, i.1))

      pub send_one : (r : Result ℕ Refusal) (l' : List ℕ) → Walked (listed left t) at r l l' → Walked (held_rows Send left s) at r l l'
      send_one r l' w = rw (one, ← te) w

pub ruleset send_laws = (send_no, send_room, send_one)

-- ---- a body

-- what holds before item k of n: the rows so far, and where they stand
pub record Turn (s : List ℕ) (left n k at next : ℕ) (l l' : List ℕ) : Type 0 where
  pub body : read_body s ≡ done n
  pub acc : List Row
  pub spec : held_rows Packet left s ≡ onto acc (in_order (λ x. listed left x) (items_from (n - k) s n k))
  pub place : next ≡ at + length acc
  pub has : l' ≡ sets l (row_size * at) (joined row_values acc)
  pub same : length l' ≡ length l
  pub room : row_bytes * next + weight (items_from (n - k) s n k) ≤ max_record

module _ (s : List ℕ) (left at : ℕ) (l : List ℕ) where
  pub body_no : (r : Result ℕ Refusal) (e : Refusal) → r ≡ Err e → refused (number e) ≡ read_body s → Walked (held_rows Packet left s) at r l l
  unfolding held_rows held
  body_no r e f h = rw f (walk_no _ e at l l (rw (← h)))

  pub turn_first : (n : ℕ) → done n ≡ read_body s → row_bytes * at + length s ≤ max_record + 2 → Turn s left n 0 at at l l
  unfolding held_rows
  turn_first n h b =
      let z : n - 0 ≡ n = omega arith in
      record {
        body = sym h;
        acc = [];
        spec = rw (z, body_held s n (sym h)) (onto_none (in_order (λ x. listed left x) (items_from n s n 0)));
        place = omega arith;
        has = refl;
        same = refl;
        room = rw z (omega (arith, weight_all n s (accepted s n (sym h))));
      }

module _ (s : List ℕ) (left n k at next : ℕ) (l l' : List ℕ) (h : Turn s left n k at next l l') where
  pub turn_ends : n ≤ k → Walked (held_rows Packet left s) at (Ok next) l l'
  unfolding in_order
  turn_ends g =
      let z : n - k ≡ 0 = omega arith in
      let e : held_rows Packet left s ≡ done (h.acc ++ []) = rw z at h.spec in
      walk_yes (held_rows Packet left s) h.acc at next l l' (e ∙ ap done (append-nil h.acc)) h.place h.has

  pub turn_body : read_body s ≡ done n
  turn_body = h.body

  module _ (g : k < n) where
    split : items_from (n - k) s n k ≡ bytes_in s (item_at s n k) ∷ items_from (n - (k + 1)) s n (k + 1)
    split = let e : n - k ≡ suc (n - (k + 1)) = omega arith in ap (λ (j : ℕ). items_from j s n k) e

    -- what is left, its first item apart
    left_over : held_rows Packet left s ≡ onto h.acc (and_then (listed left (bytes_in s (item_at s n k))) (λ rs. onto rs (in_order (λ x. listed left x) (items_from (n - (k + 1)) s n (k + 1)))))
    unfolding in_order
    left_over = h.spec ∙ ap (λ (xs : List (List ℕ)). onto h.acc (in_order (λ x. listed left x) xs)) split

    module _ (x : List ℕ) (xe : x ≡ bytes_in s (item_at s n k)) where
      weighs : row_bytes * next + (length x + 2 + weight (items_from (n - (k + 1)) s n (k + 1))) ≤ max_record
      weighs = rw xe (rw split at h.room)

      pub turn_room : row_bytes * next + length x ≤ max_record
      turn_room = omega (arith, weighs)

      module _ (r : Result ℕ Refusal) (l'' : List ℕ) (c : Walked (listed left x) next r l' l'') where
        here : Walked (listed left (bytes_in s (item_at s n k))) next r l' l''
        here = rw (← xe) c

        pub turn_no : (y : Result ℕ Refusal) (e : Refusal) → r ≡ Err e → y ≡ Err e → Walked (held_rows Packet left s) at y l l''
        turn_no y e f g =
            let q : listed left (bytes_in s (item_at s n k)) ≡ refused (number e) = lost _ next e r here.says f in
            rw g (walk_no (held_rows Packet left s) e at l l'' (left_over ∙ rw q))

        pub turn_goes : (m : ℕ) → r ≡ Ok m → Turn s left n (k + 1) at m l l''
        turn_goes m f =
            let v : Got (listed left (bytes_in s (item_at s n k))) next m = got _ next m r here.says f in
            let w : l'' ≡ sets l' (row_size * next) (joined row_values v.them) = here.holds v.them v.found in
            record {
              body = h.body;
              acc = h.acc ++ v.them;
              spec =
                  left_over
                  ∙ ap (λ (w : Answer (List Row)). onto h.acc (and_then w (λ rs. onto rs (in_order (λ x. listed left x) (items_from (n - (k + 1)) s n (k + 1)))))) v.found
                  ∙ onto_onto h.acc v.them (in_order (λ x. listed left x) (items_from (n - (k + 1)) s n (k + 1)));
              place = omega (arith, v.ends, h.place, length-append h.acc v.them);
              has = then_rows l l' l'' h.acc v.them at next h.has h.place w;
              same = ap length w ∙ length-sets l' (row_size * next) (joined row_values v.them) ∙ h.same;
              room = omega (arith, weighs, v.ends, few left (bytes_in s (item_at s n k)) v.them v.found, ap length xe);
            }

pub ruleset body_laws = (body_no, turn_first, turn_ends, turn_body, turn_room, turn_no, turn_goes)

-- ---- the outermost message

module _ (s out : List ℕ) where
  over_limit : max_record < length s → nested s ≡ refused 3
  unfolding nested listed message_by
  over_limit h = rw (← message_limit s h)

  pub nested_long : max_record < length s → refused 3 ≡ counted (nested s) (length out)
  unfolding counted
  nested_long h = rw (over_limit h)

  pub nested_long_rows : max_record < length s → out ≡ stored_rows (nested s) out
  unfolding counted stored_rows
  nested_long_rows h = rw (over_limit h)

  -- the first walk, lent no place to store: what comes back in front of the rows is nothing
  module _ (x : Result ℕ Refusal) (l' : List ℕ) (c : Walked (listed levels s) 0 x [] l') (z : length l' ≡ 0) where
    gone : l' ++ out ≡ out
    gone = lent_none l' out z

    module _ (e : Refusal) (f : x ≡ Err e) where
      no_rows : nested s ≡ refused (number e)
      unfolding nested
      no_rows = lost _ 0 e x c.says f

      pub nested_no : refused (number e) ≡ counted (nested s) (length out)
      unfolding counted
      nested_no = rw no_rows

      pub nested_no_rows : (m : List ℕ) → m ≡ l' ++ out → m ≡ stored_rows (nested s) out
      unfolding counted stored_rows
      nested_no_rows m g = g ∙ gone ∙ rw no_rows

    module _ (n : ℕ) (f : x ≡ Ok n) where
      all : Got (nested s) 0 n
      unfolding nested
      all = got _ 0 n x c.says f

      many : n ≡ length all.them
      many = omega (arith, all.ends)

      pub nested_small : length (l' ++ out) / row_size < n → refused 2 ≡ counted (nested s) (length out)
      unfolding counted
      nested_small h =
          let k : length out < row_size * length all.them = omega (arith, many, ap length gone) in
          let y : refused 2 ≡ judged (under (length out) (row_size * length all.them) 2 ∷ []) (done (length all.them)) = search rules in
          rw all.found y

      pub nested_small_rows : (m : List ℕ) → length (l' ++ out) / row_size < n → m ≡ l' ++ out → m ≡ stored_rows (nested s) out
      unfolding stored_rows
      nested_small_rows m h g = g ∙ gone ∙ ap (λ (y : Answer ℕ). written y (values_in (nested s)) out) (nested_small h)

      module _ (h : n ≤ length (l' ++ out) / row_size) (y : Result ℕ Refusal) (l'' : List ℕ) (c2 : Walked (listed levels s) 0 y (l' ++ out) l'') where
        fits : row_size * length all.them ≤ length out
        fits = omega (arith, many, ap length gone)

        enough : done (length all.them) ≡ counted (nested s) (length out)
        enough = sym (counted_fits (nested s) all.them (length out) all.found fits)

        pub nested_found : paper y ≡ counted (nested s) (length out)
        unfolding nested
        nested_found =
            let z0 : 0 + length all.them ≡ length all.them = omega arith in
            c2.says ∙ ap (ends_at 0) all.found ∙ ap done z0 ∙ enough

        pub nested_found_rows : l'' ≡ stored_rows (nested s) out
        unfolding nested stored_rows
        nested_found_rows =
            c2.holds all.them all.found
            ∙ ap (λ (o : List ℕ). sets o 0 (joined row_values all.them)) gone
            ∙ sets_overlay out (joined row_values all.them) (omega (arith, fits, joined_length all.them))
            ∙ ap (λ (y : Answer ℕ). written y (joined row_values all.them) out) enough
            ∙ ap (λ (w : Answer (List Row)). written (counted (nested s) (length out)) (values_in w) out) (sym all.found)

pub ruleset nested_laws = (nested_long, nested_long_rows, nested_no, nested_no_rows, nested_small, nested_small_rows, nested_found, nested_found_rows)
