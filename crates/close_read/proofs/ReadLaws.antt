-- Each end of the reader of Forward Close, as a law with plain conditions. Assumes nothing.
use Prim.Native.Nat.{ℕ}
use mathlib.Core.Path.{◌≡◌, sym, ap, ◌∙◌}
use mathlib.Core.List.{List}
use lib.ListN.{get_or, drop}
use Rattle.std.specs.Prelude.{Result, Ok, Err}
use Rattle.wire.specs.Numbers.{value_of}
use Rattle.wire.specs.Refusals.{number}
use Rattle.wire.specs.Answers.{done, refused, paper}
use Rattle.wire.specs.declared.Refusal.{Refusal}
use Rattle.wire.proofs.Rules.{then_stops, then_goes}
use Rattle.connection.specs.declared.ForwardCloseRequest.{ForwardCloseRequest}
use Rattle.request_first.specs.Firsts.{first_rules, verdict}
use Rattle.request_first.proofs.FirstLaws.{kept_stops, kept_goes}
use Rattle.message_read.specs.Reads.{padded_route_at}
use Rattle.close_read.specs.Reads.{closed, close_at, read_close}

-- ---- Forward Close
module _ (s : List ℕ) where
  pub close_record : (a b c d e : ℕ) → a ≡ get_or s 0 0 → b ≡ get_or s 1 0 → c ≡ value_of 2 (drop 2 s) → d ≡ value_of 2 (drop 4 s) → e ≡ value_of 4 (drop 6 s)
      → record { priority_time_ticks = a; timeout_ticks = b; connection_serial_number = c; originator_vendor_id = d; originator_serial_number = e } ≡ close_at s
  close_record a b c d e f g h i j = rw (f, g, h, i, j)

  module _ (r : Result (Unit {0}) Refusal) (is : paper r ≡ verdict (first_rules s)) where
    pub close_first : (e : Refusal) → r ≡ Err e → refused (number e) ≡ read_close s
    unfolding read_close
    close_first = kept_stops _ _ r is

    module _ (h : r ≡ (Ok tt)) (q : Result ℕ Refusal) (of : paper q ≡ padded_route_at s 10) where
      pub close_route : (e : Refusal) → q ≡ Err e → refused (number e) ≡ read_close s
      unfolding read_close
      close_route e f = kept_goes _ _ r is _ h (then_stops _ _ (number e) (sym of ∙ ap paper f))

      pub close_found : (len : ℕ) (c : ForwardCloseRequest) → q ≡ Ok len → c ≡ close_at s → done (closed c 12 len) ≡ read_close s
      unfolding read_close
      close_found len c f e = kept_goes _ _ r is _ h (then_goes _ _ len _ (sym of ∙ ap paper f) (rw e))

pub ruleset close_laws = (close_record, close_first, close_route, close_found)
