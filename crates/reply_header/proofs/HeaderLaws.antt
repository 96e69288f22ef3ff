-- Each end of the header's reader, as a law with plain conditions. Assumes nothing.
use Prim.Native.Nat.{ℕ, ◌+◌, ◌*◌, ◌-◌, ◌≤◌, ◌<◌}
use mathlib.Core.Path.{◌≡◌, refl, sym, ap, ◌∙◌}
use mathlib.Core.List.{List}
use native.Mathlib.Omega.{arith}
use lib.ListN.{length, get_or, drop}
use Rattle.std.specs.Prelude.{Option, Some, None}
use Rattle.wire.specs.Numbers.{value_of}
use Rattle.wire.specs.Answers.{done, refused}
use Rattle.wire.proofs.Rules.{rules, all_were}
use Rattle.wire.proofs.Choice.{pick_here, pick_past}
use Rattle.connection.specs.Limits.{max_record}
use Rattle.reply_header.specs.Headers.{most_words, data_from, status_at, reply_at, read_header}
use Rattle.statuses.specs.declared.Status.{Status}
use Rattle.reply_header.specs.declared.MessageReply.{MessageReply}

module _ (s : List ℕ) where
  module _ (a w : ℕ) (is : a ≡ get_or s 2 0) (counted : w ≡ get_or s 3 0) where
    told : (x : Option ℕ) → x ≡ (status_at s).extended → record { general = a; extended = x } ≡ status_at s
    told x e = ap (λ (k : ℕ). record { general = k; extended = x }) is ∙ ap (λ (y : Option ℕ). record { general = get_or s 2 0; extended = y }) e

    pub status_bare : w ≡ 0 → record { general = a; extended = None } ≡ status_at s
    status_bare h = told None (pick_here (get_or s 3 0) 0 None (Some (value_of 2 (drop 4 s))) None (sym counted ∙ h) refl)

    pub status_word : (v : ℕ) → (w ≡ 0 → ⊥) → v ≡ value_of 2 (drop 4 s) → record { general = a; extended = Some v } ≡ status_at s
    status_word v h f = told (Some v) (pick_past (get_or s 3 0) 0 None (Some (value_of 2 (drop 4 s))) (Some v) (λ g. h (counted ∙ g)) (ap Some f))

  pub header_limit : max_record < length s → refused 3 ≡ read_header s
  unfolding read_header
  header_limit h = search rules

  pub header_short : length s ≤ max_record → length s < 4 → refused 1 ≡ read_header s
  unfolding read_header
  header_short h g = search rules

  module _ (w : ℕ) (counted : w ≡ get_or s 3 0) (h : length s ≤ max_record) (g : 4 ≤ length s) where
    pub header_cut : length s < 4 + 2 * w → refused 1 ≡ read_header s
    unfolding read_header
    header_cut f = let k : length s < data_from s = omega arith in search rules

    module _ (f : 4 + 2 * w ≤ length s) where
      inside : data_from s ≤ length s
      inside = omega arith

      pub header_words : most_words < w → refused 6 ≡ read_header s
      unfolding read_header
      header_words l = let k : most_words < get_or s 3 0 = omega arith in search (rules, inside)

      pub header_found : (b : ℕ) (v : Status) → w ≤ most_words → b ≡ get_or s 0 0 → v ≡ status_at s
          → done (record { reply_service = b; status = v; data_start = 4 + 2 * w; data_len = length s - (4 + 2 * w) }) ≡ read_header s
      unfolding read_header
      header_found b v l e q =
          let k : get_or s 3 0 ≤ most_words = omega arith in
          let z : done (reply_at s) ≡ read_header s = search (rules, inside) in
          rw (e, q, counted) z

pub ruleset header_laws = (status_bare, status_word, header_limit, header_short, header_cut, header_words, header_found)

-- ---- backwards: what an answer that is no refusal says of the input
pub record Header (s : List ℕ) (m : MessageReply) : Type 0 where
  pub small : length s ≤ max_record
  pub inside : data_from s ≤ length s
  pub few : get_or s 3 0 ≤ most_words
  pub is : reply_at s ≡ m

pub header_was : (s : List ℕ) (m : MessageReply) → read_header s ≡ done m → Header s m
unfolding read_header
header_was s m h =
    let w = all_were _ _ m h in
    let e : done (reply_at s) ≡ done m = w.1 in
    record { small = w.0.0; inside = w.0.1.1.0; few = w.0.1.1.1.0; is = cc }
