-- Each end of the readers of Forward Open and Forward Close replies, as a law with plain conditions. Assumes nothing.
use Prim.Native.Nat.{ℕ, ◌+◌, ◌*◌, ◌≤◌, ◌<◌}
use mathlib.Core.Path.{◌≡◌, sym, ap, ◌∙◌}
use mathlib.Core.List.{List}
use mathlib.Core.Bool.{Bool}
use native.Mathlib.Omega.{arith}
use lib.ListN.{length, get_or}
use Rattle.std.specs.Prelude.{Result, Ok}
use Rattle.wire.specs.Answers.{done, refused, paper}
use Rattle.wire.specs.declared.Refusal.{Refusal}
use Rattle.wire.proofs.Rules.{rules}
use Rattle.connection.specs.declared.ForwardRequestFail.{ForwardRequestFail}
use Rattle.reply_header.specs.Headers.{data_from, read_header}
use Rattle.reply_header.specs.declared.MessageReply.{MessageReply}
use Rattle.reply_header.proofs.HeaderLaws.{Header, header_was}
use Rattle.reply_read.specs.Reads.{app_data, fail_size, fail_at, read_fail}

module _ (s : List ℕ) (at : ℕ) where
  -- ---- application data
  pub app_short : length s < at + 2 → refused 1 ≡ app_data s at
  unfolding app_data
  app_short h = search rules

  module _ (w : ℕ) (is : w ≡ get_or s at 0) (h : at + 2 ≤ length s) where
    pub app_cut : length s < at + 2 + 2 * w → refused 1 ≡ app_data s at
    unfolding app_data
    app_cut f = let k : length s < at + 2 + 2 * get_or s at 0 = omega arith in search rules

    pub app_is : at + 2 + 2 * w ≤ length s → done (2 * w) ≡ app_data s at
    unfolding app_data
    app_is f =
        let k : at + 2 + 2 * get_or s at 0 ≤ length s = omega arith in
        let e : done (2 * w) ≡ done (2 * get_or s at 0) = rw is in
        search rules

  -- ---- the failure record
  module _ (routing : Bool) where
    module _ (k : ℕ) (is : k ≡ fail_size routing) where
      pub fail_short : length s < at + k → refused 1 ≡ read_fail routing s at
      unfolding read_fail
      fail_short h = let g : length s < at + fail_size routing = omega arith in search rules

      pub fail_found : (f : ForwardRequestFail) → at + k ≤ length s → f ≡ fail_at routing s at → done f ≡ read_fail routing s at
      unfolding read_fail
      fail_found f h e =
          let g : at + fail_size routing ≤ length s = omega arith in
          let z : done f ≡ done (fail_at routing s at) = ap done e in
          search rules

pub ruleset field_laws = (app_short, app_cut, app_is, fail_short, fail_found)

-- the data starts near: sums of its place don't wrap
pub header_near : (s : List ℕ) (r : Result MessageReply Refusal) (m : MessageReply) → paper r ≡ read_header s → r ≡ Ok m → m.data_start ≤ 1000
header_near s r m is h =
    let w : Header s m = header_was s m (sym is ∙ ap paper h) in
    let e : data_from s ≡ m.data_start = ap (λ (x : MessageReply). x.data_start) w.is in
    omega (arith, w.few)
