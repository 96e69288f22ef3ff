-- The writers' stores, put together: header, fields, application data. Assumes nothing.
use Prim.Native.Nat.{ℕ, ◌+◌, ◌/◌}
use mathlib.Core.Path.{◌≡◌, refl, ap, ◌∙◌}
use mathlib.Core.List.{List, [], ◌∷◌, ◌++◌}
use native.Mathlib.Omega.{arith}
use lib.ListN.{length}
use lib.Seq.{sets}
use Rattle.std.specs.Prelude.{replicate}
use Rattle.wire.proofs.Stores.{sets_append}
use Rattle.wire.specs.Numbers.{low_first}
use Rattle.wire.specs.Records.{num, laid}
use Rattle.wire.proofs.Records.{laid_more}
use Rattle.connection.specs.declared.ForwardOpenSuccess.{ForwardOpenSuccess}
use Rattle.connection.specs.declared.ForwardCloseSuccess.{ForwardCloseSuccess}
use Rattle.connection_words.specs.Requests.{triad}
use Rattle.success_encode.specs.Replies.{both_ways, app_fields, close_success_fields, open_reply_bytes, close_reply_bytes, with_fields, success_bytes, open_record, close_record}

-- ---- parts, at any place
module _ (old : List ℕ) (at : ℕ) where
  pub pair_put : (x y : ℕ) (a b : List ℕ) → a ≡ sets old at (low_first 4 x) → b ≡ sets a (at + 4) (low_first 4 y) → b ≡ with_fields old at (both_ways x y)
  unfolding with_fields
  pair_put x y a b e f =
      let g : a ≡ sets old at (laid (num 4 x ∷ [])) = laid_more [] (num 4 x) old old a at at refl (omega arith) e in
      laid_more (num 4 x ∷ []) (num 4 y) old a b at (at + 4) g (omega arith) f

  pub app_put : (app a b : List ℕ) → a ≡ sets old at ((length app / 2) ∷ 0 ∷ []) → b ≡ sets a (at + 2) app → b ≡ sets (with_fields old at (app_fields app)) (at + 2) app
  unfolding with_fields
  app_put app a b e f = f ∙ rw e

-- ---- either reply, whose record has these bytes
pub success_put : (service : ℕ) (fields app old : List ℕ)
    → sets (with_fields (sets (sets old 0 (service ∷ 0 ∷ 0 ∷ 0 ∷ [])) 4 fields) (length fields + 4) (app_fields app)) (length fields + 4 + 2) app
    ≡ sets old 0 (success_bytes service fields app)
unfolding with_fields success_bytes
success_put service fields app old =
    let tail : List ℕ = laid (app_fields app) ++ app in
    let a : List ℕ = sets old 0 (service ∷ 0 ∷ 0 ∷ 0 ∷ []) in
    let n : length fields + 4 ≡ 4 + length fields = omega arith in
    sets_append (sets a 4 fields) (laid (app_fields app)) app (length fields + 4)
    ∙ ap (λ (k : ℕ). sets (sets a 4 fields) k tail) n
    ∙ sets_append a fields tail 4
    ∙ sets_append old (service ∷ 0 ∷ 0 ∷ 0 ∷ []) (fields ++ tail) 0

-- ---- the records
abbrev zeros : ℕ → List ℕ
zeros n = replicate n 0

pub open_fields : (o : ForwardOpenSuccess) (a b c : List ℕ) → a ≡ with_fields (zeros 24) 0 (both_ways o.o_t_connection_id o.t_o_connection_id)
    → b ≡ sets a 8 (laid (triad o.connection_serial_number o.originator_vendor_id o.originator_serial_number))
    → c ≡ with_fields b 16 (both_ways o.o_t_api o.t_o_api) → c ≡ open_record o
unfolding with_fields open_record
open_fields o a b c e f g = g ∙ rw (f, e)

pub close_fields : (c : ForwardCloseSuccess) (a : List ℕ) → a ≡ sets (zeros 8) 0 (laid (close_success_fields c)) → a ≡ close_record c
unfolding close_record
close_fields c a e = e

-- the same reply, of the record that has those bytes
pub open_same : (service : ℕ) (o : ForwardOpenSuccess) (app : List ℕ) → success_bytes service (open_record o) app ≡ open_reply_bytes service o app
unfolding open_reply_bytes success_bytes open_record
open_same service o app = refl

pub open_width : (o : ForwardOpenSuccess) → length (open_record o) ≡ 24
unfolding open_record
open_width o = refl

pub ruleset open_laws = (open_same, open_width)

pub close_same : (service : ℕ) (m : ForwardCloseSuccess) (app : List ℕ) → success_bytes service (close_record m) app ≡ close_reply_bytes service m app
unfolding close_reply_bytes success_bytes close_record
close_same service m app = refl

pub close_width : (m : ForwardCloseSuccess) → length (close_record m) ≡ 8
unfolding close_record
close_width m = refl

pub ruleset close_laws = (close_same, close_width)
