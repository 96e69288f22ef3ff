-- A Forward Close's stores, put together: the fields, and the fields before a path that was stored. Assumes nothing.
use Prim.Native.Nat.{ℕ, ◌/◌}
use mathlib.Core.Path.{◌≡◌, refl, ap, ◌∙◌}
use mathlib.Core.List.{List, [], ◌∷◌}
use lib.ListN.{length}
use lib.Seq.{sets}
use Rattle.wire.specs.Records.{laid}
use Rattle.wire.proofs.Stores.{sets_ahead}
use Rattle.connection.specs.declared.ForwardCloseRequest.{ForwardCloseRequest}
use Rattle.connection_words.specs.Requests.{triad, close_fields, close_bytes}

pub close_fields_lem : (c : ForwardCloseRequest) (w : ℕ) (old a0 a1 a2 : List ℕ) → a0 ≡ sets old 0 (c.priority_time_ticks ∷ c.timeout_ticks ∷ [])
    → a1 ≡ sets a0 2 (laid (triad c.connection_serial_number c.originator_vendor_id c.originator_serial_number)) → a2 ≡ sets a1 10 (w ∷ 0 ∷ [])
    → a2 ≡ sets old 0 (laid (close_fields c w))
close_fields_lem c w old a0 a1 a2 e0 e1 e2 = e2 ∙ rw (e1, e0)

-- the fields before any path's bytes: for both writers
pub close_laid : (c : ForwardCloseRequest) (path old a b : List ℕ) → a ≡ sets old 12 path → b ≡ sets a 0 (laid (close_fields c (length path / 2)))
    → b ≡ sets old 0 (close_bytes c path)
unfolding close_bytes
close_laid c path old a b s e =
    e
    ∙ ap (λ (l : List ℕ). sets l 0 (laid (close_fields c (length path / 2)))) s
    ∙ sets_ahead old (laid (close_fields c (length path / 2))) path 12 refl
