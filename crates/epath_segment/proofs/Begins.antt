-- What a segment's first byte says, by the table of first bytes. Assumes nothing.
use Prim.Native.Nat.{ℕ, ◌+◌, ◌<◌}
use mathlib.Core.Path.{◌≡◌, refl}
use mathlib.Core.List.{List, [], ◌∷◌}
use mathlib.Core.Bool.{Bool, true, false}
use lib.Dec.{eqb, ltb}
use borrow.Author.Tests.{ltb-true, eqb-true}
use Rattle.epath_sizes.specs.Limits.{port_end, element_code, symbol_code}
use Rattle.epath_segment.specs.declared.decode.Form.{Form}
use Rattle.epath_segment.specs.declared.decode.Form.TheVariants.{Port as fPort, Symbol as fSymbol, Narrow, Wide, Widest, Unknown}
use Rattle.epath_segment.specs.Reads.{FormRow, form_row, table, form_in, form_of}
use Rattle.epath_segment.proofs.ReadLaws.{code_of}

-- what a first byte that has a form is
abbrev pub Begins : ℕ → Form → Type 0
Begins b fPort = b < port_end
Begins b fSymbol = b ≡ symbol_code
Begins b (Narrow k) = b ≡ code_of k
Begins b (Wide k) = b ≡ code_of k + 1
Begins b Widest = b ≡ element_code + 2
Begins b Unknown = Unit {0}

-- a property of each row, and of no row, is one of what is looked up
module _ (b : ℕ) (P : Form → Type 0) where
  abbrev Each : List FormRow → Type 0
  Each [] = P Unknown
  Each (form_row c f ∷ rs) = (b ≡ c → P f) × Each rs

  looked : (rs : List FormRow) → Each rs → P (form_in b rs)
  unfolding form_in
  looked [] e = e
  looked (form_row c f ∷ rs) e = go (eqb b c) refl (looked rs e.1)
    where
      go : (q : Bool) → eqb b c ≡ q → P (form_in b rs) → P (elim q [ true ↦ f | false ↦ form_in b rs ])
      go true p r = e.0 (eqb-true b c p)
      go false p r = r

pub begins : (b : ℕ) → Begins b (form_of b)
unfolding form_of
begins b = go (ltb b port_end) refl
  where
    go : (q : Bool) → ltb b port_end ≡ q → Begins b (elim q [ true ↦ fPort | false ↦ form_in b table ])
    go true p = ltb-true b port_end p
    go false p = looked b (Begins b) table (search)
