-- A law for whoever lays numbers behind those of a header. Assumes nothing.
use Prim.Native.Nat.{ℕ}
use mathlib.Core.Path.{◌≡◌}
use mathlib.Core.List.{List, ◌∷◌, ◌++◌}
use lib.ListN.{get_or}
use Rattle.reply_header.specs.declared.MessageReply.{MessageReply}
use Rattle.c_reply_numbers.specs.Numbers.{reply_numbers}

-- a header's six numbers, one by one, and what follows them
pub six_laid : (h : List ℕ) (m : MessageReply) (rest : List ℕ) → h ≡ reply_numbers m
    → get_or h 0 0 ∷ get_or h 1 0 ∷ get_or h 2 0 ∷ get_or h 3 0 ∷ get_or h 4 0 ∷ get_or h 5 0 ∷ rest ≡ reply_numbers m ++ rest
six_laid h m rest is = rw is
