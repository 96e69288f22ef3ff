-- A status of numbers. Assumes nothing: these are definitions.
use Rattle.std.specs.Prelude.{ℕ, Bool, true, false}
use Rattle.std.specs.Prelude.{Option, Some, None}
use Rattle.statuses.specs.declared.Status.{Status}

-- the word counts only where there is one
abbrev pub extended_of : Bool → ℕ → Option ℕ
extended_of false word = None
extended_of true word = Some word

abbrev pub status_of : ℕ → Bool → ℕ → Status
status_of general hasWord word = record { general = general; extended = extended_of hasWord word }
