-- Parts of a list, and what a writer leaves of a lent one. Assumes nothing: these are definitions.
use Rattle.std.specs.Prelude.{ℕ, List, ◌++◌, length, take, drop}

-- what a start and a length name; what lies past the end is not there
abbrev pub part : List ℕ → ℕ → ℕ → List ℕ
part s start len = take len (drop start s)

-- bytes over the front of a list, and then what the list had past them
unfoldable pub overlay : List ℕ → List ℕ → List ℕ
overlay bytes old = bytes ++ drop (length bytes) old
