-- The numbers that bound requests and replies, each once; `src/lib.rt` has each as a `const`. Document 01, "Numbers that bound it".
-- Assumes nothing: these are definitions.
use Rattle.std.specs.Prelude.{ℕ, Bool, true, false}

-- bytes of a path behind a size byte
abbrev pub max_path : ℕ
max_path = 254

-- bytes of a message, a reply, a request record or a body
abbrev pub max_record : ℕ
max_record = 65535

-- bytes of application data in a reply
abbrev pub max_app_data : ℕ
max_app_data = 510

-- bytes of a connection's data, small and large
abbrev pub size_limit : Bool → ℕ
size_limit false = 511
size_limit true = 65535
