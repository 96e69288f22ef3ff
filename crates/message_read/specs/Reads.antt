-- The reader of a message (CIP Volume 1, 2-4.1), and what the readers of all requests share, executable: fields in wire order, the first broken
-- rule refuses. Rules and numbers from document 01, "Requests". Assumes nothing: these are definitions.
use Rattle.std.specs.Prelude.{ℕ, ◌+◌, ◌*◌, ◌-◌, List, [], ◌∷◌, length, get_or}
use Rattle.wire.specs.Parts.{part}
use Rattle.wire.specs.Answers.{Answer, done, and_then, under, over, other, judged}
use Rattle.epath_check.specs.Paths.{check_path}
use Rattle.connection.specs.Limits.{max_path, max_record}
use Rattle.message_read.specs.declared.MessageRequest.{MessageRequest}

-- ---- what requests share

-- how many bytes a path has, by the size byte at a place, which counts words
unfoldable pub path_bytes : List ℕ → ℕ → Answer ℕ
path_bytes s at = judged (under (length s) (at + 1) 1 ∷ over (2 * get_or s at 0) max_path 3 ∷ []) (done (2 * get_or s at 0))

-- a path of len bytes from a place on: how many segments it has, when read with that part as its whole input
unfoldable pub path_at : List ℕ → ℕ → ℕ → Answer ℕ
path_at s at len = judged (under (length s) (at + len) 1 ∷ []) (check_path (part s at len))

-- the same path as the record's end: how many bytes it has
unfoldable pub last_path : List ℕ → ℕ → ℕ → Answer ℕ
last_path s at len = and_then (path_at s at len) (λ n. judged (over (length s) (at + len) 8 ∷ []) (done len))

-- a size byte and the path
unfoldable pub route_at : List ℕ → ℕ → Answer ℕ
route_at s at = and_then (path_bytes s at) (λ len. last_path s (at + 1) len)

-- a size byte, a reserved one, and the path
unfoldable pub padded_route_at : List ℕ → ℕ → Answer ℕ
padded_route_at s at =
    and_then (path_bytes s at) (λ len. judged (under (length s) (at + 2) 1 ∷ other (get_or s (at + 1) 0) 0 5 ∷ []) (last_path s (at + 2) len))

-- ---- message (2-4.1): service, path size, path, data

abbrev pub message_at : List ℕ → ℕ → MessageRequest
message_at s len = record {
  service_code = get_or s 0 0;
  path_start = 2;
  path_len = len;
  data_start = 2 + len;
  data_len = length s - (2 + len);
}

unfoldable pub read_message : List ℕ → Answer MessageRequest
read_message s =
    judged (over (length s) max_record 3 ∷ [])
    (and_then (path_bytes s 1) (λ len. and_then (path_at s 2 len) (λ n. done (message_at s len))))
