-- What a user may rely on of requests, with the path as a list of segments: read back, written back. Assumes nothing.
use Prim.Native.Nat.{ℕ, ◌+◌, ◌≤◌}
use mathlib.Core.Path.{◌≡◌, refl, sym, ap, ◌∙◌}
use mathlib.Core.List.{List, map}
use mathlib.Core.Bool.{Bool}
use native.Mathlib.Omega.{arith}
use lib.ListN.{length}
use Rattle.wire.specs.Numbers.{Bytes}
use Rattle.wire.specs.Parts.{part}
use Rattle.wire.specs.Answers.{Answer, done, refused}
use Rattle.wire.proofs.Rules.{never}
use Rattle.epath_sizes.specs.Limits.{max_segments}
use Rattle.epath_sizes.specs.Segments.{Seg, encode, AllFine, norm}
use Rattle.epath_sizes.specs.declared.Slot.{Slot}
use Rattle.epath_sizes.proofs.Even.{path_even}
use Rattle.epath_check.specs.Paths.{walk, count_of, check_path, sees, parse_path}
use Rattle.epath.proofs.RoundTrip.{Written, read_of_written, written_of_read}
use Rattle.epath.proofs.Theorems.{Checked, checked}
use Rattle.connection.specs.Limits.{max_path, max_record}
use Rattle.connection_words.specs.Requests.{message_bytes, open_bytes, close_bytes, send_bytes}
use Rattle.connection.specs.declared.OpenOptions.{OpenOptions}
use Rattle.connection.specs.declared.ForwardCloseRequest.{ForwardCloseRequest}
use Rattle.connection.specs.declared.UnconnectedSend.{UnconnectedSend}
use Rattle.message_read.specs.declared.MessageRequest.{MessageRequest}
use Rattle.message_read.specs.Reads.{read_message}
use Rattle.open_read.specs.Reads.{transport_place, opened, read_open}
use Rattle.close_read.specs.Reads.{closed, read_close}
use Rattle.send_read.specs.Reads.{message_end, sent, read_send}
use Rattle.request_theorems.proofs.Routes.{Route}
use Rattle.request_theorems.proofs.RoundTrip.{MessageBack, message_read_of_written, message_written_of_read, CloseFits, CloseBack, close_read_of_written, close_written_of_read, SendFits, SendBack, send_read_of_written, send_written_of_read}
use Rattle.request_theorems.proofs.OpenTrip.{OpenFits, OpenBack, open_read_of_written, open_written_of_read}
use Rattle.wire.proofs.Numbers.{bytes_part}
use Rattle.connection_words.proofs.Lengths.{message_length, send_length}

-- ---- paths as lists

-- a list that a path writer takes, and that a size byte can say
pub record Listed (xs : List Seg) : Type 0 where
  pub fine : AllFine xs
  pub few : length xs ≤ max_segments
  pub short : length (encode xs) ≤ max_path

pub listed_route : (xs : List Seg) → Listed xs → Route (encode xs)
unfolding check_path
listed_route xs l = go (walk max_segments (encode xs) 0) refl
  where
    go : (w : Answer (List Slot)) → walk max_segments (encode xs) 0 ≡ w → Route (encode xs)
    go (done v) e = record { count = length v; is = ap count_of e; short = l.short; even = path_even xs }
    go (refused k) e = never (sym (ap (sees (encode xs)) e) ∙ read_of_written xs l.fine l.few)

-- where the bytes of a list stand, its segments are read, an empty link as [0]
segments_back : (s : List ℕ) (at : ℕ) (xs : List Seg) → Listed xs → part s at (length (encode xs)) ≡ encode xs → parse_path (part s at (length (encode xs))) ≡ done (map norm xs)
segments_back s at xs l e = ap parse_path e ∙ read_of_written xs l.fine l.few

-- a path that was judged is the encoding of the segments that are read from it. With it the `..Made` below say that what is accepted is what
-- a writer makes, under the conditions of the `..-of-segments`, which say that all of that is accepted
pub record Segments (s : List ℕ) (at len : ℕ) : Type 0 where
  pub list : List Seg
  pub is : parse_path (part s at len) ≡ done list
  pub bytes : part s at len ≡ encode list
  pub listed : Listed list
  pub normal : map norm list ≡ list

pub segments_were : (s : List ℕ) (at len : ℕ) → Bytes s → Route (part s at len) → Segments s at len
segments_were s at len b r =
    let t : List ℕ = part s at len in
    let c : Checked t r.count = checked t r.count r.is in
    let w : Written max_segments t c.list = written_of_read t c.list (bytes_part s at len b) c.is in
    record {
      list = c.list;
      is = c.is;
      bytes = w.bytes;
      listed = record { fine = w.fine; few = w.few; short = rw w.bytes at r.short };
      normal = w.normal;
    }

-- ---- message

pub message_of_segments : (service : ℕ) (xs : List Seg) (content : List ℕ) → Listed xs → 2 + length (encode xs) + length content ≤ max_record
    → MessageBack service (encode xs) content × (parse_path (part (message_bytes service (encode xs) content) 2 (length (encode xs))) ≡ done (map norm xs))
message_of_segments service xs content l small =
    let m : MessageBack service (encode xs) content = message_read_of_written service (encode xs) content (listed_route xs l) small in
    (m, segments_back (message_bytes service (encode xs) content) 2 xs l m.path_is)

pub record MessageMade (s : List ℕ) (m : MessageRequest) : Type 0 where
  pub path : Segments s m.path_start m.path_len
  pub bytes : s ≡ message_bytes m.service_code (encode path.list) (part s m.data_start m.data_len)
  pub small : 2 + length (encode path.list) + length (part s m.data_start m.data_len) ≤ max_record

pub message_made : (s : List ℕ) (m : MessageRequest) → Bytes s → read_message s ≡ done m → MessageMade s m
message_made s m b h =
    let w = message_written_of_read s m b h in
    let p : Segments s m.path_start m.path_len = segments_were s m.path_start m.path_len b w.route in
    let content : List ℕ = part s m.data_start m.data_len in
    let e : s ≡ message_bytes m.service_code (encode p.list) content = w.bytes ∙ ap (λ (t : List ℕ). message_bytes m.service_code t content) p.bytes in
    record { path = p; bytes = e; small = omega (arith, w.small, ap length e, message_length m.service_code (encode p.list) content) }

-- ---- Forward Open

pub open_of_segments : (o : OpenOptions) (xs : List Seg) → OpenFits o → Listed xs
    → OpenBack o (encode xs) (open_bytes o (encode xs))
    × (parse_path (part (open_bytes o (encode xs)) (transport_place o.large_open + 2) (length (encode xs))) ≡ done (map norm xs))
open_of_segments o xs t l =
    let m : OpenBack o (encode xs) (open_bytes o (encode xs)) = open_read_of_written o (encode xs) t (listed_route xs l) in
    (m, segments_back (open_bytes o (encode xs)) (transport_place o.large_open + 2) xs l m.path_is)

pub record OpenMade (large : Bool) (s : List ℕ) (o : OpenOptions) (start len : ℕ) : Type 0 where
  pub path : Segments s start len
  pub bytes : s ≡ open_bytes o (encode path.list)
  pub fits : OpenFits o
  pub form : o.large_open ≡ large

pub open_made : (large : Bool) (s : List ℕ) (o : OpenOptions) (start len : ℕ) → Bytes s → read_open large s ≡ done (opened o start len) → OpenMade large s o start len
open_made large s o start len b h =
    let w = open_written_of_read large s o start len b h in
    let p : Segments s start len = segments_were s start len b w.route in
    record { path = p; bytes = w.bytes ∙ ap (open_bytes o) p.bytes; fits = w.fits; form = w.form }

-- ---- Forward Close

pub close_of_segments : (c : ForwardCloseRequest) (xs : List Seg) → CloseFits c → Listed xs
    → CloseBack c (encode xs) × (parse_path (part (close_bytes c (encode xs)) 12 (length (encode xs))) ≡ done (map norm xs))
close_of_segments c xs t l =
    let m : CloseBack c (encode xs) = close_read_of_written c (encode xs) t (listed_route xs l) in
    (m, segments_back (close_bytes c (encode xs)) 12 xs l m.path_is)

pub record CloseMade (s : List ℕ) (c : ForwardCloseRequest) (start len : ℕ) : Type 0 where
  pub path : Segments s start len
  pub bytes : s ≡ close_bytes c (encode path.list)
  pub fits : CloseFits c

pub close_made : (s : List ℕ) (c : ForwardCloseRequest) (start len : ℕ) → Bytes s → read_close s ≡ done (closed c start len) → CloseMade s c start len
close_made s c start len b h =
    let w = close_written_of_read s c start len b h in
    let p : Segments s start len = segments_were s start len b w.route in
    record { path = p; bytes = w.bytes ∙ ap (close_bytes c) p.bytes; fits = w.fits }

-- ---- Unconnected Send

pub send_of_segments : (u : UnconnectedSend) (message : List ℕ) (xs : List Seg) → SendFits u → Listed xs → message_end (length message) + 2 + length (encode xs) ≤ max_record
    → SendBack u message (encode xs)
    × (parse_path (part (send_bytes u message (encode xs)) (message_end (length message) + 2) (length (encode xs))) ≡ done (map norm xs))
send_of_segments u message xs t l small =
    let m : SendBack u message (encode xs) = send_read_of_written u message (encode xs) t (listed_route xs l) small in
    (m, segments_back (send_bytes u message (encode xs)) (message_end (length message) + 2) xs l m.path_is)

pub record SendMade (s : List ℕ) (u : UnconnectedSend) (from m start len : ℕ) : Type 0 where
  pub path : Segments s start len
  pub bytes : s ≡ send_bytes u (part s from m) (encode path.list)
  pub fits : SendFits u
  pub small : message_end (length (part s from m)) + 2 + length (encode path.list) ≤ max_record

pub send_made : (s : List ℕ) (u : UnconnectedSend) (from m start len : ℕ) → Bytes s → read_send s ≡ done (sent u from m start len) → SendMade s u from m start len
send_made s u from m start len b h =
    let w = send_written_of_read s u from m start len b h in
    let p : Segments s start len = segments_were s start len b w.route in
    let e : s ≡ send_bytes u (part s from m) (encode p.list) = w.bytes ∙ ap (send_bytes u (part s from m)) p.bytes in
    record { path = p; bytes = e; fits = w.fits; small = omega (arith, w.small, ap length e, send_length u (part s from m) (encode p.list)) }
