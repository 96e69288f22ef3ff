-- The readers and the bytes that writers make are each other's. Assumes nothing.
use Prim.Native.Nat.{ℕ, ◌+◌, ◌-◌, ◌%◌, ◌≤◌, ◌<◌}
use mathlib.Core.Path.{◌≡◌, refl, sym, ap, ◌∙◌}
use mathlib.Core.List.{List, ◌∷◌, ◌++◌}
use native.Mathlib.Omega.{arith}
use lib.ListN.{length, get_or, drop, length-append}
use Rattle.wire.specs.Numbers.{value_of, Bytes}
use Rattle.wire.specs.Parts.{part}
use Rattle.wire.specs.Answers.{done, and_then}
use Rattle.wire.specs.Records.{Field, laid, widths, AllHold, fields_at}
use Rattle.wire.proofs.Numbers.{value_low, value_small, bytes_drop, some_power}
use Rattle.wire.proofs.Rules.{done_same, all_keep, all_were, then_were, then_done}
use Rattle.wire.proofs.Records.{fields_back, fields_were, laid_size, past_laid}
use Rattle.wire.proofs.Stores.{part_length, past_part, part_front, part_end, part_split, part_last}
use Rattle.connection.specs.Limits.{max_record}
use Rattle.connection_words.specs.Requests.{words, message_fields, message_bytes, close_fields, close_bytes, send_head, send_rest, send_bytes}
use Rattle.connection.specs.declared.ForwardCloseRequest.{ForwardCloseRequest}
use Rattle.connection.specs.declared.UnconnectedSend.{UnconnectedSend}
use Rattle.message_read.specs.declared.MessageRequest.{MessageRequest}
use Rattle.request_first.specs.Firsts.{most_ticks, first_rules}
use Rattle.message_read.specs.Reads.{padded_route_at, message_at, read_message}
use Rattle.close_read.specs.Reads.{closed, close_at, read_close}
use Rattle.send_read.specs.Reads.{sent, send_at, message_end, send_behind, read_send}
use Rattle.message_read.proofs.ReadLaws.{SizeWas, size_was, PathWas, path_was}
use Rattle.request_theorems.proofs.Routes.{Route, words_small, size_back, path_back, padded_back, PaddedWas, padded_was, words_was, route_again}

-- ---- message

-- where the parts of a message stand
abbrev pub message_parts : ℕ → List ℕ → List ℕ → MessageRequest
message_parts service path content = record {
  service_code = service;
  path_start = 2;
  path_len = length path;
  data_start = 2 + length path;
  data_len = length content;
}

pub record MessageBack (service : ℕ) (path content : List ℕ) : Type 0 where
  pub read : read_message (message_bytes service path content) ≡ done (message_parts service path content)
  pub path_is : part (message_bytes service path content) 2 (length path) ≡ path
  pub data_is : part (message_bytes service path content) (2 + length path) (length content) ≡ content

pub message_read_of_written : (service : ℕ) (path content : List ℕ) → Route path → 2 + length path + length content ≤ max_record → MessageBack service path content
unfolding message_bytes read_message
message_read_of_written service path content r small =
    let s : List ℕ = service ∷ words path ∷ (path ++ content) in
    let l : length s ≡ 2 + length path + length content = omega (arith, length-append path content) in
    let p : part s 2 (length path) ≡ path = part_front s path content 2 refl in
    let d : length s - (2 + length path) ≡ length content = omega arith in
    record {
      read =
          all_keep _ _ (omega arith, tt)
          ∙ then_done _ _ (length path) (size_back s path 1 r (omega arith) refl)
          ∙ then_done _ _ r.count (path_back s path 2 r (omega arith) p)
          ∙ rw d;
      path_is = p;
      data_is = part_end s content (2 + length path) (past_part s path content 2 refl);
    }

-- what was read is what a writer makes of its parts
pub record MessageWas (s : List ℕ) (m : MessageRequest) : Type 0 where
  pub bytes : s ≡ message_bytes m.service_code (part s m.path_start m.path_len) (part s m.data_start m.data_len)
  pub path : PathWas s m.path_start m.path_len
  pub route : Route (part s m.path_start m.path_len)
  pub small : length s ≤ max_record

pub message_written_of_read : (s : List ℕ) (m : MessageRequest) → Bytes s → read_message s ≡ done m → MessageWas s m
unfolding message_bytes read_message
message_written_of_read s m b h =
    let u = all_were _ _ m h in
    let v = then_were _ _ m u.1 in
    let len : ℕ = v.found in
    let w = then_were _ _ m v.then in
    let f : message_at s len ≡ m = done_same w.then in
    let z : SizeWas s 1 len = size_was s 1 len v.is in
    let p : PathWas s 2 len = path_was s 2 len w.found w.is in
    let rest : List ℕ = part s (2 + len) (length s - (2 + len)) in
    let tail : drop 2 s ≡ part s 2 len ++ rest
    = part_split s 2 len ∙ ap (λ (l : List ℕ). part s 2 len ++ l) (sym (part_last s (2 + len) (length s - (2 + len)) (omega arith))) in
    rw (← f)
    (record {
      bytes =
          fields_were (message_fields 0 0) (message_fields (get_or s 0 0) (words (part s 2 len))) s (part s 2 len ++ rest) 0 2 b refl (omega (arith, z.here))
          (rw (words_was s 1 2 len z p)) tail;
      path = p;
      route = route_again s 2 len b z.short p;
      small = u.0.0;
    })

-- ---- Forward Close

-- the numbers are such as their fields hold, and no reserved bit is set
pub record CloseFits (c : ForwardCloseRequest) : Type 0 where
  pub ticks : c.priority_time_ticks ≤ most_ticks
  pub timeout : c.timeout_ticks < 256
  pub serial : c.connection_serial_number < 65536
  pub vendor : c.originator_vendor_id < 65536
  pub originator : c.originator_serial_number < 4294967296

pub record CloseBack (c : ForwardCloseRequest) (path : List ℕ) : Type 0 where
  pub read : read_close (close_bytes c path) ≡ done (closed c 12 (length path))
  pub path_is : part (close_bytes c path) 12 (length path) ≡ path

pub close_read_of_written : (c : ForwardCloseRequest) (path : List ℕ) → CloseFits c → Route path → CloseBack c path
unfolding close_bytes read_close
close_read_of_written c path t r =
    let w : ℕ = words path in
    let s : List ℕ = laid (close_fields c w) ++ path in
    let l : length s ≡ 12 + length path = laid_size (close_fields c w) path in
    let p : part s 12 (length path) ≡ path = part_end s path 12 refl in
    let holds : AllHold (close_fields c w)
    = (omega (arith, t.ticks), (t.timeout, (t.serial, (t.vendor, (t.originator, (words_small path r, (omega arith, tt))))))) in
    let e : fields_at (close_fields c w) s 0 ≡ close_fields c w = fields_back (close_fields c w) s path 0 holds refl in
    let i : value_of 2 (drop 2 s) ≡ c.connection_serial_number = cc in
    let j : value_of 2 (drop 4 s) ≡ c.originator_vendor_id = cc in
    let k : value_of 4 (drop 6 s) ≡ c.originator_serial_number = cc in
    record {
      read =
          all_keep _ _ (omega (arith, r.short), (omega arith, (t.ticks, tt)))
          ∙ then_done _ _ (length path) (padded_back s path 10 r l refl refl p)
          ∙ rw (i, j, k);
      path_is = p;
    }

pub record CloseWas (s : List ℕ) (c : ForwardCloseRequest) (start len : ℕ) : Type 0 where
  pub bytes : s ≡ close_bytes c (part s start len)
  pub fits : CloseFits c
  pub path : PathWas s start len
  pub route : Route (part s start len)

pub close_written_of_read : (s : List ℕ) (c : ForwardCloseRequest) (start len : ℕ) → Bytes s → read_close s ≡ done (closed c start len) → CloseWas s c start len
unfolding close_bytes read_close
close_written_of_read s c start len b h =
    let u = all_were (first_rules s) (and_then (padded_route_at s 10) (λ len. done (closed (close_at s) 12 len))) (closed c start len) h in
    let v = then_were (padded_route_at s 10) (λ len. done (closed (close_at s) 12 len)) (closed c start len) u.1 in
    let n : ℕ = v.found in
    let e = done_same v.then in
    let f : close_at s ≡ c = cc in
    let g : 12 ≡ start = cc in
    let k : n ≡ len = cc in
    let w : PaddedWas s 10 n = padded_was s 10 n v.is in
    let p : PathWas s 12 n = w.route.path in
    let t : get_or s 0 0 ≤ most_ticks = u.0.1.1.0 in
    let z : get_or s 11 0 ≡ 0 = w.reserved in
    let d : words (part s 12 n) ≡ get_or s 10 0 = words_was s 10 12 n w.route.sized p in
    rw (← f, ← g, ← k)
    (record {
      bytes =
          fields_were (close_fields (close_at s) 0) (close_fields (close_at s) (words (part s 12 n))) s (part s 12 n) 0 12 b refl (omega (arith, p.here)) (rw (z, d))
          (sym (part_last s 12 n (omega (arith, w.route.whole))));
      fits = record {
        ticks = t;
        timeout = b 1;
        serial = value_small 2 (drop 2 s) (bytes_drop s 2 b);
        vendor = value_small 2 (drop 4 s) (bytes_drop s 4 b);
        originator = value_small 4 (drop 6 s) (bytes_drop s 6 b);
      };
      path = p;
      route = route_again s 12 n b w.route.sized.short p;
    })

-- ---- Unconnected Send

pub record SendFits (u : UnconnectedSend) : Type 0 where
  pub ticks : u.priority_ticks ≤ most_ticks
  pub timeout : u.timeout_ticks < 256

pub record SendBack (u : UnconnectedSend) (message path : List ℕ) : Type 0 where
  pub read : read_send (send_bytes u message path) ≡ done (sent u 4 (length message) (message_end (length message) + 2) (length path))
  pub message_is : part (send_bytes u message path) 4 (length message) ≡ message
  pub path_is : part (send_bytes u message path) (message_end (length message) + 2) (length path) ≡ path

pub send_read_of_written : (u : UnconnectedSend) (message path : List ℕ) → SendFits u → Route path → message_end (length message) + 2 + length path ≤ max_record
    → SendBack u message path
unfolding send_bytes read_send send_behind
send_read_of_written u message path t r small =
    let m : ℕ = length message in
    let w : ℕ = words path in
    let head : List Field = send_head u m in
    let rest : List Field = send_rest m w in
    let s : List ℕ = laid head ++ (message ++ (laid rest ++ path)) in
    let l : length s ≡ message_end m + 2 + length path
    = omega (arith, laid_size head (message ++ (laid rest ++ path)), length-append message (laid rest ++ path), laid_size rest path) in
    let few : m < 65536 = omega arith in
    let e : value_of 2 (drop 2 s) ≡ m = value_low 2 m (message ++ (laid rest ++ path)) few in
    let from : drop (4 + m) s ≡ laid rest ++ path = past_part s message (laid rest ++ path) 4 refl in
    let holds : AllHold rest = (some_power (m % 2), (words_small path r, (omega arith, tt))) in
    let f : fields_at rest s (4 + m) ≡ rest = fields_back rest s path (4 + m) holds from in
    let pad : value_of (m % 2) (drop (4 + m) s) ≡ 0 = cc in
    let size : get_or s (message_end m) 0 ≡ w = cc in
    let zero_is : get_or s (message_end m + 1) 0 ≡ 0 = cc in
    let place : 4 + m + widths rest ≡ message_end m + 2 = omega arith in
    let last : drop (message_end m + 2) s ≡ path = rw (← place) (past_laid s rest path (4 + m) from) in
    let p : part s (message_end m + 2) (length path) ≡ path = part_end s path (message_end m + 2) last in
    let route : padded_route_at s (message_end m) ≡ done (length path) = padded_back s path (message_end m) r l size zero_is p in
    record {
      read =
          all_keep _ _ (omega arith, (omega arith, (t.ticks, tt)))
          ∙ all_keep _ _ (omega arith, tt)
          ∙ ap (send_behind s) e
          ∙ all_keep _ _ (omega arith, (omega arith, (pad, tt)))
          ∙ then_done _ _ (length path) route;
      message_is = part_front s message (laid rest ++ path) 4 refl;
      path_is = p;
    }

pub record SendWas (s : List ℕ) (u : UnconnectedSend) (from m start len : ℕ) : Type 0 where
  pub bytes : s ≡ send_bytes u (part s from m) (part s start len)
  pub fits : SendFits u
  pub message : length (part s from m) ≡ m
  pub path : PathWas s start len
  pub route : Route (part s start len)
  pub small : length s ≤ max_record

send_same : (s : List ℕ) {u v : UnconnectedSend} {a b c d e f g h : ℕ} → u ≡ v → a ≡ b → c ≡ d → e ≡ f → g ≡ h → SendWas s u a c e g → SendWas s v b d f h
send_same s i j k l m w = rw (← i, ← j, ← k, ← l, ← m) w

-- a message of q bytes and a path of n that were read
send_was : (s : List ℕ) (q n : ℕ) → Bytes s → length s ≤ max_record → get_or s 0 0 ≤ most_ticks → 4 ≤ length s → q ≡ value_of 2 (drop 2 s)
    → 4 + q ≤ length s → value_of (q % 2) (drop (4 + q) s) ≡ 0 → PaddedWas s (message_end q) n → SendWas s (send_at s) 4 q (message_end q + 2) n
unfolding send_bytes
send_was s q n b small t l is here pad w =
    let p : PathWas s (message_end q + 2) n = w.route.path in
    let z : get_or s (message_end q + 1) 0 ≡ 0 = w.reserved in
    let path : List ℕ = part s (message_end q + 2) n in
    let d : words path ≡ get_or s (message_end q) 0 = words_was s (message_end q) (message_end q + 2) n w.route.sized p in
    let long : length (part s 4 q) ≡ q = part_length s 4 q (omega arith) in
    let place : 4 + q + widths (send_rest q 0) ≡ message_end q + 2 = omega arith in
    let last : drop (4 + q) s ≡ laid (send_rest q (words path)) ++ path
    = fields_were (send_rest q 0) (send_rest q (words path)) s path (4 + q) (message_end q + 2) b place (omega (arith, p.here)) (rw (pad, z, d))
    (sym (part_last s (message_end q + 2) n (omega (arith, w.route.whole)))) in
    let whole : s ≡ laid (send_head (send_at s) q) ++ (part s 4 q ++ (laid (send_rest q (words path)) ++ path))
    = fields_were (send_head (send_at s) q) (send_head (send_at s) q) s _ 0 4 b refl l (rw (← is)) (part_split s 4 q ∙ ap (λ (l : List ℕ). part s 4 q ++ l) last) in
    record {
      bytes = whole ∙ ap (λ (k : ℕ). laid (send_head (send_at s) k) ++ (part s 4 q ++ (laid (send_rest k (words path)) ++ path))) (sym long);
      fits = record { ticks = t; timeout = b 1 };
      message = long;
      path = p;
      route = route_again s (message_end q + 2) n b w.route.sized.short p;
      small = small;
    }

pub send_written_of_read : (s : List ℕ) (u : UnconnectedSend) (from m start len : ℕ) → Bytes s → read_send s ≡ done (sent u from m start len) → SendWas s u from m start len
unfolding read_send send_behind
send_written_of_read s u from m start len b h =
    let q : ℕ = value_of 2 (drop 2 s) in
    let a = all_were _ _ (sent u from m start len) h in
    let c = all_were _ _ (sent u from m start len) a.1 in
    let r = all_were _ _ (sent u from m start len) c.1 in
    let v = then_were _ _ (sent u from m start len) r.1 in
    let n : ℕ = v.found in
    let w : SendWas s (send_at s) 4 q (message_end q + 2) n
    = send_was s q n b a.0.0 a.0.1.1.0 c.0.0 refl r.0.0 r.0.1.1.0 (padded_was s (message_end q) n v.is) in
    let e = done_same v.then in
    let e1 : send_at s ≡ u = cc in
    let e2 : 4 ≡ from = cc in
    let e3 : q ≡ m = cc in
    let e4 : message_end q + 2 ≡ start = cc in
    let e5 : n ≡ len = cc in
    send_same s e1 e2 e3 e4 e5 w
