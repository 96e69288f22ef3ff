-- The reader of Forward Open and the bytes that its writer makes are each other's, once over small and large. Assumes nothing.
use Prim.Native.Nat.{ℕ, ◌+◌, ◌≤◌, ◌<◌}
use mathlib.Core.Path.{◌≡◌, refl, sym, ap, ◌∙◌}
use mathlib.Core.List.{List, ◌++◌}
use mathlib.Core.Bool.{Bool, true, false}
use native.Mathlib.Omega.{arith}
use lib.ListN.{length, get_or, drop}
use Rattle.wire.specs.Numbers.{value_of, Bytes}
use Rattle.wire.specs.Parts.{part}
use Rattle.wire.specs.Answers.{Answer, done, and_then}
use Rattle.wire.specs.Records.{Field, laid, widths, AllHold, fields_at}
use Rattle.wire.proofs.Numbers.{value_small, bytes_drop}
use Rattle.wire.proofs.Rules.{done_same, all_keep, all_were, then_were, then_done}
use Rattle.wire.proofs.Records.{field, fields_back, fields_were, laid_size, past_laid}
use Rattle.connection.specs.Limits.{size_limit}
use Rattle.connection_words.specs.Fields.{Transport, transport, word_of, read_parameters, class_trigger, read_transport}
use Rattle.connection_words.specs.Requests.{words, parameter_width, open_head, open_rest, open_bytes}
use Rattle.connection.specs.declared.ConnectionParameters.{ConnectionParameters}
use Rattle.connection.specs.declared.OpenOptions.{OpenOptions}
use Rattle.connection.specs.declared.Direction.{Direction}
use Rattle.connection.specs.declared.TriggerType.{TriggerType}
use Rattle.connection.specs.declared.TransportClass.{TransportClass}
use Rattle.request_first.specs.Firsts.{most_ticks}
use Rattle.message_read.specs.Reads.{route_at}
use Rattle.open_read.specs.Reads.{Opened, opened, second_place, transport_place, parameters_at, transport_at, options_at, open_end, open_behind, read_open}
use Rattle.connection_words.proofs.Words.{word_holds, parameters_read_of_written, WordWas, parameters_written_of_read, trigger_holds, transport_read_of_written, transport_written_of_read}
use Rattle.message_read.proofs.ReadLaws.{PathWas}
use Rattle.request_theorems.proofs.Routes.{Route, words_small, route_back, RouteWas, route_was, words_was, route_again}
use Rattle.wire.proofs.Stores.{part_end, part_last}

width_most : (large : Bool) → parameter_width large ≤ 4
width_most false = omega arith
width_most true = omega arith

-- ---- read of written

-- the numbers are such as their fields hold, and no reserved bit is set
pub record OpenFits (o : OpenOptions) : Type 0 where
  pub ticks : o.priority_tick_time ≤ most_ticks
  pub timeout : o.timeout_ticks < 256
  pub to_target : o.o_t_connection_id < 4294967296
  pub to_originator : o.t_o_connection_id < 4294967296
  pub serial : o.connection_serial_number < 65536
  pub vendor : o.vendor_id < 65536
  pub originator : o.originator_serial_number < 4294967296
  pub multiplier : o.timeout_multiplier < 256
  pub target_interval : o.o_t_rpi < 4294967296
  pub originator_interval : o.t_o_rpi < 4294967296
  pub target_size : o.o_t_params.connection_size ≤ size_limit o.large_open
  pub originator_size : o.t_o_params.connection_size ≤ size_limit o.large_open

parameters_back : (large : Bool) (s : List ℕ) (at : ℕ) (p : ConnectionParameters) → p.connection_size ≤ size_limit large → at + parameter_width large ≤ length s
    → value_of (parameter_width large) (drop at s) ≡ word_of large p → parameters_at large s at ≡ done p
unfolding parameters_at
parameters_back large s at p small h e =
    all_keep _ _ (h, tt)
    ∙ ap (read_parameters large) e
    ∙ parameters_read_of_written large p small

transport_back : (o : OpenOptions) (s : List ℕ) (at : ℕ) → at + 1 ≤ length s → get_or s at 0 ≡ class_trigger o
    → transport_at s at ≡ done (transport o.transport_direction o.transport_trigger o.transport_class)
unfolding transport_at
transport_back o s at h e =
    all_keep _ _ (h, tt) ∙ ap read_transport e ∙ transport_read_of_written o

pub record OpenBack (o : OpenOptions) (path s : List ℕ) : Type 0 where
  pub read : read_open o.large_open s ≡ done (opened o (transport_place o.large_open + 2) (length path))
  pub path_is : part s (transport_place o.large_open + 2) (length path) ≡ path

-- s is what the fields and the path are laid out as
open_back : (o : OpenOptions) (path s : List ℕ) → OpenFits o → Route path → s ≡ laid (open_head o) ++ (laid (open_rest o (words path)) ++ path) → OpenBack o path s
unfolding read_open open_behind open_end
open_back o path s t r is =
    let large : Bool = o.large_open in
    let k : ℕ = parameter_width large in
    let at : ℕ = transport_place large in
    let way : Transport = transport o.transport_direction o.transport_trigger o.transport_class in
    let w : ℕ = words path in
    let head : List Field = open_head o in
    let rest : List Field = open_rest o w in
    let most : k ≤ 4 = width_most large in
    let l : length s ≡ at + 2 + length path = omega (arith, ap length is, laid_size head (laid rest ++ path), laid_size rest path) in
    let behind : drop 22 s ≡ laid rest ++ path = past_laid s head (laid rest ++ path) 0 is in
    let holds_head : AllHold head
    = (omega (arith, t.ticks), (t.timeout, (t.to_target, (t.to_originator, (t.serial, (t.vendor, (t.originator, (t.multiplier, (omega arith, tt))))))))) in
    let holds_rest : AllHold rest
    = (t.target_interval, (word_holds large o.o_t_params t.target_size, (t.originator_interval, (word_holds large o.t_o_params t.originator_size, (trigger_holds o, (words_small path r, tt)))))) in
    let e : fields_at head s 0 ≡ head = fields_back head s (laid rest ++ path) 0 holds_head is in
    let f : fields_at rest s 22 ≡ rest = fields_back rest s path 22 holds_rest behind in
    let e0 : get_or s 0 0 ≡ o.priority_tick_time = ap (field 0) e in
    let e1 : get_or s 1 0 ≡ o.timeout_ticks = ap (field 1) e in
    let e2 : value_of 4 (drop 2 s) ≡ o.o_t_connection_id = ap (field 2) e in
    let e3 : value_of 4 (drop 6 s) ≡ o.t_o_connection_id = ap (field 3) e in
    let e4 : value_of 2 (drop 10 s) ≡ o.connection_serial_number = ap (field 4) e in
    let e5 : value_of 2 (drop 12 s) ≡ o.vendor_id = ap (field 5) e in
    let e6 : value_of 4 (drop 14 s) ≡ o.originator_serial_number = ap (field 6) e in
    let e7 : get_or s 18 0 ≡ o.timeout_multiplier = ap (field 7) e in
    let e8 : value_of 3 (drop 19 s) ≡ 0 = ap (field 8) e in
    let f0 : value_of 4 (drop 22 s) ≡ o.o_t_rpi = ap (field 0) f in
    let f1 : value_of k (drop 26 s) ≡ word_of large o.o_t_params = ap (field 1) f in
    let f2 : value_of 4 (drop (second_place large) s) ≡ o.t_o_rpi = ap (field 2) f in
    let f3 : value_of k (drop (second_place large + 4) s) ≡ word_of large o.t_o_params = ap (field 3) f in
    let f4 : get_or s (second_place large + 4 + k) 0 ≡ class_trigger o = ap (field 4) f in
    let f5 : get_or s (second_place large + 4 + k + 1) 0 ≡ w = ap (field 5) f in
    let place : second_place large + 4 + k ≡ at = omega arith in
    let end : 22 + widths rest ≡ at + 2 = omega arith in
    let g4 : get_or s at 0 ≡ class_trigger o = rw place at f4 in
    let g5 : get_or s (at + 1) 0 ≡ w = rw place at f5 in
    let last : drop (at + 2) s ≡ path = rw end at (past_laid s rest path 22 behind) in
    let p : part s (at + 2) (length path) ≡ path = part_end s path (at + 2) last in
    let two : at + 1 + 1 ≡ at + 2 = omega arith in
    let q : part s (at + 1 + 1) (length path) ≡ path = rw two p in
    let same : options_at large s o.o_t_params o.t_o_params way ≡ o = rw (e0, e1, e2, e3, e4, e5, e6, e7, f0, f2) in
    record {
      read =
          all_keep _ _ (omega (arith, r.short), (omega arith, (rw e0 t.ticks, tt)))
          ∙ all_keep _ _ (omega arith, (e8, tt))
          ∙ then_done _ _ o.o_t_params (parameters_back large s 26 o.o_t_params t.target_size (omega arith) f1)
          ∙ then_done _ _ o.t_o_params (parameters_back large s (second_place large + 4) o.t_o_params t.originator_size (omega arith) f3)
          ∙ then_done _ _ way (transport_back o s at (omega arith) g4)
          ∙ then_done _ _ (length path) (route_back s path (at + 1) r (omega arith) g5 q)
          ∙ ap (λ (x : OpenOptions). done (opened x (at + 2) (length path))) same;
      path_is = p;
    }

pub open_read_of_written : (o : OpenOptions) (path : List ℕ) → OpenFits o → Route path → OpenBack o path (open_bytes o path)
unfolding open_bytes
open_read_of_written o path t r = open_back o path (open_bytes o path) t r refl

-- ---- written of read

pub record OpenWas (large : Bool) (s : List ℕ) (o : OpenOptions) (start len : ℕ) : Type 0 where
  pub bytes : s ≡ open_bytes o (part s start len)
  pub form : o.large_open ≡ large
  pub fits : OpenFits o
  pub path : PathWas s start len
  pub route : Route (part s start len)

-- the record whose parts were read, at a path of n bytes
open_was : (large : Bool) (s : List ℕ) (a b : ConnectionParameters) (d : Direction) (t : TriggerType) (c : TransportClass) (n : ℕ) → Bytes s
    → get_or s 0 0 ≤ most_ticks → value_of 3 (drop 19 s) ≡ 0
    → WordWas large (value_of (parameter_width large) (drop 26 s)) a → WordWas large (value_of (parameter_width large) (drop (second_place large + 4) s)) b
    → class_trigger (options_at large s a b (transport d t c)) ≡ get_or s (transport_place large) 0
    → RouteWas s (transport_place large + 1) (transport_place large + 1 + 1) n
    → OpenWas large s (options_at large s a b (transport d t c)) (transport_place large + 2) n
unfolding open_bytes
open_was large s a b d t c n bs ticks reserved wa wb trigger route =
    let at : ℕ = transport_place large in
    let k : ℕ = parameter_width large in
    let o : OpenOptions = options_at large s a b (transport d t c) in
    let two : at + 1 + 1 ≡ at + 2 = omega arith in
    let r : RouteWas s (at + 1) (at + 2) n = rw two at route in
    let p : PathWas s (at + 2) n = r.path in
    let path : List ℕ = part s (at + 2) n in
    let long : length s ≡ at + 2 + n = r.whole in
    let place : second_place large + 4 + k ≡ at = omega arith in
    let w : words path ≡ get_or s (at + 1) 0 = words_was s (at + 1) (at + 2) n r.sized p in
    let w' : get_or s (second_place large + 4 + k + 1) 0 ≡ words path = rw place (sym w) in
    let t' : get_or s (second_place large + 4 + k) 0 ≡ class_trigger o = rw place (sym trigger) in
    let a' : value_of k (drop 26 s) ≡ word_of large a = sym wa.word in
    let b' : value_of k (drop (second_place large + 4) s) ≡ word_of large b = sym wb.word in
    let tail : drop 22 s ≡ laid (open_rest o (words path)) ++ path
    = fields_were (open_rest o 0) (open_rest o (words path)) s path 22 (at + 2) bs (omega arith) (omega arith) (rw (a', b', t', w'))
    (sym (part_last s (at + 2) n (omega arith))) in
    record {
      bytes = fields_were (open_head o) (open_head o) s _ 0 22 bs refl (omega arith) (rw reserved) tail;
      form = refl;
      fits = record {
        ticks = ticks;
        timeout = bs 1;
        to_target = value_small 4 (drop 2 s) (bytes_drop s 2 bs);
        to_originator = value_small 4 (drop 6 s) (bytes_drop s 6 bs);
        serial = value_small 2 (drop 10 s) (bytes_drop s 10 bs);
        vendor = value_small 2 (drop 12 s) (bytes_drop s 12 bs);
        originator = value_small 4 (drop 14 s) (bytes_drop s 14 bs);
        multiplier = bs 18;
        target_interval = value_small 4 (drop 22 s) (bytes_drop s 22 bs);
        originator_interval = value_small 4 (drop (second_place large) s) (bytes_drop s (second_place large) bs);
        target_size = wa.size;
        originator_size = wb.size;
      };
      path = p;
      route = route_again s (at + 2) n bs r.sized.short p;
    }

parameters_were : (large : Bool) (s : List ℕ) (at : ℕ) (p : ConnectionParameters) → parameters_at large s at ≡ done p → WordWas large (value_of (parameter_width large) (drop at s)) p
unfolding parameters_at
parameters_were large s at p h =
    let u = all_were _ _ p h in
    parameters_written_of_read large (value_of (parameter_width large) (drop at s)) p u.1

transport_was : (s : List ℕ) (at : ℕ) (o : OpenOptions) → Bytes s → transport_at s at ≡ done (transport o.transport_direction o.transport_trigger o.transport_class) → class_trigger o ≡ get_or s at 0
unfolding transport_at
transport_was s at o b h =
    let u = all_were _ _ (transport o.transport_direction o.transport_trigger o.transport_class) h in
    transport_written_of_read o (get_or s at 0) (b at) u.1

open_same : (large : Bool) (s : List ℕ) {o p : OpenOptions} {a b c d : ℕ} → o ≡ p → a ≡ b → c ≡ d → OpenWas large s o a c → OpenWas large s p b d
open_same large s i j k w = rw (← i, ← j, ← k) w

-- class and trigger, and the path
end_was : (large : Bool) (s : List ℕ) (a b : ConnectionParameters) (o : OpenOptions) (start len : ℕ) → Bytes s → get_or s 0 0 ≤ most_ticks → value_of 3 (drop 19 s) ≡ 0
    → WordWas large (value_of (parameter_width large) (drop 26 s)) a → WordWas large (value_of (parameter_width large) (drop (second_place large + 4) s)) b
    → (y : Transport) → transport_at s (transport_place large) ≡ done y
    → and_then (route_at s (transport_place large + 1)) (λ n. done (opened (options_at large s a b y) (transport_place large + 2) n)) ≡ done (opened o start len)
    → OpenWas large s o start len
end_was large s a b o start len bs ticks reserved wa wb (transport d t c) is h =
    let at : ℕ = transport_place large in
    let x : OpenOptions = options_at large s a b (transport d t c) in
    let v = then_were _ _ (opened o start len) h in
    let n : ℕ = v.found in
    let w : OpenWas large s x (at + 2) n
    = open_was large s a b d t c n bs ticks reserved wa wb (transport_was s at x bs is) (route_was s (at + 1) n v.is) in
    let e = done_same v.then in
    let e1 : x ≡ o = cc in
    let e2 : at + 2 ≡ start = cc in
    let e3 : n ≡ len = cc in
    open_same large s e1 e2 e3 w

pub open_written_of_read : (large : Bool) (s : List ℕ) (o : OpenOptions) (start len : ℕ) → Bytes s → read_open large s ≡ done (opened o start len) → OpenWas large s o start len
unfolding read_open open_behind open_end
open_written_of_read large s o start len b h =
    let at : ℕ = transport_place large in
    let y : Opened = opened o start len in
    let second : ConnectionParameters → Answer Opened = λ p. and_then (parameters_at large s (second_place large + 4)) (λ q. open_end large s p q) in
    let u = all_were _ _ y h in
    let v = all_were _ _ y u.1 in
    let p = then_were _ _ y v.1 in
    let q = then_were _ _ y p.then in
    let r = then_were _ _ y q.then in
    end_was large s p.found q.found o start len b u.0.1.1.0 v.0.1.0
    (parameters_were large s 26 p.found p.is) (parameters_were large s (second_place large + 4) q.found q.is) r.found r.is r.then
