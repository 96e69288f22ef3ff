-- What requests share, both ways: what is laid out in a row, and the path behind a size byte. Assumes nothing.
use Prim.Native.Nat.{ℕ, ◌+◌, ◌*◌, ◌%◌, ◌≤◌, ◌<◌}
use mathlib.Core.Path.{◌≡◌, ap, ◌∙◌}
use mathlib.Core.List.{List}
use native.Mathlib.Omega.{arith}
use lib.ListN.{length, get_or}
use Rattle.wire.specs.Numbers.{Bytes}
use Rattle.wire.specs.Parts.{part}
use Rattle.wire.specs.Answers.{done}
use Rattle.wire.proofs.Numbers.{bytes_part}
use Rattle.wire.proofs.Rules.{done_same, all_keep, all_were, then_were, then_done}
use Rattle.wire.proofs.Stores.{part_length}
use Rattle.epath_check.specs.Paths.{check_path}
use Rattle.epath.proofs.Theorems.{checked_even}
use Rattle.connection.specs.Limits.{max_path}
use Rattle.connection_words.specs.Requests.{words}
use Rattle.message_read.specs.Reads.{path_bytes, path_at, last_path, route_at, padded_route_at}
use Rattle.message_read.proofs.ReadLaws.{SizeWas, size_was, PathWas, path_was}

-- ---- a path that may stand behind a size byte

pub record Route (path : List ℕ) : Type 0 where
  pub count : ℕ
  pub is : check_path path ≡ done count
  pub short : length path ≤ max_path
  pub even : length path % 2 ≡ 0

pub route : (path : List ℕ) (n : ℕ) → Bytes path → check_path path ≡ done n → length path ≤ max_path → Route path
route path n b h l = record { count = n; is = h; short = l; even = checked_even path n b h }

pub words_twice : (path : List ℕ) → Route path → 2 * words path ≡ length path
words_twice path r = omega (arith, r.even)

pub words_small : (path : List ℕ) → Route path → words path < 256
words_small path r = omega (arith, r.short)

-- ---- read of written

pub size_back : (s path : List ℕ) (at : ℕ) → Route path → at + 1 ≤ length s → get_or s at 0 ≡ words path → path_bytes s at ≡ done (length path)
unfolding path_bytes
size_back s path at r h e =
    let l : 2 * get_or s at 0 ≡ length path = ap (λ (k : ℕ). 2 * k) e ∙ words_twice path r in
    all_keep _ _ (h, (omega (arith, r.short), tt))
    ∙ ap done l

pub path_back : (s path : List ℕ) (at : ℕ) (r : Route path) → at + length path ≤ length s → part s at (length path) ≡ path → path_at s at (length path) ≡ done r.count
unfolding path_at
path_back s path at r h e =
    all_keep _ _ (h, tt) ∙ ap check_path e ∙ r.is

pub last_back : (s path : List ℕ) (at : ℕ) → Route path → length s ≡ at + length path → part s at (length path) ≡ path → last_path s at (length path) ≡ done (length path)
unfolding last_path
last_back s path at r h e =
    then_done _ _ r.count (path_back s path at r (omega arith) e)
    ∙ all_keep _ _ (omega arith, tt)

pub route_back : (s path : List ℕ) (at : ℕ) → Route path → length s ≡ at + 1 + length path → get_or s at 0 ≡ words path → part s (at + 1) (length path) ≡ path
    → route_at s at ≡ done (length path)
unfolding route_at
route_back s path at r h w e =
    then_done _ _ (length path) (size_back s path at r (omega arith) w) ∙ last_back s path (at + 1) r h e

pub padded_back : (s path : List ℕ) (at : ℕ) → Route path → length s ≡ at + 2 + length path → get_or s at 0 ≡ words path → get_or s (at + 1) 0 ≡ 0
    → part s (at + 2) (length path) ≡ path → padded_route_at s at ≡ done (length path)
unfolding padded_route_at
padded_back s path at r h w z e =
    then_done _ _ (length path) (size_back s path at r (omega arith) w)
    ∙ all_keep _ _ (omega arith, (z, tt))
    ∙ last_back s path (at + 2) r h e

-- ---- written of read

-- a path that was judged at the end of its record, behind the size byte at a place
pub record RouteWas (s : List ℕ) (size at len : ℕ) : Type 0 where
  pub sized : SizeWas s size len
  pub path : PathWas s at len
  pub whole : length s ≡ at + len

last_was : (s : List ℕ) (size at len n : ℕ) → SizeWas s size len → last_path s at len ≡ done n → RouteWas s size at n
unfolding last_path
last_was s size at len n z h =
    let w = then_were _ _ n h in
    let p : PathWas s at len = path_was s at len w.found w.is in
    let u = all_were _ _ n w.then in
    let k : length s ≤ at + len = u.0.0 in
    let f : len ≡ n = done_same u.1 in
    rw (← f) (record { sized = z; path = p; whole = omega (arith, p.here) })

pub route_was : (s : List ℕ) (at n : ℕ) → route_at s at ≡ done n → RouteWas s at (at + 1) n
unfolding route_at
route_was s at n h =
    let w = then_were _ _ n h in
    last_was s at (at + 1) w.found n (size_was s at w.found w.is) w.then

pub record PaddedWas (s : List ℕ) (at n : ℕ) : Type 0 where
  pub route : RouteWas s at (at + 2) n
  pub reserved : get_or s (at + 1) 0 ≡ 0

pub padded_was : (s : List ℕ) (at n : ℕ) → padded_route_at s at ≡ done n → PaddedWas s at n
unfolding padded_route_at
padded_was s at n h =
    let w = then_were _ _ n h in
    let u = all_were _ _ n w.then in
    record { route = last_was s at (at + 2) w.found n (size_was s at w.found w.is) u.1; reserved = u.0.1.0 }

-- how many words the path that was read has: what the size byte says
pub words_was : (s : List ℕ) (size at len : ℕ) → SizeWas s size len → PathWas s at len → words (part s at len) ≡ get_or s size 0
words_was s size at len z p =
    let l : length (part s at len) ≡ len = part_length s at len (omega (arith, p.here)) in
    omega (arith, z.is)

-- a path that was read may stand behind a size byte again
pub route_again : (s : List ℕ) (at len : ℕ) → Bytes s → len ≤ max_path → PathWas s at len → Route (part s at len)
route_again s at len b h p =
    let l : length (part s at len) ≡ len = part_length s at len (omega (arith, p.here)) in
    route (part s at len) p.count (bytes_part s at len b) p.checked (omega arith)
