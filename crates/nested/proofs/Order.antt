-- Rows before those of an answer, and messages in order, forwards and backwards. Assumes nothing.
use Prim.Native.Nat.{ℕ, suc, ◌-◌}
use mathlib.Core.Path.{◌≡◌, refl, sym, ap}
use mathlib.Core.List.{List, [], ◌∷◌, ◌++◌, append_assoc, append-nil}
use Rattle.wire.specs.Parts.{part}
use Rattle.wire.specs.Answers.{Answer, done, refused, and_then}
use Rattle.wire.proofs.Rules.{done_same, Went, then_were}
use Rattle.message_read.specs.declared.MessageRequest.{MessageRequest}
use Rattle.message_read.specs.Reads.{read_message}
use Rattle.nested.specs.Nested.{max_depth, opens_as, held, Row, row_of, onto, in_order, message_by, listed}

pub onto_none : (w : Answer (List Row)) → w ≡ onto [] w
onto_none (done rs) = refl
onto_none (refused e) = refl

pub onto_onto : (a b : List Row) (w : Answer (List Row)) → onto a (onto b w) ≡ onto (a ++ b) w
onto_onto a b (done c) = ap done (sym (append_assoc a b c))
onto_onto a b (refused e) = refl

-- a list of one message
pub in_order_one : (f : List ℕ → Answer (List Row)) (x : List ℕ) → in_order f (x ∷ []) ≡ f x
unfolding in_order
in_order_one f x = go (f x)
  where
    go : (w : Answer (List Row)) → and_then w (λ rs. onto rs (done [])) ≡ w
    go (done rs) = ap done (append-nil rs)
    go (refused e) = refl

-- ---- backwards

-- the rows of a list of messages are those of the first, then those of the rest
pub record Apart (f : List ℕ → Answer (List Row)) (x : List ℕ) (xs : List (List ℕ)) (rs : List Row) : Type 0 where
  pub first : List Row
  pub rest : List Row
  pub first_is : f x ≡ done first
  pub rest_is : in_order f xs ≡ done rest
  pub all : first ++ rest ≡ rs

pub apart : (f : List ℕ → Answer (List Row)) (x : List ℕ) (xs : List (List ℕ)) (rs : List Row) → in_order f (x ∷ xs) ≡ done rs → Apart f x xs rs
unfolding in_order
apart f x xs rs h =
    let w = then_were (f x) _ rs h in
    let v = then_were (in_order f xs) (λ more. done (w.found ++ more)) rs w.then in
    record { first = w.found; rest = v.found; first_is = w.is; rest_is = v.is; all = done_same v.then }

-- the rows of a message are its own, then those of what it holds
pub record OneLevel (left : ℕ) (s : List ℕ) (rs : List Row) : Type 0 where
  pub message : MessageRequest
  pub read : read_message s ≡ done message
  pub them : List (List ℕ)
  pub holds : held (opens_as s message) (part s message.data_start message.data_len) ≡ done them
  pub more : List Row
  pub more_is : in_order (λ x. listed left x) them ≡ done more
  pub all : (row_of (max_depth - left) message ∷ more) ≡ rs

pub one_level : (left : ℕ) (s : List ℕ) (rs : List Row) → listed (suc left) s ≡ done rs → OneLevel left s rs
unfolding listed message_by
one_level left s rs h =
    let w = then_were (read_message s) _ rs h in
    let m : MessageRequest = w.found in
    let v : Went _ (λ more. done ((row_of (max_depth - left) m ∷ []) ++ more)) rs = then_were _ _ rs w.then in
    let u : Went (held (opens_as s m) (part s m.data_start m.data_len)) (in_order (λ x. listed left x)) v.found = then_were _ _ v.found v.is in
    record { message = m; read = w.is; them = u.found; holds = u.is; more = v.found; more_is = u.then; all = done_same v.then }
