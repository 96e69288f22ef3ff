-- An Unconnected Send's stores, put together: the fields, and the fields around a message before a path that was stored. Assumes nothing.
use Prim.Native.Nat.{ℕ, ◌+◌, ◌/◌, ◌%◌}
use mathlib.Core.Path.{◌≡◌, refl, ap, ◌∙◌}
use mathlib.Core.List.{List, ◌++◌, append_assoc}
use native.Mathlib.Omega.{arith}
use lib.ListN.{length, length-append}
use lib.Seq.{sets}
use Rattle.wire.specs.Records.{laid}
use Rattle.wire.proofs.Stores.{sets_append, sets_ahead}
use Rattle.wire.proofs.Records.{laid_length}
use Rattle.connection_words.specs.Requests.{send_head, send_rest, send_bytes}
use Rattle.connection.specs.declared.UnconnectedSend.{UnconnectedSend}

-- the fields around any message, before any path's bytes: for both writers
pub send_around : (u : UnconnectedSend) (message old : List ℕ) (n : ℕ) (a b c path : List ℕ) → n ≡ length path
    → a ≡ sets old (6 + length message % 2 + length message) path → b ≡ sets a 4 message
    → c ≡ sets (sets b 0 (laid (send_head u (length message)))) (4 + length message) (laid (send_rest (length message) (n / 2)))
    → c ≡ sets old 0 (send_bytes u message path)
unfolding send_bytes
send_around u message old n a b c path size stored e f =
    let m : ℕ = length message in
    let head : List ℕ = laid (send_head u m) in
    let rest : List ℕ = laid (send_rest m (n / 2)) in
    let front : List ℕ = (head ++ message) ++ rest in
    f
    ∙ ap (λ (l : List ℕ). sets l (4 + m) rest) (ap (λ (l : List ℕ). sets l 0 head) e ∙ sets_ahead a head message 4 refl)
    ∙ ap (λ (k : ℕ). sets (sets a 0 (head ++ message)) k rest) (omega (arith, length-append head message))
    ∙ sets_append a (head ++ message) rest 0
    ∙ ap (λ (l : List ℕ). sets l 0 front) stored
    ∙ sets_ahead old front path (6 + m % 2 + m) (omega (arith, length-append (head ++ message) rest, length-append head message, laid_length (send_rest m (n / 2))))
    ∙ ap (λ (l : List ℕ). sets old 0 l) (append_assoc (head ++ message) rest path ∙ append_assoc head message (rest ++ path))
    ∙ rw size
