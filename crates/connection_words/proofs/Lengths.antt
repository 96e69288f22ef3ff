-- How many bytes a request has. Assumes nothing.
use Prim.Native.Nat.{ℕ, ◌+◌, ◌*◌, ◌%◌}
use mathlib.Core.Path.{◌≡◌}
use mathlib.Core.List.{List, ◌++◌}
use native.Mathlib.Omega.{arith}
use lib.ListN.{length, length-append}
use Rattle.wire.specs.Records.{Field, laid}
use Rattle.wire.proofs.Records.{laid_size}
use Rattle.connection.specs.declared.OpenOptions.{OpenOptions}
use Rattle.connection.specs.declared.ForwardCloseRequest.{ForwardCloseRequest}
use Rattle.connection.specs.declared.UnconnectedSend.{UnconnectedSend}
use Rattle.connection_words.specs.Requests.{words, message_bytes, parameter_width, open_head, open_rest, open_bytes, close_fields, close_bytes, send_head, send_rest, send_bytes}

pub message_length : (service : ℕ) (path content : List ℕ) → length (message_bytes service path content) ≡ 2 + length path + length content
unfolding message_bytes
message_length service path content = omega (arith, length-append path content)

pub open_length : (o : OpenOptions) (path : List ℕ) → length (open_bytes o path) ≡ 32 + 2 * parameter_width o.large_open + length path
unfolding open_bytes
open_length o path =
    let rest : List Field = open_rest o (words path) in
    omega (arith, laid_size (open_head o) (laid rest ++ path), laid_size rest path)

pub close_length : (c : ForwardCloseRequest) (path : List ℕ) → length (close_bytes c path) ≡ 12 + length path
unfolding close_bytes
close_length c path = laid_size (close_fields c (words path)) path

pub send_length : (u : UnconnectedSend) (message path : List ℕ) → length (send_bytes u message path) ≡ 4 + length message + length message % 2 + 2 + length path
unfolding send_bytes
send_length u message path =
    let head : List Field = send_head u (length message) in
    let rest : List Field = send_rest (length message) (words path) in
    omega (arith, laid_size head (message ++ (laid rest ++ path)), length-append message (laid rest ++ path), laid_size rest path)
