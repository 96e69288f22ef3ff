-- How many bytes a reply has. Assumes nothing.
use Prim.Native.Nat.{ℕ, ◌+◌}
use mathlib.Core.Path.{◌≡◌}
use mathlib.Core.List.{List, ◌++◌}
use native.Mathlib.Omega.{arith}
use lib.ListN.{length, length-append}
use Rattle.wire.specs.Records.{laid}
use Rattle.wire.proofs.Records.{laid_size}
use Rattle.connection.specs.declared.ForwardOpenSuccess.{ForwardOpenSuccess}
use Rattle.connection.specs.declared.ForwardCloseSuccess.{ForwardCloseSuccess}
use Rattle.statuses.specs.Layouts.{header_fields}
use Rattle.success_encode.specs.Replies.{success, app_fields, open_success_fields, close_success_fields, open_reply_bytes, close_reply_bytes, success_bytes}
use Rattle.success_encode.specs.Sizes.{open_success_base, close_success_base}

pub open_reply_length : (service : ℕ) (o : ForwardOpenSuccess) (app : List ℕ) → length (open_reply_bytes service o app) ≡ open_success_base + length app
unfolding open_reply_bytes
open_reply_length service o app = laid_size (header_fields service success ++ (open_success_fields o ++ app_fields app)) app

pub close_reply_length : (service : ℕ) (c : ForwardCloseSuccess) (app : List ℕ) → length (close_reply_bytes service c app) ≡ close_success_base + length app
unfolding close_reply_bytes
close_reply_length service c app = laid_size (header_fields service success ++ (close_success_fields c ++ app_fields app)) app

pub success_length : (service : ℕ) (fields app : List ℕ) → length (success_bytes service fields app) ≡ length fields + 6 + length app
unfolding success_bytes
success_length service fields app = omega (arith, length-append fields (laid (app_fields app) ++ app))
