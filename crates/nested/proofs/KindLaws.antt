-- What a message opens: each end of the tests as a law, and that a path is opened exactly where it is the one. Assumes nothing.
use Prim.Native.Nat.{ℕ, ◌≤◌}
use mathlib.Core.Path.{◌≡◌, refl, sym, ap, ◌∙◌}
use mathlib.Core.List.{List, [], ◌∷◌}
use mathlib.Core.Bool.{Bool, true, false}
use native.Mathlib.Omega.{arith}
use mir.Val.{Fits}
use mir.Syntax.{w8}
use lib.ListN.{length, get_or}
use borrow.Author.Tests.{le-leb, eq-eqb}
use Rattle.wire.specs.Choice.{same_bytes}
use Rattle.wire.proofs.Choice.{pick_past, same_is, same_not}
use Rattle.wire.specs.Parts.{part}
use Rattle.epath_sizes.specs.Limits.{class_code, instance_code}
use Rattle.message_read.specs.declared.MessageRequest.{MessageRequest}
use Rattle.nested.specs.declared.kinds.Kind.{Kind}
use Rattle.nested.specs.declared.kinds.Kind.TheVariants.{Plain, Packet, Send}
use Rattle.nested.specs.Nested.{packet_service, message_router, send_service, connection_manager, path_to, kind_of, opens_as}

-- ---- the path

pub path_to_lem : (c : ℕ) → c ≤ 255 → path_to c ≡ class_code ∷ c ∷ instance_code ∷ 1 ∷ []
path_to_lem c h = simp (le-leb c 255 h) refl

pub path_is : (p : List ℕ) (c : ℕ) → c ≤ 255 → (p ≡ class_code ∷ c ∷ instance_code ∷ 1 ∷ []) → p ≡ path_to c
path_is p c h e = e ∙ sym (path_to_lem c h)

pub path_was : (p : List ℕ) (c : ℕ) → c ≤ 255 → p ≡ path_to c → p ≡ class_code ∷ c ∷ instance_code ∷ 1 ∷ []
path_was p c h e = e ∙ path_to_lem c h

pub ruleset path_laws = (path_is, path_was)

-- ---- the kind
module _ (s : ℕ) (p : List ℕ) where
  pub kind_packet : s ≡ packet_service → p ≡ path_to message_router → Packet ≡ kind_of s p
  unfolding kind_of
  kind_packet h f = simp (eq-eqb s packet_service h, sym (same_is p (path_to message_router) f)) refl

  pub kind_not_packet : s ≡ packet_service → (p ≡ path_to message_router → ⊥) → Plain ≡ kind_of s p
  unfolding kind_of
  kind_not_packet h f = simp (eq-eqb s packet_service h, sym (same_not p (path_to message_router) f)) refl

  module _ (n : s ≡ packet_service → ⊥) where
    pub kind_send : s ≡ send_service → p ≡ path_to connection_manager → Send ≡ kind_of s p
    unfolding kind_of
    kind_send h f = pick_past s packet_service _ _ Send n (simp (eq-eqb s send_service h, sym (same_is p (path_to connection_manager) f)) refl)

    pub kind_not_send : s ≡ send_service → (p ≡ path_to connection_manager → ⊥) → Plain ≡ kind_of s p
    unfolding kind_of
    kind_not_send h f = pick_past s packet_service _ _ Plain n (simp (eq-eqb s send_service h, sym (same_not p (path_to connection_manager) f)) refl)

    pub kind_plain : (s ≡ send_service → ⊥) → Plain ≡ kind_of s p
    unfolding kind_of
    kind_plain m = pick_past s packet_service _ _ Plain n (pick_past s send_service _ _ Plain m refl)

pub ruleset kind_laws = (kind_packet, kind_not_packet, kind_send, kind_not_send, kind_plain)

pub opens_kind : (s path : List ℕ) (m : MessageRequest) (k : Kind) → path ≡ part s m.path_start m.path_len → k ≡ kind_of m.service_code path → k ≡ opens_as s m
opens_kind s path m k e f = f ∙ ap (kind_of m.service_code) e
