-- What a status says. General status codes: CIP Volume 1, Appendix B-1; the Connection Manager's extended ones and routing errors: 3-5.5 (the
-- crate's page cites 3-5.5.4). Assumes nothing: these are definitions.
use Rattle.std.specs.Prelude.{ℕ, Bool, true, false, eqb}
use Rattle.std.specs.Prelude.{Option, Some, None}
use Rattle.wire.specs.Choice.{pick}
use Rattle.statuses.specs.declared.Status.{Status}

-- success is general status 0
abbrev pub is_ok : Status → Bool
is_ok s = pick (eqb s.general 0) true false

-- timeout; and in the route path an invalid port, an invalid node address, an invalid segment
abbrev pub routing_word : ℕ → Bool
routing_word w = pick (eqb w 0x0204) true (pick (eqb w 0x0311) true (pick (eqb w 0x0312) true (pick (eqb w 0x0315) true false)))

abbrev pub routing_extended : Option ℕ → Bool
routing_extended None = false
routing_extended (Some w) = routing_word w

-- a connection failure (1) with one of these words, a resource error (2), a path segment error (4)
abbrev pub is_routing_error : Status → Bool
is_routing_error s =
    pick (eqb s.general 1) (routing_extended s.extended) (pick (eqb s.general 2) true (pick (eqb s.general 4) true false))
