-- A segment counted from an earlier place. Assumes nothing.
use Prim.Native.Nat.{ℕ, ◌+◌, ◌≤◌}
use mathlib.Core.Path.{◌≡◌}
use native.Mathlib.Omega.{arith}
use mir.Val.{Fits}
use mir.Syntax.{w32}
use Rattle.epath_sizes.specs.Limits.{max_place}
use Rattle.epath_sizes.specs.Lists.{start_of, shifted}
use Rattle.epath_sizes.specs.declared.Segment.{Segment}
use Rattle.epath_sizes.specs.declared.Segment.TheVariants.{Symbol, Class, Instance, Attribute, Element, Port}
use Rattle.epath_sizes.specs.declared.PortSegment.{PortSegment}
use Rattle.epath_sizes.specs.declared.SymbolSegment.{SymbolSegment}

module _ (x : Segment) (at : ℕ) where
  pub shift_symbol : (y : SymbolSegment) → x ≡ Symbol y → Symbol (record { start = at + y.start; len = y.len }) ≡ shifted at x
  shift_symbol y h = rw h

  pub shift_class : (v : ℕ) → x ≡ Class v → Class v ≡ shifted at x
  shift_class v h = rw h

  pub shift_instance : (v : ℕ) → x ≡ Instance v → Instance v ≡ shifted at x
  shift_instance v h = rw h

  pub shift_attribute : (v : ℕ) → x ≡ Attribute v → Attribute v ≡ shifted at x
  shift_attribute v h = rw h

  pub shift_element : (v : ℕ) → x ≡ Element v → Element v ≡ shifted at x
  shift_element v h = rw h

  pub shift_port : (q : PortSegment) → x ≡ Port q → Port (record { port = q.port; start = at + q.start; len = q.len }) ≡ shifted at x
  shift_port q h = rw h

  pub near_symbol : (y : SymbolSegment) → x ≡ Symbol y → start_of x ≤ 4 → y.start ≤ 4
  near_symbol y h l = rw h at l

  pub near_port_lem : (q : PortSegment) → x ≡ Port q → start_of x ≤ 4 → q.start ≤ 4
  near_port_lem q h l = rw h at l

  pub fits_symbol : (y : SymbolSegment) → x ≡ Symbol y → start_of x ≤ 4 → at ≤ max_place → Fits w32 (at + y.start)
  fits_symbol y h l m = record { fits = (let n : y.start ≤ 4 = near_symbol y h l in omega arith) }

  pub fits_port : (q : PortSegment) → x ≡ Port q → start_of x ≤ 4 → at ≤ max_place → Fits w32 (at + q.start)
  fits_port q h l m = record { fits = (let n : q.start ≤ 4 = near_port_lem q h l in omega arith) }

pub ruleset shift_laws = (fits_symbol, fits_port, shift_symbol, shift_class, shift_instance, shift_attribute, shift_element, shift_port, near_symbol, near_port_lem)
