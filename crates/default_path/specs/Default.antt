-- The default path. Assumes nothing: this is a definition.
use Rattle.std.specs.Prelude.{List, [], ◌∷◌}
use Rattle.epath_sizes.specs.Lists.{backplane}
use Rattle.epath_sizes.specs.declared.Segment.TheVariants.{Class, Instance, Port}
use Rattle.epath_sizes.specs.declared.Slot.{Slot}

-- the path of the default Forward Open: the backplane, and instance 1 of class 2, the message router
abbrev pub default_slots : List Slot
default_slots = record { segment = Port backplane } ∷ record { segment = Class 2 } ∷ record { segment = Instance 1 } ∷ []
