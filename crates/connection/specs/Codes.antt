-- The numbers that stand for a field's values. CIP Volume 1, 3-5.5.1.1 (network connection parameters) and 3-4.4.3 (transport class and trigger).
-- Assumes nothing: these are definitions.
use Rattle.std.specs.Prelude.{ℕ, [], ◌∷◌, Bool, true, false, eqb}
use Rattle.wire.specs.Choice.{pick}
use Rattle.wire.specs.Answers.{Answer, done, over, judged}
use Rattle.connection.specs.declared.ConnectionType.{ConnectionType}
use Rattle.connection.specs.declared.ConnectionType.TheVariants.{Null, Multicast, P2P}
use Rattle.connection.specs.declared.Priority.{Priority}
use Rattle.connection.specs.declared.Priority.TheVariants.{Low, High, Scheduled, Urgent}
use Rattle.connection.specs.declared.Direction.{Direction}
use Rattle.connection.specs.declared.Direction.TheVariants.{Client, Server}
use Rattle.connection.specs.declared.TriggerType.{TriggerType}
use Rattle.connection.specs.declared.TriggerType.TheVariants.{Cyclic, ChangeOfState, Application}
use Rattle.connection.specs.declared.TransportClass.{TransportClass}
use Rattle.connection.specs.declared.TransportClass.TheVariants.{Class0, Class1, Class2, Class3, Class4, Class5, Class6}
use Rattle.connection.specs.declared.VariableLength.{VariableLength}
use Rattle.connection.specs.declared.VariableLength.TheVariants.{Fixed, Variable}

abbrev pub bit : Bool → ℕ
bit false = 0
bit true = 1

abbrev pub variable_number : VariableLength → ℕ
variable_number Fixed = 0
variable_number Variable = 1

abbrev pub priority_number : Priority → ℕ
priority_number Low = 0
priority_number High = 1
priority_number Scheduled = 2
priority_number Urgent = 3

-- 3 is reserved
abbrev pub type_number : ConnectionType → ℕ
type_number Null = 0
type_number Multicast = 1
type_number P2P = 2

abbrev pub direction_number : Direction → ℕ
direction_number Client = 0
direction_number Server = 1

-- 3 to 7 are reserved
abbrev pub trigger_number : TriggerType → ℕ
trigger_number Cyclic = 0
trigger_number ChangeOfState = 1
trigger_number Application = 2

-- 7 to 15 are reserved
abbrev pub class_number : TransportClass → ℕ
class_number Class0 = 0
class_number Class1 = 1
class_number Class2 = 2
class_number Class3 = 3
class_number Class4 = 4
class_number Class5 = 5
class_number Class6 = 6

-- ---- the last number of each field that stands for something

abbrev pub last_priority : ℕ
last_priority = 3

abbrev pub last_type : ℕ
last_type = 2

abbrev pub last_trigger : ℕ
last_trigger = 2

abbrev pub last_class : ℕ
last_class = 6

-- ---- back, where a number is none of the reserved ones

abbrev pub variable_of : ℕ → VariableLength
variable_of n = pick (eqb n 0) Fixed Variable

abbrev pub priority_of : ℕ → Priority
priority_of n = pick (eqb n 0) Low (pick (eqb n 1) High (pick (eqb n 2) Scheduled Urgent))

abbrev pub type_of : ℕ → ConnectionType
type_of n = pick (eqb n 0) Null (pick (eqb n 1) Multicast P2P)

abbrev pub direction_of : ℕ → Direction
direction_of n = pick (eqb n 0) Client Server

abbrev pub trigger_of : ℕ → TriggerType
trigger_of n = pick (eqb n 0) Cyclic (pick (eqb n 1) ChangeOfState Application)

abbrev pub class_of : ℕ → TransportClass
class_of n =
    pick (eqb n 0) Class0 (pick (eqb n 1) Class1 (pick (eqb n 2) Class2
    (pick (eqb n 3) Class3 (pick (eqb n 4) Class4 (pick (eqb n 5) Class5 Class6)))))

-- ---- any number back: what is past the last one is a reserved code

unfoldable pub coded : {A : Type 0} → ℕ → (ℕ → A) → ℕ → Answer A
coded last of n = judged (over n last 4 ∷ []) (done (of n))
