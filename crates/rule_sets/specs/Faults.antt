-- The fault of a file with a first bad place.
use Rattle.std.specs.Prelude.{Bool, true, false, Result, Ok, Err}
use Rattle.model_files.specs.declared.fault.ModelFault.{ModelFault}
use Rattle.model_files.specs.declared.fault.ModelFault.TheVariants as model
use Rattle.model_files.specs.FaultText.{place_text}
use Rattle.rule_sets.specs.declared.fault.RuleFault.{RuleFault}
use Rattle.rule_sets.specs.declared.fault.RuleFault.TheVariants.{Bad, OutOfMemory}
use Rattle.rule_sets.specs.BadPlaces.{Judged}

-- whatever is wrong at a place makes the place bad; want of memory stays, though what is due never is that
abbrev pub bad_of : ModelFault → RuleFault
bad_of (model.Missing place) = Bad (place_text place)
bad_of (model.UnknownShape place) = Bad (place_text place)
bad_of (model.WrongKind place) = Bad (place_text place)
bad_of (model.Collides place) = Bad (place_text place)
bad_of model.OutOfMemory = OutOfMemory

-- what is read, unless a place is bad
abbrev pub read_unless : {A : Type 0} → Judged → A → Result A RuleFault
read_unless (Ok x) read = Ok read
read_unless (Err fault) read = Err (bad_of fault)

-- want of memory, which is free
abbrev pub is_memory : RuleFault → Bool
is_memory OutOfMemory = true
is_memory (Bad place) = false
