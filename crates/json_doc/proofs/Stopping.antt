-- Outcomes that stop, and what a call's answer says of reading.
use Rattle.std.proofs.Common.{Result, Ok, Err}
use Rattle.std.specs.Prelude.{IfOk, IfErr}
use Rattle.json_doc.specs.declared.stop.Stop.{Stop}
use Rattle.json_doc.specs.declared.stop.Stop.TheVariants.{Syntax, TooDeep, NumberTooWide, OutOfMemory}
use Rattle.json_doc.specs.Reading.{Stops}

-- one reason gives another
pub Stops-weaker : (P Q : Stop → Type 0) (stop : Stop) → ((s : Stop) → P s → Q s) → Stops P stop → Stops Q stop
Stops-weaker P Q (Syntax left) f h = f (Syntax left) h
Stops-weaker P Q (TooDeep left) f h = f (TooDeep left) h
Stops-weaker P Q (NumberTooWide left) f h = f (NumberTooWide left) h
Stops-weaker P Q OutOfMemory f h = tt

-- what a call says of its answer says something else
pub IfOk-stops : {X : Type 0} (r : Result X Stop) (P Q : X → Type 0) → ((x : X) → P x → Q x) → IfOk r P → IfOk r Q
IfOk-stops (Ok x) P Q f h = f x h
IfOk-stops (Err stop) P Q f h = tt

pub IfErr-stops : {X : Type 0} (r : Result X Stop) (P Q : Stop → Type 0) → ((s : Stop) → P s → Q s) → IfErr r (Stops P) → IfErr r (Stops Q)
IfErr-stops (Ok x) P Q f h = tt
IfErr-stops (Err stop) P Q f h = Stops-weaker P Q stop f h
