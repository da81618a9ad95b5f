-- Outcomes that stop, and what a call's answer says of reading.
use Rattle.std.proofs.Common.{Result, Ok, Err}
use Rattle.std.specs.Prelude.{IfOk, IfErr}
use Rattle.jmes_syntax.specs.declared.stop.Stop.{Stop}
use Rattle.jmes_syntax.specs.declared.stop.Stop.TheVariants.{Syntax, UnknownFunction, Arity, OutOfMemory}
use Rattle.jmes_syntax.specs.Reading.{Stops}

-- one reason gives another
pub weaker : (P Q : Stop → Type 0) (stop : Stop) → ((s : Stop) → P s → Q s) → Stops P stop → Stops Q stop
weaker P Q (Syntax left) f h = f (Syntax left) h
weaker P Q (UnknownFunction left) f h = f (UnknownFunction left) h
weaker P Q (Arity left) f h = f (Arity left) h
weaker P Q OutOfMemory f h = tt

-- what holds of every reason
pub all_stop : (P : Stop → Type 0) (stop : Stop) → P stop → Stops P stop
all_stop P (Syntax left) h = h
all_stop P (UnknownFunction left) h = h
all_stop P (Arity left) h = h
all_stop P OutOfMemory h = tt

-- what a call says of its answer says something else
pub ok_weaker : {X : Type 0} (r : Result X Stop) (P Q : X → Type 0) → ((x : X) → P x → Q x) → IfOk r P → IfOk r Q
ok_weaker (Ok x) P Q f h = f x h
ok_weaker (Err stop) P Q f h = tt

pub err_weaker : {X : Type 0} (r : Result X Stop) (P Q : Stop → Type 0) → ((s : Stop) → P s → Q s) → IfErr r (Stops P) → IfErr r (Stops Q)
err_weaker (Ok x) P Q f h = tt
err_weaker (Err stop) P Q f h = weaker P Q stop f h
