-- Steps of reading in sequence: how all of them end.
use Rattle.std.proofs.Common.{◌≡◌, Bool, false, Result, Ok, Err, sym, ap, subst, ◌∙◌}
use Rattle.std.specs.Prelude.{IsErr, IsErrAnd, IfOk, ℕ, List}
use Rattle.model_files.specs.declared.fault.ModelFault.{ModelFault}
use Rattle.model_files.specs.Faults.{demand, inside, IsFault, is_memory}
use Rattle.texts.specs.Calls.{◌>>=◌, Answers}
use Rattle.model_files.proofs.Each.{Fails, fails_same, is_due}
use Rattle.model_files.proofs.Steps.{inside_ok}

-- a step that goes well, before steps that fail
pub then_fails : {A B : Type 0} (m : Result A ModelFault) (x : A) (f : A → Result B ModelFault) (fault : ModelFault) → m ≡ Ok x → Fails fault (f x) → Fails fault (m >>= f)
then_fails m x f fault is fails = fails_same fault (f x) (m >>= f) (sym (ap (λ r. r >>= f) is)) fails

-- a step that goes well, before steps that do
pub then_gives : {A B : Type 0} (m : Result A ModelFault) (x : A) (f : A → Result B ModelFault) (y : B) → m ≡ Ok x → f x ≡ Ok y → m >>= f ≡ Ok y
then_gives m x f y is gives = ap (λ r. r >>= f) is ∙ gives

-- a step that goes well, before a last one
pub then_as : {A T U : Type 0} (view : T → U) (m : Result A ModelFault) (x : A) (f : A → Result U ModelFault) (result : Result T ModelFault)
    → m ≡ Ok x → Answers is_memory view result (f x) → Answers is_memory view result (m >>= f)
then_as view m x f result is gives = subst (λ due. Answers is_memory view result due) (sym (ap (λ r. r >>= f) is)) gives

-- what `?` hands on
pub came : {T : Type 0} (result : Result T ModelFault) (fault : ModelFault) → IsErr result × IsErrAnd result (λ e. e ≡ fault) → result ≡ Err fault
came (Ok x) fault e = absurd e.1
came (Err e) fault is = ap Err is.1

-- the answer of a call that ends with the fault of a step
pub ends : {T U : Type 0} (view : T → U) (due : Result U ModelFault) (result : Result T ModelFault) (fault : ModelFault) → result ≡ Err fault → Fails fault due → Answers is_memory view result due
ends view due result fault is fails = subst (λ r. Answers is_memory view r due) (sym is) fails

-- a demand that isn't met
pub demand_fails : {A : Type 0} (b : Bool) (fault due : ModelFault) (others : Result A ModelFault) → b ≡ false → IsFault fault due → Fails fault (demand b due others)
demand_fails {A} b fault due others is fails = fails_same fault (Err due) (demand b due others) (ap (λ x. demand x due others) (sym is)) (is_due A fault due fails)

-- what is known of what was read is known where it came well
pub came_well : {A : Type 0} (P : A → Type 0) (key : List ℕ) (read : Result A ModelFault) (x : A) → IfOk read P → inside key read ≡ Ok x → P x
came_well P key read x known is = subst (λ r. IfOk r P) (inside_ok key read x is) known
