-- What a call found is the only thing that was due.
use Rattle.std.proofs.Common.{◌≡◌, Option, None, Some, Result, Ok, Err, MatchResult, refl}
use Rattle.std.specs.Prelude.{IsErrOf}
use Rattle.aws_main.specs.declared.causes.Unbuilt.{Unbuilt}
use Rattle.aws_main.specs.declared.causes.Unbuilt.TheVariants.{NotBuilt, OutOfMemory}
use Rattle.aws_main.specs.Finding.{Finds}

pub finds_only : {T : Type 0} (due : Option T) (result : Result T Unbuilt) (x : T) → Finds (λ t. t) due result → due ≡ Some x → MatchResult result (λ made. made ≡ x) (λ e. e ≡ OutOfMemory)
finds_only due (Ok y) x finds is = cc
finds_only due (Err NotBuilt) x finds is = cc
finds_only due (Err OutOfMemory) x finds is = refl

-- a refusal tells that nothing was due
pub finds_none : {T U : Type 0} (view : T → U) (due : Option U) (result : Result T Unbuilt) → Finds view due result → IsErrOf result NotBuilt → due ≡ None
finds_none view due (Ok y) finds is = cc
finds_none view due (Err NotBuilt) finds is = finds
finds_none view due (Err OutOfMemory) finds is = cc
