-- Words of private contracts alone; no public contract cites them: what the code gives beside what is due,
-- where a fault is a path, and the values of an object by the members of a structure.
use Rattle.std.specs.Prelude.{ℕ, ◌≡◌, ◌⊎◌, ◌++◌, List, map, Option, None, Some, option_and_then, Result, Ok, Err, slice_set}
use Rattle.aws_world.specs.declared.message.Reply.{Reply}
use Rattle.json_doc.specs.declared.doc.Doc.{Doc}
use Rattle.resp_parser.specs.Errors.{IsError}
use Rattle.resp_parser.specs.Headers.{unless_null}
use Rattle.resp_parser.specs.Paths.{Path, shown}
use Rattle.resp_parser.specs.Steps.{Step}
use Rattle.resp_parser.specs.declared.body_fault.BodyFault.TheVariants.{At, OutOfMemory}
use Rattle.resp_parser.specs.declared.body_fault.BodyFault.{BodyFault}
use Rattle.resp_parser.specs.declared.fault.ReplyFault.TheVariants as reply
use Rattle.resp_parser.specs.declared.fault.ReplyFault.{ReplyFault}
use Rattle.service_model.specs.declared.metadata.Protocol.{Protocol}
use Rattle.service_model.specs.declared.shape.Member.{Member}
use Rattle.texts.specs.Keys.{value_at}
use Rattle.texts.specs.declared.pairs.Pair.{Pair}

-- the value or the path that is due; want of memory is left open
abbrev pub Ends : {X A : Type 0} → (X → A) → Result X BodyFault → Result A Path → Type 0
Ends view (Ok x) due = due ≡ Ok (view x)
Ends view (Err (At path)) due = due ≡ Err path
Ends view (Err OutOfMemory) due = Unit {0}

-- the value or the path that may come; want of memory is left open
abbrev pub EndsBy : {X A : Type 0} → (X → A) → Result X BodyFault → Step A Path → Type 0
EndsBy view (Ok x) May = May (Ok (view x))
EndsBy view (Err (At path)) May = May (Err path)
EndsBy view (Err OutOfMemory) May = Unit {0}

-- a fault of a part, as one of the whole; memory may be wanted
abbrev pub IsBelow : Path → BodyFault → BodyFault → Type 0
IsBelow step fault OutOfMemory = Unit {0}
IsBelow step (At path) (At made) = made ≡ step ++ path
IsBelow step OutOfMemory (At made) = ⊥

-- an answer as callers have it; to show a path takes memory
abbrev pub IsTold : Result Doc BodyFault → Result Doc ReplyFault → Type 0
IsTold (Ok d) answer = answer ≡ Ok d
IsTold (Err (At path)) answer = (answer ≡ Err (reply.BadBody (shown path))) ⊎ (answer ≡ Err reply.OutOfMemory)
IsTold (Err OutOfMemory) answer = answer ≡ Err reply.OutOfMemory

-- an error that a reply tells of; memory may be wanted
abbrev pub IsFailure : Protocol → Reply → ReplyFault → Type 0
IsFailure protocol r (reply.Service error) = IsError protocol r error
IsFailure protocol r reply.OutOfMemory = Unit {0}
IsFailure protocol r others = ⊥

abbrev pub wires_in : List Member → List (List ℕ)
wires_in members = map (λ m. m.wire) members

-- for each member the value that stands under its wire name
abbrev pub values_of : {X : Type 0} → List Member → List (Pair X) → List (Option X)
values_of members ps = map (λ m. value_at m.wire ps) members

-- a value put at a place, where there is one
abbrev pub put_at : {X : Type 0} → Option ℕ → X → List (Option X) → List (Option X)
put_at None value values = values
put_at (Some at) value values = slice_set values at (Some value)

-- a value that isn't null
abbrev pub there : Option Doc → Option Doc
there value = option_and_then unless_null value
