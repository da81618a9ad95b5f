-- What is due of the words of a line and the files: a request, or why there is none.
use Rattle.std.specs.Prelude.{◌≡◌, ℕ, Bool, true, false, List, Option, None, Some, Result, Ok, Err}
use Rattle.service_model.specs.declared.model.Table.{Table}
use Rattle.service_model.specs.declared.operation.Operation.{Operation}
use Rattle.service_model.specs.declared.operation.Refusal.{Refusal}
use Rattle.service_model.specs.Models.{operation_named}
use Rattle.http_exchange.specs.Wire.{wire_of}
use Rattle.aws_main.specs.declared.asking.Asked.{Asked}
use Rattle.aws_main.specs.declared.causes.Unread.{Unread}
use Rattle.aws_main.specs.declared.causes.Unread.TheVariants.{NotBuilt, Usage, NotAdmitted, OutOfMemory}
use Rattle.aws_main.specs.declared.causes.UsageFault.TheVariants.{UnknownOperation}
use Rattle.aws_main.specs.declared.plain_operations.PlainOperation.{PlainOperation}
use Rattle.aws_main.specs.declared.planning.Planned.{Planned}
use Rattle.aws_main.specs.Causes.{unread_by}
use Rattle.aws_main.specs.Plain.{plain_operation}
use Rattle.aws_main.specs.Request.{message_of}
use Rattle.aws_main.specs.Words.{asked_of}
use Rattle.model_store.specs.declared.fault.Unread.{Unread as NoModel}
use Rattle.model_store.specs.declared.finding.FoundModel.{FoundModel}
use Rattle.model_store.specs.Due.{IsModelOf}
use Rattle.model_store.specs.Folders.{Held, folders_of}

-- an operation, unless it can't be called
abbrev pub unless_refused : Operation → Option Refusal → Result Operation Unread
unless_refused operation None = Ok operation
unless_refused operation (Some refusal) = Err (NotAdmitted refusal)

abbrev pub known : List ℕ → Option Operation → Result Operation Unread
known command None = Err (Usage (UnknownOperation command))
known command (Some operation) = unless_refused operation operation.refusal

-- the operation of a command, where the model has it and it can be called
abbrev pub admitted : List ℕ → Table → Result Operation Unread
admitted command model = known command (operation_named command model.operations)

-- the request for what is asked for, where the operation is built
abbrev pub request_for : Asked → Option PlainOperation → Result Planned Unread
request_for asked None = Err NotBuilt
request_for asked (Some operation) = Ok (record { asked = asked; operation = operation; request = wire_of (message_of asked operation) })

abbrev pub request_of : Asked → Table → Result Operation Unread → Result Planned Unread
request_of asked model (Err refusal) = Err refusal
request_of asked model (Ok operation) = request_for asked (plain_operation model operation)

-- what is due of what is asked for, by the service's model: the operation's name is looked up, then
-- whether it can be called, then whether it is built
abbrev pub due_by : Asked → Table → Result Planned Unread
due_by asked model = request_of asked model (admitted asked.command model)

abbrev pub due_of : Asked → Result FoundModel NoModel → Result Planned Unread
due_of asked (Err refusal) = Err (unread_by refusal)
due_of asked (Ok found) = due_by asked found.model

-- what is due of words that ask for something, or for nothing that is built
abbrev pub IsDueFor : Option Asked → Held → Option Held → Result Planned Unread → Type 0
IsDueFor None env held due = due ≡ Err NotBuilt
IsDueFor (Some asked) env held due =
    (found : Result FoundModel NoModel) × IsModelOf held (folders_of env) asked.service found × (due ≡ due_of asked found)

-- what is due of the words of a line, the environment and the files: the words come first, then the
-- service's model, then what it says of the operation
abbrev pub IsDue : List (List ℕ) → Held → Option Held → Result Planned Unread → Type 0
IsDue words env held due = IsDueFor (asked_of words) env held due

-- want of memory, which is free
abbrev pub is_memory : Unread → Bool
is_memory OutOfMemory = true
is_memory refusal = false
