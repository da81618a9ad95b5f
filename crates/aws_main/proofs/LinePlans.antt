-- From the words of a line to its request.
use Rattle.std.proofs.Common.{◌≡◌, ℕ, ◌≤◌, List, Option, None, Some, Result, Ok, Err, refl, sym, ap, ◌∙◌, subst}
use Rattle.std.specs.Prelude.{IfOk, IfErr, IfSome}
use Rattle.service_model.specs.declared.model.Table.{Table}
use Rattle.service_model.specs.declared.operation.Operation.{Operation}
use Rattle.service_model.specs.declared.operation.Refusal.{Refusal}
use Rattle.service_model.specs.Models.{operation_named}
use Rattle.aws_main.specs.declared.causes.Unread.{Unread}
use Rattle.aws_main.specs.declared.causes.Unread.TheVariants.{NotBuilt, Usage, BadModel, NotAdmitted, FileFault, OutOfMemory}
use Rattle.aws_main.specs.declared.causes.Unbuilt.{Unbuilt}
use Rattle.aws_main.specs.declared.causes.Unbuilt.TheVariants.{NotBuilt as pure_not_built, OutOfMemory as pure_no_memory}
use Rattle.aws_main.specs.declared.causes.UsageFault.TheVariants.{UnknownService}
use Rattle.aws_main.specs.declared.asking.Asked.{Asked}
use Rattle.aws_main.specs.declared.plain_operations.PlainOperation.{PlainOperation}
use Rattle.aws_main.specs.declared.planning.Planned.{Planned}
use Rattle.aws_world.specs.declared.message.Message.{Message}
use Rattle.http_exchange.specs.Wire.{wire_of}
use Rattle.aws_main.specs.Plain.{plain_operation}
use Rattle.aws_main.specs.Request.{message_of}
use Rattle.aws_main.specs.Causes.{HasFileCause, unread_by, unread_of}
use Rattle.aws_main.specs.Course.{IsPlanned, IsRefusal}
use Rattle.aws_main.specs.Due.{IsDue, IsDueFor, admitted, due_by, known, request_for, request_of, unless_refused, is_memory}
use Rattle.texts.specs.Calls.{Answers}
use Rattle.aws_main.specs.Words.{asked_of}
use Rattle.model_store.specs.declared.fault.Unread.{Unread as NoModel}
use Rattle.model_store.specs.declared.fault.Unread.TheVariants.{UnknownService as no_service, BadModel as bad_model, FileFault as no_file, OutOfMemory as no_model_memory}
use Rattle.model_store.specs.declared.finding.FoundModel.{FoundModel}
use Rattle.model_store.specs.Due.{IsModelOf}
use Rattle.model_store.specs.Faults.{AnswersIfRead, FailsOnlyAt, HasFileCause as HasSearchCause}
use Rattle.model_store.specs.Folders.{Held, folders_of}
use Rattle.model_store.specs.Versions.{IsLookedAt}

-- words that ask for something are due what their model says
due_for : (words : List (List ℕ)) (env : Held) (held : Option Held) (asked : Asked) (due : Result Planned Unread) → asked_of words ≡ Some asked
    → IsDueFor (Some asked) env held due → IsDue words env held due
due_for words env held asked due is fact = subst (λ a. IsDueFor a env held due) (sym is) fact

-- words that ask for nothing
pub refused_words : (words : List (List ℕ)) (env : Held) (held : Option Held) (refusal : Unbuilt) → (refusal ≡ pure_not_built → asked_of words ≡ None)
    → IsRefusal words env held (unread_of refusal)
refused_words words env held pure_not_built none = subst (λ a. IsDueFor a env held (Err NotBuilt)) (sym (none refl)) refl
refused_words words env held pure_no_memory none = tt

-- a service without a model
pub refused_model : (words : List (List ℕ)) (env : Held) (held : Option Held) (asked : Asked) (folders : List (List ℕ)) (refusal : NoModel) → asked_of words ≡ Some asked
    → folders ≡ folders_of env → AnswersIfRead (λ found. found) (IsModelOf held folders asked.service) (Err refusal)
    → FailsOnlyAt (IsLookedAt folders held asked.service) refusal → IsRefusal words env held (unread_by refusal)
refused_model words env held asked folders (no_file path) is same sought at = (asked, is, subst (λ fs. IsLookedAt fs held asked.service path) same at)
refused_model words env held asked folders no_model_memory is same sought at = tt
refused_model words env held asked folders (no_service service) is same sought at =
    due_for words env held asked (Err (Usage (UnknownService service))) is
    (Err (no_service service), subst (λ fs. IsModelOf held fs asked.service (Err (no_service service))) same sought, refl)
refused_model words env held asked folders (bad_model file place) is same sought at =
    due_for words env held asked (Err (BadModel file place)) is
    (Err (bad_model file place), subst (λ fs. IsModelOf held fs asked.service (Err (bad_model file place))) same sought, refl)

-- its fault of a file has the same cause
pub no_model_cause : (before now : ℕ) (refusal : NoModel) → HasSearchCause {T = FoundModel} before now (Err refusal) → HasFileCause {T = Planned} before now (Err (unread_by refusal))
no_model_cause before now (no_service service) cause = record { later = cause.later; failed = λ fault. absurd fault }
no_model_cause before now (bad_model file place) cause = record { later = cause.later; failed = λ fault. absurd fault }
no_model_cause before now (no_file path) cause = record { later = cause.later; failed = λ fault. cause.failed tt }
no_model_cause before now no_model_memory cause = record { later = cause.later; failed = λ fault. absurd fault }

request_no_file : (asked : Asked) (operation : Option PlainOperation) (path : List ℕ) → request_for asked operation ≡ Err (FileFault path) → ⊥
request_no_file asked None path e = cc
request_no_file asked (Some operation) path e = cc

unless_no_file : (asked : Asked) (model : Table) (operation : Operation) (refusal : Option Refusal) (path : List ℕ)
    → request_of asked model (unless_refused operation refusal) ≡ Err (FileFault path) → ⊥
unless_no_file asked model operation None path e = request_no_file asked (plain_operation model operation) path e
unless_no_file asked model operation (Some refusal) path e = cc

known_no_file : (asked : Asked) (model : Table) (operation : Option Operation) (path : List ℕ) → request_of asked model (known asked.command operation) ≡ Err (FileFault path) → ⊥
known_no_file asked model None path e = cc
known_no_file asked model (Some operation) path e = unless_no_file asked model operation operation.refusal path e

-- no fault of a file is due
pub due_no_file : (asked : Asked) (model : Table) (path : List ℕ) → due_by asked model ≡ Err (FileFault path) → ⊥
due_no_file asked model path e = known_no_file asked model (operation_named asked.command model.operations) path e

-- what is due by the model that was found
due_by_found : (words : List (List ℕ)) (env : Held) (held : Option Held) (asked : Asked) (folders : List (List ℕ)) (found : FoundModel) (due : Result Planned Unread)
    → asked_of words ≡ Some asked → folders ≡ folders_of env → IsModelOf held folders asked.service (Ok found) → due_by asked found.model ≡ due → IsDue words env held due
due_by_found words env held asked folders found due is same sought by =
    due_for words env held asked due is (Ok found, subst (λ fs. IsModelOf held fs asked.service (Ok found)) same sought, sym by)

-- the request that the model has
pub planned_by : (words : List (List ℕ)) (env : Held) (held : Option Held) (asked : Asked) (folders : List (List ℕ)) (found : FoundModel) (answer : Result Planned Unread)
    → asked_of words ≡ Some asked → folders ≡ folders_of env → IsModelOf held folders asked.service (Ok found)
    → Answers is_memory (λ planned. planned) answer (due_by asked found.model) → IfOk answer (IsPlanned words env held)
planned_by words env held asked folders found (Ok planned) is same sought due = due_by_found words env held asked folders found (Ok planned) is same sought due
planned_by words env held asked folders found (Err refusal) is same sought due = tt

-- why the model has none
pub refused_by : (words : List (List ℕ)) (env : Held) (held : Option Held) (asked : Asked) (folders : List (List ℕ)) (found : FoundModel) (answer : Result Planned Unread)
    → asked_of words ≡ Some asked → folders ≡ folders_of env → IsModelOf held folders asked.service (Ok found)
    → Answers is_memory (λ planned. planned) answer (due_by asked found.model) → IfErr answer (IsRefusal words env held)
refused_by words env held asked folders found (Ok planned) is same sought due = tt
refused_by words env held asked folders found (Err OutOfMemory) is same sought due = tt
refused_by words env held asked folders found (Err (FileFault path)) is same sought due = absurd (due_no_file asked found.model path due)
refused_by words env held asked folders found (Err NotBuilt) is same sought due = due_by_found words env held asked folders found (Err NotBuilt) is same sought due
refused_by words env held asked folders found (Err (Usage fault)) is same sought due = due_by_found words env held asked folders found (Err (Usage fault)) is same sought due
refused_by words env held asked folders found (Err (BadModel file place)) is same sought due =
    due_by_found words env held asked folders found (Err (BadModel file place)) is same sought due
refused_by words env held asked folders found (Err (NotAdmitted reason)) is same sought due =
    due_by_found words env held asked folders found (Err (NotAdmitted reason)) is same sought due

-- then no file is at fault
pub no_file_by : (asked : Asked) (model : Table) (answer : Result Planned Unread) (before now : ℕ) → before ≤ now
    → Answers is_memory (λ planned. planned) answer (due_by asked model) → HasFileCause before now answer
no_file_by asked model (Ok planned) before now later due = record { later = later; failed = tt }
no_file_by asked model (Err OutOfMemory) before now later due = record { later = later; failed = λ fault. absurd fault }
no_file_by asked model (Err (FileFault path)) before now later due = record { later = later; failed = λ fault. absurd (due_no_file asked model path due) }
no_file_by asked model (Err NotBuilt) before now later due = record { later = later; failed = λ fault. absurd fault }
no_file_by asked model (Err (Usage usage)) before now later due = record { later = later; failed = λ fault. absurd fault }
no_file_by asked model (Err (BadModel file place)) before now later due = record { later = later; failed = λ fault. absurd fault }
no_file_by asked model (Err (NotAdmitted reason)) before now later due = record { later = later; failed = λ fault. absurd fault }

abbrev planned_with : Asked → PlainOperation → List ℕ → Result Planned Unread
planned_with asked plain request = Ok (record { asked = asked; operation = plain; request = request })

-- the request that was put together is the one that is due
pub request_is : (asked : Asked) (model : Table) (operation : Operation) (plain : PlainOperation) (sent : Message) (request : List ℕ)
    → admitted asked.command model ≡ Ok operation → plain_operation model operation ≡ Some plain → sent ≡ message_of asked plain → request ≡ wire_of sent
    → due_by asked model ≡ Ok (record { asked = asked; operation = plain; request = request })
request_is asked model operation plain sent request known_is plain_is sent_is wired =
    ap (request_of asked model) known_is ∙ ap (request_for asked) plain_is ∙ ap (planned_with asked plain) (sym (wired ∙ ap wire_of sent_is))
