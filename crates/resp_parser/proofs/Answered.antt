-- What is answered of a whole reply.
use Rattle.std.proofs.Common.{◌≡◌, ◌⊎◌, inl, inr, ℕ, ◌<◌, ◌≤◌, Bool, true, false, List, Option, Result, Ok, Err, refl, sym, ap, subst, ◌∙◌}
use Rattle.aws_world.specs.declared.message.Reply.{Reply}
use Rattle.json_doc.specs.declared.doc.Doc.{Doc}
use Rattle.service_model.specs.declared.model.Table.{Table}
use Rattle.service_model.specs.declared.operation.Operation.{Operation}
use Rattle.resp_parser.specs.declared.body_fault.BodyFault.{BodyFault}
use Rattle.resp_parser.specs.declared.body_fault.BodyFault.TheVariants as body
use Rattle.resp_parser.specs.declared.fault.ReplyFault.{ReplyFault}
use Rattle.resp_parser.specs.declared.fault.ReplyFault.TheVariants.{OutOfMemory as no_memory}
use Rattle.resp_parser.specs.declared.fault.ReplyFault.TheVariants as fault
use Rattle.resp_parser.specs.Inside.{EndsBy, IsFailure, IsTold}
use Rattle.resp_parser.specs.Parsed.{IsParsed, IsParsedHead, Told, failed, is_coded, told}
use Rattle.resp_parser.specs.Paths.{Path}
use Rattle.resp_parser.specs.Steps.{Comes, Step}
use Rattle.resp_parser.proofs.OneAnswer.{one_answer, one_head}
use Rattle.resp_parser.proofs.OneStep.{IsOne}

comes-one : {A E : Type 0} (memory : E) (May : Step A E) → IsOne May → (r : Result A E) → Comes memory May r → (due : Result A E) → May due → Comes memory (λ answer. answer ≡ due) r
comes-one memory May one (Ok x) comes due may = one (Ok x) due comes may
comes-one memory May one (Err e) (inl same) due may = inl same
comes-one memory May one (Err e) (inr comes) due may = inr (one (Err e) due comes may)

pub only-parsed : (table : Table) (op : Operation) (reply : Reply) (r : Result Doc ReplyFault) → Comes no_memory (IsParsed table op reply) r
    → (due : Result Doc ReplyFault) → IsParsed table op reply due → Comes no_memory (λ answer. answer ≡ due) r
only-parsed table op reply r comes = comes-one no_memory (IsParsed table op reply) (one_answer table op reply) r comes

pub only-head : (table : Table) (op : Operation) (reply : Reply) (r : Result Doc ReplyFault) → Comes no_memory (IsParsedHead table op reply) r
    → (due : Result Doc ReplyFault) → IsParsedHead table op reply due → Comes no_memory (λ answer. answer ≡ due) r
only-head table op reply r comes = comes-one no_memory (IsParsedHead table op reply) (one_head table op reply) r comes

-- an output as it is told
pub comes-told : (Read : Step Doc Path) (May : Step Doc ReplyFault) → ((answer : Result Doc ReplyFault) → Told Read answer → May answer)
    → (output : Result Doc BodyFault) (r : Result Doc ReplyFault) → EndsBy (λ doc. doc) output Read → IsTold output r → Comes no_memory May r
comes-told Read May may (Ok d) (Ok x) ends is = may (Ok x) (Ok d, ends, is)
comes-told Read May may (Ok d) (Err e) ends is = absurd (cc)
comes-told Read May may (Err (body.At path)) (Ok x) ends (inl is) = absurd (cc)
comes-told Read May may (Err (body.At path)) (Ok x) ends (inr is) = absurd (cc)
comes-told Read May may (Err (body.At path)) (Err e) ends (inl is) = inr (may (Err e) (Err path, ends, is))
comes-told Read May may (Err (body.At path)) (Err e) ends (inr is) = inl (cc)
comes-told Read May may (Err body.OutOfMemory) (Ok x) ends is = absurd (cc)
comes-told Read May may (Err body.OutOfMemory) (Err e) ends is = inl (cc)

pub comes-failed : (table : Table) (op : Operation) (reply : Reply) (fault : ReplyFault) → is_coded reply ≡ false → 300 ≤ reply.status → IsFailure table.metadata.protocol reply fault
    → Comes no_memory (IsParsed table op reply) (Err fault)
comes-failed table op reply (fault.Service error) coded most is = inr (failed coded most is)
comes-failed table op reply fault.OutOfMemory coded most is = inl refl
comes-failed table op reply (fault.BadBody path) coded most is = absurd is
comes-failed table op reply fault.Compressed coded most is = absurd is
