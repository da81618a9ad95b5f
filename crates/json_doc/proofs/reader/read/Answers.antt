use Rattle.std.proofs.Common.{inl}
use Rattle.json_doc.specs.declared.read_fault.ReadFault.TheVariants as fault
use Rattle.json_doc.proofs.Bounded.{read-depth, read-IsProper}
use Rattle.json_doc.proofs.Complete.{text_complete}
use Rattle.json_doc.proofs.Once.{text_once}
use Rattle.json_doc.proofs.Refusals.{no_fault, one_fault}
use Rattle.json_doc.proofs.Shorter.{Scans-within}
use Rattle.json_doc.proofs.Sound.{text_sound}
use Rattle.json_doc.proofs.ValueLocal.{IsDeadEnd-from_fault}
use Rattle.json_doc.proofs.reader.read.Goals as goal

pub returns-in-Ok-clause-found : goal.returns-in-Ok-clause-found
returns-in-Ok-clause-found c = text_sound c.args.bytes.now c.in-Ok.doc c.in-Ok.ensures.read

pub returns-in-Ok-clause-depth : goal.returns-in-Ok-clause-depth
returns-in-Ok-clause-depth c = read-depth c.args.bytes.now c.in-Ok.doc (text_sound c.args.bytes.now c.in-Ok.doc c.in-Ok.ensures.read)

pub returns-in-Ok-clause-proper : goal.returns-in-Ok-clause-proper
returns-in-Ok-clause-proper c = read-IsProper c.args.bytes.now c.in-Ok.doc (text_sound c.args.bytes.now c.in-Ok.doc c.in-Ok.ensures.read)

pub returns-in-Ok-clause-only : goal.returns-in-Ok-clause-only
returns-in-Ok-clause-only c = λ d reads.
    let e = text_once c.args.bytes.now _ _ c.in-Ok.ensures.read (text_complete c.args.bytes.now d reads) in cc

pub returns-in-Ok-clause-refused : goal.returns-in-Ok-clause-refused
returns-in-Ok-clause-refused c = λ f has. no_fault c.args.bytes.now c.in-Ok.doc f c.in-Ok.ensures.read has

pub offset-requires : goal.offset-requires
offset-requires c = Scans-within c.args.bytes.now _ (rw c.in-Err-Syntax.field-0-is at c.in-Err-Syntax.ensures.fault)

pub returns-in-Err-Syntax-clause-only : goal.returns-in-Err-Syntax-clause-only
returns-in-Err-Syntax-clause-only c = λ d reads.
    let stops = rw c.in-Err-Syntax.field-0-is at c.in-Err-Syntax.ensures.fault in
    let e = text_once c.args.bytes.now _ _ stops (text_complete c.args.bytes.now d reads) in cc

pub returns-in-Err-Syntax-clause-refused : goal.returns-in-Err-Syntax-clause-refused
returns-in-Err-Syntax-clause-refused c = λ f has.
    let stops = rw c.in-Err-Syntax.field-0-is at c.in-Err-Syntax.ensures.fault in
    inl (one_fault c.args.bytes.now (fault.Syntax c.offset.result) f (c.in-Err-Syntax.left, stops, c.offset.ensures) has)

pub offset-requires-in-Err-TooDeep : goal.offset-requires-in-Err-TooDeep
offset-requires-in-Err-TooDeep c = Scans-within c.args.bytes.now _ (rw c.in-Err-TooDeep.field-0-is at c.in-Err-TooDeep.ensures.fault)

pub returns-in-Err-TooDeep-clause-only : goal.returns-in-Err-TooDeep-clause-only
returns-in-Err-TooDeep-clause-only c = λ d reads.
    let stops = rw c.in-Err-TooDeep.field-0-is at c.in-Err-TooDeep.ensures.fault in
    let e = text_once c.args.bytes.now _ _ stops (text_complete c.args.bytes.now d reads) in cc

pub returns-in-Err-TooDeep-clause-refused : goal.returns-in-Err-TooDeep-clause-refused
returns-in-Err-TooDeep-clause-refused c = λ f has.
    let stops = rw c.in-Err-TooDeep.field-0-is at c.in-Err-TooDeep.ensures.fault in
    inl (one_fault c.args.bytes.now (fault.TooDeep c.offset-in-Err-TooDeep.result) f (c.in-Err-TooDeep.left, stops, c.offset-in-Err-TooDeep.ensures) has)

pub offset-requires-in-Err-NumberTooWide : goal.offset-requires-in-Err-NumberTooWide
offset-requires-in-Err-NumberTooWide c = Scans-within c.args.bytes.now _ (rw c.in-Err-NumberTooWide.field-0-is at c.in-Err-NumberTooWide.ensures.fault)

pub returns-in-Err-NumberTooWide-clause-only : goal.returns-in-Err-NumberTooWide-clause-only
returns-in-Err-NumberTooWide-clause-only c = λ d reads.
    let stops = rw c.in-Err-NumberTooWide.field-0-is at c.in-Err-NumberTooWide.ensures.fault in
    let e = text_once c.args.bytes.now _ _ stops (text_complete c.args.bytes.now d reads) in cc

pub returns-in-Err-NumberTooWide-clause-refused : goal.returns-in-Err-NumberTooWide-clause-refused
returns-in-Err-NumberTooWide-clause-refused c = λ f has.
    let stops = rw c.in-Err-NumberTooWide.field-0-is at c.in-Err-NumberTooWide.ensures.fault in
    inl (one_fault c.args.bytes.now (fault.NumberTooWide c.offset-in-Err-NumberTooWide.result) f (c.in-Err-NumberTooWide.left, stops, c.offset-in-Err-NumberTooWide.ensures) has)

pub returns-in-Err-Syntax-clause-dead_end : goal.returns-in-Err-Syntax-clause-dead_end
returns-in-Err-Syntax-clause-dead_end c =
    let stops = rw c.in-Err-Syntax.field-0-is at c.in-Err-Syntax.ensures.fault in
    IsDeadEnd-from_fault c.args.bytes.now (fault.Syntax c.offset.result) (c.in-Err-Syntax.left, stops, c.offset.ensures)

pub returns-in-Err-TooDeep-clause-dead_end : goal.returns-in-Err-TooDeep-clause-dead_end
returns-in-Err-TooDeep-clause-dead_end c =
    let stops = rw c.in-Err-TooDeep.field-0-is at c.in-Err-TooDeep.ensures.fault in
    IsDeadEnd-from_fault c.args.bytes.now (fault.TooDeep c.offset-in-Err-TooDeep.result) (c.in-Err-TooDeep.left, stops, c.offset-in-Err-TooDeep.ensures)
