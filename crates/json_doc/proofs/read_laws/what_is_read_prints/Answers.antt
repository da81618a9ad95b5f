use Rattle.json_doc.specs.declared.layout.Layout.TheVariants.{Compact, Indented}
use Rattle.json_doc.proofs.Bounded.{read-IsProper, read-depth}
use Rattle.json_doc.proofs.ReadAgain.{text_reads}
use Rattle.json_doc.proofs.read_laws.what_is_read_prints.Goals as goal

pub returns-clause-depth : goal.returns-clause-depth
returns-clause-depth c = read-depth

pub returns-clause-proper : goal.returns-clause-proper
returns-clause-proper c = read-IsProper

pub returns-clause-compact : goal.returns-clause-compact
returns-clause-compact c = λ bytes d reads. text_reads Compact d (read-IsProper bytes d reads) (read-depth bytes d reads)

pub returns-clause-indented : goal.returns-clause-indented
returns-clause-indented c = λ bytes d reads. text_reads Indented d (read-IsProper bytes d reads) (read-depth bytes d reads)
