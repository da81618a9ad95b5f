use Rattle.json_doc.specs.declared.layout.Layout.TheVariants.{Compact, Indented}
use Rattle.json_doc.proofs.ReadAgain.{text_reads, text_reads-blanks_behind}
use Rattle.json_doc.proofs.read_laws.texts_read_back.Goals as goal

pub returns-clause-compact : goal.returns-clause-compact
returns-clause-compact c = text_reads Compact

pub returns-clause-indented : goal.returns-clause-indented
returns-clause-indented c = text_reads Indented

pub returns-clause-blanks_behind : goal.returns-clause-blanks_behind
returns-clause-blanks_behind c = text_reads-blanks_behind Indented
