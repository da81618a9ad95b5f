use Rattle.json_doc.proofs.Complete.{text_complete}
use Rattle.json_doc.proofs.Once.{text_once}
use Rattle.json_doc.proofs.Refusals.{no_fault, one_fault}
use Rattle.json_doc.proofs.read_laws.reading_is_unique.Goals as goal

pub returns-clause-document : goal.returns-clause-document
returns-clause-document c = λ bytes d e reads_d reads_e.
    let same = text_once bytes _ _ (text_complete bytes d reads_d) (text_complete bytes e reads_e) in cc

pub returns-clause-no_fault : goal.returns-clause-no_fault
returns-clause-no_fault c = λ bytes d f reads has. no_fault bytes d f (text_complete bytes d reads) has

pub returns-clause-fault : goal.returns-clause-fault
returns-clause-fault c = one_fault
