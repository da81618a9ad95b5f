use Rattle.json_doc.proofs.PassedTexts.{text-loose}
use Rattle.json_doc.proofs.read_laws.documents_are_json_texts.Goals as goal

pub returns : goal.returns
returns c = text-loose
