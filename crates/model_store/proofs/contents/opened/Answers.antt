use Rattle.model_store.proofs.Saying.{not_json}
use Rattle.model_store.proofs.contents.opened.Goals as goal

pub returns-in-Ok-None : goal.returns-in-Ok-None
returns-in-Ok-None c = not_json c.args.name.now c.args.file c.in-Whole.bytes _ c.in-Ok-None.field-0 _ c.in-Whole.is c.as_slice.ensures c.in-Ok-None.field-0-is c.in-Ok-None.ensures.none c.bad_file-in-Ok-None.ensures
