use Rattle.json_doc.proofs.Escapes.{SpellsChar-scalar}
use Rattle.json_doc.proofs.TextScans.{char_at_ok}
use Rattle.json_doc.proofs.TextSteps.{char_shorter}
use Rattle.json_doc.proofs.text_token.char_at.Goals as goal

-- the code is a character's
pub unreachable-requires : goal.unreachable-requires
unreachable-requires c =
    let spelled = char_at_ok _ _ c.in_ok-code.ensures c.requires in
    c.in-None.ensures.value (SpellsChar-scalar _ _ spelled.1)

pub returns-clause-shorter : goal.returns-clause-shorter
returns-clause-shorter c = char_shorter _ _ c.in_ok-code.ensures
