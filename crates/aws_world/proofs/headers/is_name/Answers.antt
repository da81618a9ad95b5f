use Rattle.aws_world.proofs.Case.{same_but_case}
use Rattle.aws_world.proofs.headers.is_name.Goals as goal

pub returns : goal.returns
returns c =
    same_but_case c.eq_ignore_ascii_case.result c.args.text.now c.as_str.result.now c.args.name.now c.as_str.ensures.bytes c.utf8.name c.eq_ignore_ascii_case.ensures.test
