use Rattle.std.proofs.Common.{ap, ◌∙◌}
use Rattle.std.specs.Str.{str_eq_ignore_ascii_case}
use Rattle.aws_world.proofs.Case.{same_but_case}
use Rattle.texts.proofs.Texts.{chars_ascii}
use Rattle.serializer.proofs.header_names.is_name.Goals as goal

pub returns-clause-value : goal.returns-clause-value
returns-clause-value c =
    same_but_case c.eq_ignore_ascii_case.result c.args.text.now c.as_str.result.now c.args.name.now c.as_str.ensures.bytes c.utf8.name c.eq_ignore_ascii_case.ensures.test

pub returns-clause-ascii : goal.returns-clause-ascii
returns-clause-ascii c plain =
    same_but_case c.eq_ignore_ascii_case.result c.args.text.now c.as_str.result.now c.args.name.now c.as_str.ensures.bytes c.utf8.name c.eq_ignore_ascii_case.ensures.test
    ∙ ap (str_eq_ignore_ascii_case c.args.text.now) (chars_ascii c.args.name.now plain)
