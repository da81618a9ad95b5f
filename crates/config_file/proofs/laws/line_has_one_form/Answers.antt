use Rattle.config_file.proofs.LineForms.{line_says, line_from}
use Rattle.config_file.proofs.laws.line_has_one_form.Goals as goal

pub returns : goal.returns
returns c kind place bytes line = (line_says kind place bytes line, line_from kind place bytes line)
