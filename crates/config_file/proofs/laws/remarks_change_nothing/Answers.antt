use Rattle.config_file.proofs.BlankEnds.{blanks_are_free}
use Rattle.config_file.proofs.Remarks.{remark_is_free}
use Rattle.config_file.proofs.laws.remarks_change_nothing.Goals as goal

pub returns-clause-blanks : goal.returns-clause-blanks
returns-clause-blanks c = blanks_are_free

pub returns-clause-remarks : goal.returns-clause-remarks
returns-clause-remarks c = remark_is_free
