use Rattle.config_file.proofs.Outcomes.{files_outcome, settings_outcome}
use Rattle.config_file.proofs.laws.outcome_is_there.Goals as goal

pub returns-clause-files : goal.returns-clause-files
returns-clause-files c = files_outcome

pub returns-clause-settings : goal.returns-clause-settings
returns-clause-settings c = settings_outcome
