use Rattle.config_file.proofs.SameSettings.{same_settings}
use Rattle.config_file.proofs.laws.order_is_free.Goals as goal

pub returns : goal.returns
returns c line env a b config credentials config_once credentials_once = same_settings line env a b
    (record { config = config; credentials = credentials; config_once = config_once; credentials_once = credentials_once })
