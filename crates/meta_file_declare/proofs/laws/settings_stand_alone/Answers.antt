use Rattle.meta_file_declare.proofs.SettingsAlone.{no_set}
use Rattle.meta_file_declare.proofs.laws.settings_stand_alone.Goals as goal

pub returns : goal.returns
returns c = no_set
