use Rattle.meta_setting_tables.proofs.Twice.{joined_again, applied_again}
use Rattle.meta_setting_tables.proofs.group_laws.a_preset_applied_twice_is_applied_once.Goals as goal

pub returns : goal.returns
returns c = record { joined = joined_again; meaning = applied_again }
