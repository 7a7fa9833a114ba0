use Rattle.meta_settings.proofs.TurnedSets.{turned_named, turned_once}
use Rattle.meta_settings.proofs.laws.presets_turn_on_what_they_name.Goals as goal

pub returns-clause-named : goal.returns-clause-named
returns-clause-named c = λ presets k b p at. turned_named presets k b p at

pub returns-clause-once : goal.returns-clause-once
returns-clause-once c = λ presets k p at. turned_once presets k p at
