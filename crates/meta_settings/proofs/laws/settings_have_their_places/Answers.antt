use Rattle.meta_settings.proofs.Places.{byte_place, bit_place}
use Rattle.meta_settings.proofs.laws.settings_have_their_places.Goals as goal

pub returns-clause-bytes : goal.returns-clause-bytes
returns-clause-bytes c = λ d j s at. byte_place d j s at

pub returns-clause-bits : goal.returns-clause-bits
returns-clause-bits c = λ d k s at. bit_place d k s at
