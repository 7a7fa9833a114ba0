use Rattle.std.proofs.Common.{refl}
use Rattle.meta_shared.specs.CoreFormats.{core_formats}
use Rattle.meta_shared.specs.CoreNames.{core_names}
use Rattle.meta_shared.proofs.core_tables.core_tables.Goals as goal

pub returns : goal.returns
unfolding core_names core_formats
returns c = record { are_named = refl; are_of = refl; are_derived = refl; derivable = refl }
