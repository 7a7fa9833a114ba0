-- The texts of faults.
use Rattle.std.specs.Prelude.{ℕ, List, [], ◌∷◌, ◌++◌, codes}
use Rattle.std.specs.Fmt.{decimal}
use Rattle.meta_types.specs.declared.fault.Place.{Place}
use Rattle.meta_types.specs.declared.fault.FaultDetail.{FaultDetail}
use Rattle.meta_types.specs.declared.fault.FaultDetail.TheVariants.{Nothing, One, Two, Four, At, AtAndOne}
use Rattle.meta_types.specs.declared.fault.Place.TheVariants.{Instruction, Format, Group, Entry}
use Rattle.meta_types.specs.declared.fault.DefinitionError.{DefinitionError}
use Rattle.meta_types.specs.declared.fault.DefinitionError.TheVariants.{BadName, DuplicateName, TooManyOpcodes, BadOutput, FormatMismatch}
use Rattle.meta_types.specs.declared.fault.DefinitionError.TheVariants.{NoControl, BadSecond, BadDerivation, TooManyOperands, BadImmMethod}
use Rattle.meta_types.specs.declared.fault.DefinitionError.TheVariants.{BadFormat, FormatClash, TooManyTypeSets, BadEnum, BadPreset}
use Rattle.meta_types.specs.declared.fault.DefinitionError.TheVariants.{TooManySettings, OutOfMemory}

-- a place as it is written: `instruction 1`, `format 0`, `group 0`, `entry 0 2`
abbrev pub place_text : Place → List ℕ
place_text (Instruction i) = codes "instruction " ++ decimal i
place_text (Format f) = codes "format " ++ decimal f
place_text (Group g) = codes "group " ++ decimal g
place_text (Entry g e) = codes "entry " ++ (decimal g ++ (32 ∷ decimal e))

-- a fault as it is written: its name and its numbers, parted by single spaces
abbrev pub line_of : DefinitionError → List ℕ
line_of (BadName p) = codes "BadName " ++ place_text p
line_of (DuplicateName p earlier) = codes "DuplicateName " ++ (place_text p ++ (32 ∷ decimal earlier))
line_of (TooManyOpcodes count) = codes "TooManyOpcodes " ++ decimal count
line_of (BadOutput i place) = codes "BadOutput " ++ (decimal i ++ (32 ∷ decimal place))
line_of (FormatMismatch i) = codes "FormatMismatch " ++ decimal i
line_of (NoControl i) = codes "NoControl " ++ decimal i
line_of (BadSecond i) = codes "BadSecond " ++ decimal i
line_of (BadDerivation i place) = codes "BadDerivation " ++ (decimal i ++ (32 ∷ decimal place))
line_of (TooManyOperands i count) = codes "TooManyOperands " ++ (decimal i ++ (32 ∷ decimal count))
line_of (BadImmMethod i) = codes "BadImmMethod " ++ decimal i
line_of (BadFormat f) = codes "BadFormat " ++ decimal f
line_of (FormatClash f earlier) = codes "FormatClash " ++ (decimal f ++ (32 ∷ decimal earlier))
line_of (TooManyTypeSets count) = codes "TooManyTypeSets " ++ decimal count
line_of (BadEnum g entry) = codes "BadEnum " ++ (decimal g ++ (32 ∷ decimal entry))
line_of (BadPreset g entry) = codes "BadPreset " ++ (decimal g ++ (32 ∷ decimal entry))
line_of (TooManySettings g bools bytes entries) =
    codes "TooManySettings " ++ (decimal g ++ (32 ∷ (decimal bools ++ (32 ∷ (decimal bytes ++ (32 ∷ decimal entries))))))
line_of OutOfMemory = codes "OutOfMemory"

-- its name
abbrev pub fault_name : DefinitionError → List ℕ
fault_name (BadName _) = codes "BadName"
fault_name (DuplicateName _ _) = codes "DuplicateName"
fault_name (TooManyOpcodes _) = codes "TooManyOpcodes"
fault_name (BadOutput _ _) = codes "BadOutput"
fault_name (FormatMismatch _) = codes "FormatMismatch"
fault_name (NoControl _) = codes "NoControl"
fault_name (BadSecond _) = codes "BadSecond"
fault_name (BadDerivation _ _) = codes "BadDerivation"
fault_name (TooManyOperands _ _) = codes "TooManyOperands"
fault_name (BadImmMethod _) = codes "BadImmMethod"
fault_name (BadFormat _) = codes "BadFormat"
fault_name (FormatClash _ _) = codes "FormatClash"
fault_name (TooManyTypeSets _) = codes "TooManyTypeSets"
fault_name (BadEnum _ _) = codes "BadEnum"
fault_name (BadPreset _ _) = codes "BadPreset"
fault_name (TooManySettings _ _ _ _) = codes "TooManySettings"
fault_name OutOfMemory = codes "OutOfMemory"

-- what the line of a fault has after its name
abbrev pub fault_detail_text : FaultDetail → List ℕ
fault_detail_text Nothing = []
fault_detail_text (One a) = 32 ∷ decimal a
fault_detail_text (Two a b) = 32 ∷ (decimal a ++ (32 ∷ decimal b))
fault_detail_text (Four a b c d) = 32 ∷ (decimal a ++ (32 ∷ (decimal b ++ (32 ∷ (decimal c ++ (32 ∷ decimal d))))))
fault_detail_text (At p) = 32 ∷ place_text p
fault_detail_text (AtAndOne p a) = 32 ∷ (place_text p ++ (32 ∷ decimal a))
