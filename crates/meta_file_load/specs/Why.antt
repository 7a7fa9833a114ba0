-- What is said of a file that is refused.
--     fault_why fault              of declarations that have a fault
--     located path line why        the message
use Rattle.std.specs.Prelude.{ℕ, List, ◌++◌, codes}
use Rattle.std.specs.Fmt.{decimal}
use Rattle.meta_types.specs.Fault.{line_of}
use Rattle.meta_types.specs.declared.fault.DefinitionError.{DefinitionError}
use Rattle.meta_types.specs.declared.fault.DefinitionError.TheVariants.{BadName, DuplicateName, TooManyOpcodes, BadOutput, FormatMismatch}
use Rattle.meta_types.specs.declared.fault.DefinitionError.TheVariants.{NoControl, BadSecond, BadDerivation, TooManyOperands, BadImmMethod}
use Rattle.meta_types.specs.declared.fault.DefinitionError.TheVariants.{BadFormat, FormatClash, TooManyTypeSets, BadEnum, BadPreset}
use Rattle.meta_types.specs.declared.fault.DefinitionError.TheVariants.{TooManySettings, OutOfMemory}

-- ---- faults

-- what a fault means
abbrev pub meaning_of : DefinitionError → List ℕ
meaning_of (BadName p) =
    codes "a name is a letter followed by letters, digits or _, and a description has no quote, backslash or other than printed ASCII"
meaning_of (DuplicateName p earlier) = codes "the name, or the name in camel case, stands earlier"
meaning_of (TooManyOpcodes count) = codes "there are at most 4095 instructions"
meaning_of (BadOutput i place) = codes "an output is a value or varargs"
meaning_of (FormatMismatch i) = codes "the inputs are not what the format stores"
meaning_of (NoControl i) = codes "no operand decides the types of the others"
meaning_of (BadSecond i) = codes "the second control has to be an underived type of an operand"
meaning_of (BadDerivation i place) = codes "the type is derived from another than a control"
meaning_of (TooManyOperands i count) = codes "there are at most seven value results and seven value inputs"
meaning_of (BadImmMethod i) = codes "imm_method asks for one result, two values or more, and no varargs"
meaning_of (BadFormat f) = codes "a format has at most two blocks and one raw block"
meaning_of (FormatClash f earlier) = codes "an earlier format in use has the name or stores the same"
meaning_of (TooManyTypeSets count) = codes "there are at most 4095 distinct sets of types"
meaning_of (BadEnum g e) = codes "an enum has one to 256 values with different names"
meaning_of (BadPreset g e) = codes "a preset names what its group has not"
meaning_of (TooManySettings g bools bytes entries) = codes "there are at most 248 booleans, 255 bytes and 65535 entries"
meaning_of OutOfMemory = codes "memory ran out"

-- the fault, and what it means
abbrev pub fault_why : DefinitionError → List ℕ
fault_why fault = line_of fault ++ (codes ": " ++ meaning_of fault)

-- ---- the message

-- `PATH:LINE: WHY`
abbrev pub located : List ℕ → ℕ → List ℕ → List ℕ
located path line why = path ++ (codes ":" ++ (decimal line ++ (codes ": " ++ why)))
