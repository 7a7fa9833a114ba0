-- The texts of refused names.
use Rattle.std.specs.Prelude.{ℕ, List, ◌∷◌, ◌++◌, codes}
use Rattle.std.specs.Fmt.{decimal}
use Rattle.meta_rust_names.specs.declared.refused.Part.{Part}
use Rattle.meta_rust_names.specs.declared.refused.Part.TheVariants as part
use Rattle.meta_rust_names.specs.declared.refused.Why.{Why}
use Rattle.meta_rust_names.specs.declared.refused.Why.TheVariants as why
use Rattle.meta_rust_names.specs.declared.refused.RefusedName.{RefusedName}

-- which name it is, of those at a place: `its name`, `input 0`, `setting 1 value 2`
abbrev pub part_text : Part → List ℕ
part_text part.Name = codes "its name"
part_text (part.Input number) = codes "input " ++ decimal number
part_text (part.InputType number) = codes "the type of input " ++ decimal number
part_text (part.InputDoc number) = codes "the documentation of input " ++ decimal number
part_text (part.Output number) = codes "output " ++ decimal number
part_text (part.OutputDoc number) = codes "the documentation of output " ++ decimal number
part_text part.Doc = codes "its documentation"
part_text part.Control = codes "its control"
part_text part.ControlDoc = codes "the documentation of its control"
part_text (part.Field number) = codes "field " ++ decimal number
part_text (part.FieldType number) = codes "the type of field " ++ decimal number
part_text (part.Setting number) = codes "setting " ++ decimal number
part_text (part.SettingType number) = codes "the enum of setting " ++ decimal number
part_text (part.Value setting number) = codes "setting " ++ (decimal setting ++ (codes " value " ++ decimal number))

-- why it is refused
abbrev pub why_text : Why → List ℕ
why_text why.Keyword = codes "is a keyword of Rust"
why_text why.NoIdentifier = codes "is no identifier of Rust"
why_text why.InScope = codes "is that of a variant, a constant or a static in scope"
why_text why.SelfType = codes "is `Self` in camel case"
why_text why.ErrType = codes "is `Err` in camel case, the name of a type beside it"
why_text why.TypeBeside = codes "is a type beside it in camel case"
why_text why.FixedMethod = codes "is that of a method beside it"
why_text why.FormatName = codes "is that of a format"
why_text why.InstructionMethod = codes "is that of an instruction's method"
why_text why.ImmMethod = codes "is that of a method that takes an immediate"
why_text why.NotBlock = codes "is a block without arguments, and isn't named `block`"
why_text why.ControlLocal = codes "is `ctrl_typevar`, where an operand controls"
why_text why.ListLocal = codes "is `vlist` or `pool`, beside a list of values"
why_text why.ImmLocal = codes "is `imm_ty`, beside methods that take an immediate"
why_text why.ImmBlock = codes "is a block, beside methods that take an immediate"
why_text why.ImmControl = codes "is an argument, beside methods that take an immediate"
why_text why.EarlierInput = codes "has a name of an earlier input"
why_text why.OfInput = codes "has a name of an input"
why_text why.OfFormat = codes "has a name that its format has itself"
why_text why.EarlierField = codes "has the name of an earlier field"
why_text why.OwnVariant = codes "is that of a variant of its own type"
why_text why.FixedLocal = codes "is that of a variable beside it"
why_text why.NoType = codes "is empty"
why_text why.BreaksComment = codes "can't stand in a comment of Rust"

-- both, without the place: `input 0 is a keyword of Rust`
abbrev pub refused_text : RefusedName → List ℕ
refused_text name = part_text name.part ++ (32 ∷ why_text name.why)
