-- What is refused, where the names of methods are known by sets, and the parts of what is built are lent.
use Rattle.std.proofs.Common.{◌≡◌, ℕ, List, Bool}
use Rattle.std.proofs.Math.Path.{fun_ext}
use Rattle.std.specs.List.{flat_map, enumerate_from}
use Rattle.meta_typevar.specs.declared.content.TypeVarContent.{TypeVarContent}
use Rattle.meta_operands.specs.declared.format.InstructionFormat.{InstructionFormat}
use Rattle.meta_inst.specs.Built.{BuiltInstruction}
use Rattle.meta_build.specs.BuiltDeclarations.{BuiltDeclarations}
use Rattle.meta_rust_names.specs.Methods.{is_among, format_names, instruction_methods, imm_methods}
use Rattle.meta_rust_names.specs.Instructions.{instruction_refused, instructions_refused}
use Rattle.meta_rust_names.specs.Formats.{format_refused, formats_refused}

-- of the instructions
pub instructions_lent : (b : BuiltDeclarations) (is_format is_imm : List ℕ → Bool) (vars : List TypeVarContent)
    (formats : List InstructionFormat) (instructions : List BuiltInstruction)
    → ((text : List ℕ) → is_format text ≡ is_among (format_names b.declared.set.formats b.formats) text)
    → ((text : List ℕ) → is_imm text ≡ is_among (imm_methods b.instructions) text)
    → vars ≡ b.declared.set.vars → formats ≡ b.declared.set.formats → instructions ≡ b.instructions
    → flat_map (instruction_refused is_format is_imm vars formats) (enumerate_from 0 instructions) ≡ instructions_refused b
unfolding instructions_refused
instructions_lent b is_format is_imm vars formats instructions by_format by_imm of_vars of_formats of_instructions =
    let same_formats : is_format ≡ is_among (format_names b.declared.set.formats b.formats) = fun_ext by_format in
    let same_imm : is_imm ≡ is_among (imm_methods b.instructions) = fun_ext by_imm in
    cc

-- of the formats in use
pub formats_lent : (b : BuiltDeclarations) (is_method is_imm : List ℕ → Bool) (formats : List InstructionFormat) (ids : List ℕ)
    → ((text : List ℕ) → is_method text ≡ is_among (instruction_methods b.instructions) text)
    → ((text : List ℕ) → is_imm text ≡ is_among (imm_methods b.instructions) text)
    → formats ≡ b.declared.set.formats → ids ≡ b.formats
    → flat_map (format_refused is_method is_imm formats) ids ≡ formats_refused b
unfolding formats_refused
formats_lent b is_method is_imm formats ids by_method by_imm of_formats of_ids =
    let same_methods : is_method ≡ is_among (instruction_methods b.instructions) = fun_ext by_method in
    let same_imm : is_imm ≡ is_among (imm_methods b.instructions) = fun_ext by_imm in
    cc
