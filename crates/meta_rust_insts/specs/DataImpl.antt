-- The implementation of `InstructionData`, as Rust source.
--     data_impl_text fs      the methods, each a match with an arm for each format; the text doesn't end with an empty line
use Rattle.std.specs.Prelude.{ℕ, List, [], ◌∷◌, ◌++◌, codes}
use Rattle.std.specs.List.{flat_map}
use Rattle.meta_operands.specs.declared.format.InstructionFormat.{InstructionFormat}
use Rattle.meta_text.specs.Lines.{at, empty_line, lines_onto, text_of}
use Rattle.meta_rust_insts.specs.declared.data_impl.Method.TheVariants.{Opcode, TypevarOperand, Arguments, ArgumentsMut, Eq}
use Rattle.meta_rust_insts.specs.declared.data_impl.Method.TheVariants.{Hash, DeepClone, Map}
use Rattle.meta_rust_insts.specs.Arms.{method_arm}

-- the methods that read an instruction
unfoldable pub reading_methods : List InstructionFormat → List ℕ
reading_methods formats =
    lines_onto (
    at 0 (codes "impl InstructionData {" ∷ [])
    ∷ at 1 (codes "/// Get the opcode of this instruction." ∷ [])
    ∷ at 1 (codes "pub fn opcode(&self) -> Opcode {" ∷ [])
    ∷ at 2 (codes "match *self {" ∷ []) ∷ [])
    (flat_map (method_arm Opcode) formats ++ lines_onto (
    at 2 (codes "}" ∷ [])
    ∷ at 1 (codes "}" ∷ [])
    ∷ empty_line
    ∷ at 1 (codes "/// Get the controlling type variable operand." ∷ [])
    ∷ at 1 (codes "pub fn typevar_operand(&self, pool: &ir::ValueListPool) -> Option<Value> {" ∷ [])
    ∷ at 2 (codes "match *self {" ∷ []) ∷ [])
    (flat_map (method_arm TypevarOperand) formats ++ lines_onto (
    at 2 (codes "}" ∷ [])
    ∷ at 1 (codes "}" ∷ [])
    ∷ empty_line
    ∷ at 1 (codes "/// Get the value arguments to this instruction." ∷ [])
    ∷ at 1 (codes "pub fn arguments<'a>(&'a self, pool: &'a ir::ValueListPool) -> &'a [Value] {" ∷ [])
    ∷ at 2 (codes "match *self {" ∷ []) ∷ [])
    (flat_map (method_arm Arguments) formats ++ lines_onto (
    at 2 (codes "}" ∷ [])
    ∷ at 1 (codes "}" ∷ [])
    ∷ empty_line
    ∷ at 1 (codes "/// Get mutable references to the value arguments to this" ∷ [])
    ∷ at 1 (codes "pub fn arguments_mut<'a>(&'a mut self, pool: &'a mut ir::ValueListPool) -> &'a mut [Value] {" ∷ [])
    ∷ at 2 (codes "match *self {" ∷ []) ∷ [])
    (flat_map (method_arm ArgumentsMut) formats ++ text_of (
    at 2 (codes "}" ∷ [])
    ∷ at 1 (codes "}" ∷ [])
    ∷ empty_line ∷ [])))))

-- the methods that take an instruction as a whole: `eq` has no further pair, since both are of one format
unfoldable pub whole_methods : List InstructionFormat → List ℕ
whole_methods formats =
    lines_onto (
    at 1 (codes "/// Compare two `InstructionData` for equality." ∷ [])
    ∷ at 1 (codes "pub fn eq(&self, other: &Self, pool: &ir::ValueListPool) -> bool {" ∷ [])
    ∷ at 2 (codes "if ::core::mem::discriminant(self) != ::core::mem::discriminant(other) {" ∷ [])
    ∷ at 3 (codes "return false;" ∷ [])
    ∷ at 2 (codes "}" ∷ [])
    ∷ at 2 (codes "match (self, other) {" ∷ []) ∷ [])
    (flat_map (method_arm Eq) formats ++ lines_onto (
    at 3 (codes "_ => unreachable!()" ∷ [])
    ∷ at 2 (codes "}" ∷ [])
    ∷ at 1 (codes "}" ∷ [])
    ∷ empty_line
    ∷ at 1 (codes "/// Hash an `InstructionData`." ∷ [])
    ∷ at 1 (codes "pub fn hash<H: ::core::hash::Hasher>(&self, state: &mut H, pool: &ir::ValueListPool) {" ∷ [])
    ∷ at 2 (codes "match *self {" ∷ []) ∷ [])
    (flat_map (method_arm Hash) formats ++ lines_onto (
    at 2 (codes "}" ∷ [])
    ∷ at 1 (codes "}" ∷ [])
    ∷ empty_line
    ∷ at 1 (codes "/// Deep-clone an `InstructionData`, including any referenced lists." ∷ [])
    ∷ at 1 (codes "pub fn deep_clone(&self, pool: &mut ir::ValueListPool) -> Self {" ∷ [])
    ∷ at 2 (codes "match *self {" ∷ []) ∷ [])
    (flat_map (method_arm DeepClone) formats ++ lines_onto (
    at 2 (codes "}" ∷ [])
    ∷ at 1 (codes "}" ∷ [])
    ∷ at 1 (codes "/// Map some functions, described by the given `InstructionMapper`, over each of the" ∷ [])
    ∷ at 1 (codes "pub fn map(&self, mut mapper: impl crate::ir::instructions::InstructionMapper) -> Self {" ∷ [])
    ∷ at 2 (codes "match *self {" ∷ []) ∷ [])
    (flat_map (method_arm Map) formats ++ text_of (
    at 2 (codes "}" ∷ [])
    ∷ at 1 (codes "}" ∷ [])
    ∷ at 0 (codes "}" ∷ []) ∷ [])))))

-- the implementation for these formats, in their order
unfoldable pub data_impl_text : List InstructionFormat → List ℕ
data_impl_text formats = reading_methods formats ++ whole_methods formats
