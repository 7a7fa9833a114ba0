-- The arms of the methods of `InstructionData`.
use Rattle.std.specs.Prelude.{ℕ, List, [], codes}
use Rattle.meta_operands.specs.declared.format.InstructionFormat.{InstructionFormat}
use Rattle.meta_rust_insts.specs.declared.data_impl.Method.{Method}
use Rattle.meta_rust_insts.specs.declared.data_impl.Method.TheVariants.{Opcode, TypevarOperand, Arguments, ArgumentsMut, Eq}
use Rattle.meta_rust_insts.specs.declared.data_impl.Method.TheVariants.{Hash, DeepClone, Map}
use Rattle.meta_rust_insts.specs.Held.{values_of}
use Rattle.meta_rust_insts.specs.ReadMethods.{opcode_arm, typevar_arm, values_arm}
use Rattle.meta_rust_insts.specs.EqMethod.{eq_arm}
use Rattle.meta_rust_insts.specs.HashMethod.{hash_arm}
use Rattle.meta_rust_insts.specs.DeepCloneMethod.{clone_arm}
use Rattle.meta_rust_insts.specs.MapMethod.{map_arm}

-- the arm of a format in a method
abbrev pub method_arm : Method → InstructionFormat → List ℕ
method_arm Opcode = λ f. opcode_arm f.name
method_arm TypevarOperand = λ f. typevar_arm f.name f.typevar_operand (values_of f)
method_arm Arguments = λ f. values_arm f.name (values_of f) [] (codes "core::slice::from_ref") (codes "as_slice")
method_arm ArgumentsMut = λ f. values_arm f.name (values_of f) (codes "mut ") (codes "core::slice::from_mut") (codes "as_mut_slice")
method_arm Eq = eq_arm
method_arm Hash = hash_arm
method_arm DeepClone = clone_arm
method_arm Map = map_arm
