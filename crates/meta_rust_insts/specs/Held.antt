-- How `InstructionData` holds the operands of a format.
--     values_of f, blocks_of f, has_raw_block f      how it holds the value inputs and the blocks
--     values_member v, blocks_member b, raw_block_member r      the members that hold them, if there are any
use Rattle.std.specs.Prelude.{ℕ, ◌==◌, Bool, true, false, not, List, [], Option, None, Some, if◌then◌else◌, codes}
use Rattle.meta_operands.specs.declared.format.InstructionFormat.{InstructionFormat}
use Rattle.meta_rust_insts.specs.declared.held.Values.{Values}
use Rattle.meta_rust_insts.specs.declared.held.Values.TheVariants as values
use Rattle.meta_rust_insts.specs.declared.held.Blocks.{Blocks}
use Rattle.meta_rust_insts.specs.declared.held.Blocks.TheVariants as blocks

-- this count of value inputs, and no more: one stands alone, and several stand in an array
abbrev pub fixed_values : ℕ → Values
fixed_values count = if count == 0 then values.Absent else (if count == 1 then values.One else values.Several count)

-- if more values may follow, all stand in one list
abbrev pub values_of : InstructionFormat → Values
values_of f = if f.has_value_list then values.Listed else fixed_values f.num_value_operands

-- one block stands alone, and two stand in an array
abbrev pub blocks_of : InstructionFormat → Blocks
blocks_of f = if f.num_block_operands == 0 then blocks.Absent else (if f.num_block_operands == 1 then blocks.One else blocks.Two)

-- whether there is a block without arguments
abbrev pub has_raw_block : InstructionFormat → Bool
has_raw_block f = not (f.num_raw_block_operands == 0)

abbrev pub values_member : Values → Option (List ℕ)
values_member values.Absent = None
values_member values.One = Some (codes "arg")
values_member (values.Several count) = Some (codes "args")
values_member values.Listed = Some (codes "args")

abbrev pub blocks_member : Blocks → Option (List ℕ)
blocks_member blocks.Absent = None
blocks_member blocks.One = Some (codes "destination")
blocks_member blocks.Two = Some (codes "blocks")

-- one of these texts, by how values are held: for one alone, for an array, or for a list
abbrev pub by_values : Values → List ℕ → List ℕ → List ℕ → List ℕ
by_values values.Absent one several listed = []
by_values values.One one several listed = one
by_values (values.Several count) one several listed = several
by_values values.Listed one several listed = listed

-- one of these texts, by how blocks are held: for one alone, or for two
abbrev pub by_blocks : Blocks → List ℕ → List ℕ → List ℕ
by_blocks blocks.Absent one two = []
by_blocks blocks.One one two = one
by_blocks blocks.Two one two = two

abbrev pub raw_block_member : Bool → Option (List ℕ)
raw_block_member false = None
raw_block_member true = Some (codes "block")
