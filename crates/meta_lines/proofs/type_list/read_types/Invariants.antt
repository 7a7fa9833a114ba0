use Rattle.std.proofs.Common.{◌≡◌, map, ◌++◌, All}
use Rattle.meta_types.specs.TypeParts.{name_of}
use Rattle.meta_lines.specs.Words.{pieces_of}
use Rattle.meta_types.specs.TypeNumber.{type_with, IsTypeNumber}
use Rattle.meta_lines.proofs.type_list.read_types.Given as goal

-- each number so far is a type's; the names of these types come before the names that are left
abbrev pub invariant-loop-name : goal.invariant-loop-name
invariant-loop-name l = record {
  known : All IsTypeNumber l.numbers.items;
  named : map name_of (map type_with l.numbers.items) ++ l.name-iterator ≡ pieces_of 44 l.fn.word;
}
