use Rattle.std.proofs.Common.{◌≡◌, length, drop}
use Rattle.meta_shared.specs.Formats.{parts_added, CanAdd}
use Rattle.meta_shared.proofs.formats.with_parts.Given as goal

-- with the parts that are left the format has all, and there is room for them
abbrev pub invariant-loop-part : goal.invariant-loop-part
invariant-loop-part l = record {
  rest : parts_added l.imm l.entities l.builder (drop l.part-index l.parts) ≡ parts_added l.imm l.entities l.initial.builder l.parts;
  room : CanAdd l.builder (length (drop l.part-index l.parts));
}
