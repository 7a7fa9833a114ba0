use Rattle.std.proofs.Common.{◌≡◌, ℕ, ◌<◌, ◌^◌, List, ◌++◌, append_assoc, length, map, sym, ap, ap₂, ◌∙◌, arith}
use Rattle.std.proofs.lemmas.List.{length-map}
use Rattle.meta_gen.specs.Constraint.{number_constraint_of}
use Rattle.meta_gen.proofs.Sameness.{constraint_from}
use Rattle.meta_table_text.specs.declared.table_list.TableList.TheVariants.{Constraints}
use Rattle.meta_table_text.specs.Lists.{list_text}
use Rattle.meta_table_text.specs.TableText.{version_line, formats_part, slots_part, sets_part, constraints_part, entries_part, opcodes_text}
use Rattle.meta_table_reader.proofs.OpcodeTextParts.{version_is_line, same_lines, same_numbers, all_shown}
use Rattle.meta_table_reader.proofs.opcode_parts.opcode_parts.Goals as goal

regroup : (a b c d e f g : List ℕ) → (a ++ (b ++ (c ++ (d ++ (e ++ f))))) ++ g ≡ a ++ (b ++ (c ++ (d ++ (e ++ (f ++ g)))))
regroup a b c d e f g = simp append_assoc

pub returns : goal.returns
unfolding opcodes_text constraints_part
returns c = λ t rest shown e.
    let v = c.args.version in
    let at_entries = entries_part v t ++ rest in
    let at_constraints = constraints_part t ++ at_entries in
    let at_sets = sets_part t ++ at_constraints in
    let at_slots = slots_part t ++ at_sets in
    let first = c.skip_line.ensures.item (version_line v) (formats_part t ++ at_slots) (version_is_line v) (e
    ∙ regroup (version_line v) (formats_part t) (slots_part t) (sets_part t) (constraints_part t) (entries_part v t) rest) in
    let (names, formats, a) = c.in_ok-names.ensures t at_slots shown.named first in
    let b = c.skip_slots.ensures t at_sets shown.named.names shown.lists.few_slots a in
    let (type_sets, d) = c.in_ok-type_sets.ensures t at_entries shown.lists b in
    let ns = t.operand_constraints in
    let count = sym (length-map ns constraint_from) in
    let few : length (map constraint_from ns) < 2 ^ 64 = let few = shown.lists.few_constraints in omega (arith, few, count) in
    let (same, f) = c.in_ok-operand_constraints.ensures (map constraint_from ns) at_entries (all_shown ns shown.lists.constraints) few
    (d ∙ ap₂ (λ n lines. list_text Constraints n lines ++ at_entries) count (sym (same_lines ns))) in
    let operand_constraints = ap (map number_constraint_of) same ∙ same_numbers ns in
    let (entries, g) = c.in_ok-constraints.ensures t rest shown f in
    (record { names = names; formats = formats; type_sets = type_sets; operand_constraints = operand_constraints; entries = entries }, g)
