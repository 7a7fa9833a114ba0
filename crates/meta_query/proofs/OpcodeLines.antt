-- The text of the tables of an instruction set has no line that is the mark.
use Rattle.std.proofs.Common.{ℕ, ◌/◌, ◌%◌, ◌==◌, cond, Bool, true, false, List, [], ◌∷◌, ◌++◌, All, length, slice_get, Option, None, Some}
use Rattle.std.proofs.Common.{codes, refl}
use Rattle.std.specs.List.{flat_map}
use Rattle.std.specs.Fmt.{decimal}
use Rattle.meta_types.specs.Name.{IsName}
use Rattle.meta_typevar.specs.declared.masks.Masks.{Masks}
use Rattle.meta_inst.specs.Tables.{TableContents, OpcodeNumbers, NumberConstraint, at_opcode, no_type_set, result_count, value_count}
use Rattle.meta_text.specs.Lines.{Line, at, text_of}
use Rattle.meta_table_text.specs.declared.version.Version.{Version}
use Rattle.meta_table_text.specs.declared.version.Version.TheVariants.{One, Two, Three}
use Rattle.meta_table_text.specs.declared.table_list.TableList.TheVariants.{Formats, OpcodeSlots, TypeSets, Constraints, Entries}
use Rattle.meta_table_text.specs.Version.{version_number, offset_shown}
use Rattle.meta_table_text.specs.TypeSetText.{masks_text, set_or_nothing, mask_lines, set_comment, block_end, set_block}
use Rattle.meta_table_text.specs.ConstraintText.{constraint_text, constraint_line, quoted_all, constraints_comment}
use Rattle.meta_table_text.specs.OpcodeText.{each_opcode, name_at, format_at, camel_at, format_line, slot_line, hex_byte, flags_lines}
use Rattle.meta_table_text.specs.OpcodeText.{place_line, second_line, entry_fields, bool_text, flags_comment, constraints_of}
use Rattle.meta_table_text.specs.OpcodeText.{control_comment}
use Rattle.meta_table_text.specs.OpcodeText.{second_comment, entry_comments, entry_block, block_or_nothing, opcode_block}
use Rattle.meta_table_text.specs.TableText.{version_line, formats_part, slots_part, sets_list, sets_part, constraints_part, entries_part}
use Rattle.meta_table_text.specs.TableText.{opcodes_text}
use Rattle.meta_query.proofs.Unmarked.{IsUnmarked, unmarked_none, unmarked_both}
use Rattle.meta_query.proofs.LineTexts.{lines_unmarked, each_unmarked, any_unmarked, list_unmarked}
use Rattle.meta_query.proofs.Endless.{IsEndless, number_endless, hex_endless, bool_endless, name_at_endless, camel_at_endless}
use Rattle.meta_query.proofs.Endless.{set_endless, set_or_nothing_endless, constraint_endless, quoted_all_endless}

-- ---- type sets and constraints

comment_unmarked : (about set : List ℕ) → IsEndless about → IsEndless set → IsUnmarked (set_comment about set)
unfolding set_comment
comment_unmarked about set free free_set =
    lines_unmarked (at 2 (codes "// " ∷ about ∷ set ∷ []) ∷ []) ((refl, (free, (free_set, tt))), tt)

end_unmarked : IsUnmarked block_end
unfolding block_end
end_unmarked = lines_unmarked (at 1 (codes "}" ∷ []) ∷ at 1 (codes "," ∷ []) ∷ []) ((refl, tt), ((refl, tt), tt))

fields_unmarked : (m : Masks) → IsUnmarked (text_of (mask_lines m))
unfolding mask_lines
fields_unmarked m = lines_unmarked (mask_lines m) (
  (refl, tt),
  (
    (refl, (number_endless m.lanes, (refl, tt))),
    (
      (refl, (number_endless m.dynamic_lanes, (refl, tt))),
      ((refl, (number_endless m.ints, (refl, tt))), ((refl, (number_endless m.floats, (refl, tt))), tt)),
    ),
  ),
)

set_unmarked : (m : Masks) → IsUnmarked (set_block m)
unfolding set_block
set_unmarked m = unmarked_both (text_of (mask_lines m)) (set_comment [] (masks_text m) ++ block_end) (fields_unmarked m)
    (unmarked_both (set_comment [] (masks_text m)) block_end (comment_unmarked [] (masks_text m) refl (set_endless m)) end_unmarked)

constraint_unmarked : (c : NumberConstraint) → IsUnmarked (constraint_line c)
unfolding constraint_line
constraint_unmarked c = lines_unmarked (at 1 (codes "OperandConstraint::" ∷ constraint_text c ∷ codes "," ∷ []) ∷ [])
    ((refl, (constraint_endless c, (refl, tt))), tt)

-- ---- opcodes

-- the line of the comment on counts
abbrev counts_line : List ℕ → ℕ → Line
counts_line name flags = at 2 (codes "// " ∷ name ∷ codes ": fixed_results=" ∷ decimal (result_count flags)
    ∷ codes ", use_typevar_operand=" ∷ bool_text (flags / 8 % 2 == 1) ∷ codes ", requires_typevar_operand="
    ∷ bool_text (flags / 16 % 2 == 1) ∷ codes ", fixed_values=" ∷ decimal (value_count flags) ∷ [])

module _ (t : TableContents) (names : All IsName t.names) (formats : All IsName t.formats) where
  camel_endless : (op : ℕ) → IsEndless (camel_at t op)
  unfolding camel_at
  camel_endless op = camel_at_endless t.names op names

  format_unmarked : (op : ℕ) → IsUnmarked (format_line t op)
  unfolding format_line
  format_unmarked op =
      lines_unmarked (at 1 (codes "InstructionFormat::" ∷ format_at t op ∷ codes ", // " ∷ name_at t op ∷ []) ∷ [])
      ((refl, (name_at_endless t.formats op formats, (refl, (name_at_endless t.names op names, tt)))), tt)

  slot_unmarked : (slot : Option ℕ) → IsUnmarked (slot_line t slot)
  unfolding slot_line
  slot_unmarked None = lines_unmarked (at 1 (codes "None," ∷ []) ∷ []) ((refl, tt), tt)
  slot_unmarked (Some op) = lines_unmarked (at 1 (codes "Some(Opcode::" ∷ camel_at t op ∷ codes ")," ∷ []) ∷ [])
      ((refl, (camel_endless op, (refl, tt))), tt)

  flags_unmarked : (flags : ℕ) → IsUnmarked (flags_lines flags)
  unfolding flags_lines
  flags_unmarked flags = lines_unmarked (at 1 (codes "OpcodeConstraints {" ∷ [])
      ∷ at 2 (codes "flags: 0x" ∷ hex_byte flags ∷ codes "," ∷ []) ∷ []) ((refl, tt), ((refl, (hex_endless flags, (refl, tt))), tt))

  place_unmarked : (field : List ℕ) (place : ℕ) → IsEndless field → IsUnmarked (place_line field place)
  unfolding place_line
  place_unmarked field place free = lines_unmarked (at 2 (field ∷ codes ": " ∷ decimal place ∷ codes "," ∷ []) ∷ [])
      ((free, (refl, (number_endless place, (refl, tt)))), tt)

  second_unmarked : (v : Version) (e : OpcodeNumbers) → IsUnmarked (second_line v e)
  unfolding second_line
  second_unmarked One e = unmarked_none
  second_unmarked Two e = place_unmarked (codes "second_offset") (offset_shown Two e.second_offset) refl
  second_unmarked Three e = place_unmarked (codes "second_offset") (offset_shown Three e.second_offset) refl

  entry_unmarked : (v : Version) (e : OpcodeNumbers) → IsUnmarked (entry_fields v e)
  unfolding entry_fields
  entry_unmarked v e =
      let first = place_line (codes "typeset_offset") (offset_shown v e.typeset_offset) in
      let last = place_line (codes "constraint_offset") e.constraint_offset in
      unmarked_both (flags_lines e.flags) (first ++ (second_line v e ++ last)) (flags_unmarked e.flags)
      (unmarked_both first (second_line v e ++ last) (place_unmarked (codes "typeset_offset") (offset_shown v e.typeset_offset) refl)
      (unmarked_both (second_line v e) last (second_unmarked v e)
      (place_unmarked (codes "constraint_offset") e.constraint_offset refl)))

  counts_unmarked : (name : List ℕ) (flags : ℕ) → IsEndless name → IsUnmarked (flags_comment name flags)
  unfolding flags_comment
  counts_unmarked name flags free = lines_unmarked (counts_line name flags ∷ []) (
    (
      refl,
      (
        free,
        (
          refl,
          (
            number_endless (result_count flags),
            (
              refl,
              (
                bool_endless (flags / 8 % 2 == 1),
                (refl, (bool_endless (flags / 16 % 2 == 1), (refl, (number_endless (value_count flags), tt)))),
              ),
            ),
          ),
        ),
      ),
    ),
    tt,
  )

  listed_unmarked : (cs : List NumberConstraint) → IsUnmarked (constraints_comment cs)
  unfolding constraints_comment
  listed_unmarked cs = lines_unmarked (at 2 (codes "// Constraints=[" ∷ quoted_all cs ∷ codes "]" ∷ []) ∷ [])
      ((refl, (quoted_all_endless cs, (refl, tt))), tt)

  control_unmarked : (about : List ℕ) (offset : ℕ) → IsEndless about → IsUnmarked (control_comment t about offset)
  unfolding control_comment
  control_unmarked about offset free = by_test (offset == no_type_set)
    where
      by_test : (b : Bool) → IsUnmarked (cond b [] (set_comment about (set_or_nothing (slice_get t.type_sets offset))))
      by_test true = unmarked_none
      by_test false = comment_unmarked about (set_or_nothing (slice_get t.type_sets offset)) free
          (set_or_nothing_endless (slice_get t.type_sets offset))

  other_control_unmarked : (v : Version) (e : OpcodeNumbers) → IsUnmarked (second_comment v t e)
  unfolding second_comment
  other_control_unmarked One e = unmarked_none
  other_control_unmarked Two e = control_unmarked (codes "Second control over ") e.second_offset refl
  other_control_unmarked Three e = control_unmarked (codes "Second control over ") e.second_offset refl

  comments_unmarked : (v : Version) (op : ℕ) (e : OpcodeNumbers) → IsUnmarked (entry_comments v t op e)
  unfolding entry_comments
  comments_unmarked v op e =
      let counts = flags_comment (camel_at t op) e.flags in
      let listed = constraints_comment (constraints_of t e) in
      let control = control_comment t (codes "Polymorphic over ") e.typeset_offset in
      let second = second_comment v t e in
      unmarked_both counts (listed ++ (control ++ second)) (counts_unmarked (camel_at t op) e.flags (camel_endless op))
      (unmarked_both listed (control ++ second) (listed_unmarked (constraints_of t e))
      (unmarked_both control second (control_unmarked (codes "Polymorphic over ") e.typeset_offset refl) (other_control_unmarked v e)))

  block_unmarked : (v : Version) (op : ℕ) (e : Option OpcodeNumbers) → IsUnmarked (block_or_nothing v t op e)
  unfolding entry_block
  block_unmarked v op None = unmarked_none
  block_unmarked v op (Some e) = unmarked_both (entry_fields v e) (entry_comments v t op e ++ block_end) (entry_unmarked v e)
      (unmarked_both (entry_comments v t op e) block_end (comments_unmarked v op e) end_unmarked)

  opcode_unmarked : (v : Version) (op : ℕ) → IsUnmarked (opcode_block v t op)
  unfolding opcode_block
  opcode_unmarked v op = block_unmarked v op (at_opcode t.entries op)

  sets_unmarked : IsUnmarked (sets_part t)
  unfolding sets_part sets_list
  sets_unmarked = by_test (length t.type_sets == 0)
    where
      by_test : (b : Bool) → IsUnmarked (cond b [] (sets_list t))
      by_test true = unmarked_none
      by_test false = list_unmarked TypeSets (length t.type_sets) (flat_map set_block t.type_sets)
          (any_unmarked set_block t.type_sets set_unmarked)

  pub opcodes_unmarked : (v : Version) → IsUnmarked (opcodes_text v t)
  unfolding opcodes_text version_line formats_part slots_part constraints_part entries_part
  opcodes_unmarked v =
      unmarked_both (version_line v) (formats_part t ++ (slots_part t ++ (sets_part t ++ (constraints_part t ++ entries_part v t))))
      (lines_unmarked (at 0 (codes "// Table text version " ∷ decimal (version_number v) ∷ codes "." ∷ []) ∷ [])
      (((refl, (number_endless (version_number v), (refl, tt))), refl), tt))
      (unmarked_both (formats_part t) (slots_part t ++ (sets_part t ++ (constraints_part t ++ entries_part v t)))
      (list_unmarked Formats (length t.entries) (each_opcode (format_line t) (length t.entries))
      (each_unmarked (format_line t) (length t.entries) format_unmarked))
      (unmarked_both (slots_part t) (sets_part t ++ (constraints_part t ++ entries_part v t))
      (list_unmarked OpcodeSlots (length t.opcode_slots) (flat_map (slot_line t) t.opcode_slots)
      (any_unmarked (slot_line t) t.opcode_slots slot_unmarked))
      (unmarked_both (sets_part t) (constraints_part t ++ entries_part v t) sets_unmarked
      (unmarked_both (constraints_part t) (entries_part v t)
      (list_unmarked Constraints (length t.operand_constraints) (flat_map constraint_line t.operand_constraints)
      (any_unmarked constraint_line t.operand_constraints constraint_unmarked))
      (list_unmarked Entries (length t.entries) (each_opcode (opcode_block v t) (length t.entries))
      (each_unmarked (opcode_block v t) (length t.entries) (opcode_unmarked v)))))))
