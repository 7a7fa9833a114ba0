use Rattle.std.proofs.Common.{List, ℕ, ◌++◌, map, string_bytes, refl, ap, ◌∙◌}
use Rattle.meta_query_lines.specs.SettingLine.{list_of_names}
use Rattle.meta_query_lines.specs.Explanation.{opcode_text}
use Rattle.std.proofs.lemmas.Result.{on_ok_weaker}
use Rattle.meta_query_lines.proofs.naming.push_listed.Goals as goal

pub returns : goal.returns
returns c =
    on_ok_weaker c.push_opcodes.result
    (λ e. (
      list_of_names (map (opcode_text c.args.tables.now) c.in_ok-opcodes.opcodes.items),
      record { opcodes = c.in_ok-opcodes.opcodes.items; listed = c.in_ok-opcodes.ensures; is = refl },
      e ∙ ap (λ (xs : List ℕ). string_bytes c.args.out.now ++ list_of_names (map (opcode_text c.args.tables.now) xs)) c.deref.ensures.value,
    ))
    c.push_opcodes.ensures
