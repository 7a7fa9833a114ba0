use Rattle.std.proofs.Common.{List, ◌++◌, map, string_bytes, refl, ap, ◌∙◌}
use Rattle.std.proofs.lemmas.Result.{on_ok_weaker}
use Rattle.meta_explain.specs.declared.found.Found.{Found}
use Rattle.meta_query_lines.specs.SettingLine.{list_of_names}
use Rattle.meta_query_lines.specs.Explanation.{found_text}
use Rattle.meta_query_lines.proofs.AddedLemmas.{found_types}
use Rattle.meta_query_lines.proofs.finding.push_find.Goals as goal

pub push_found-requires : goal.push_found-requires
push_found-requires c =
    rw c.deref.ensures.value (found_types c.args.tables.now c.args.results.now c.args.values.now _
    (λ op k rs vs accepts. c.types_alone_pass.ensures.accepted c.args.tables.now op k rs vs c.opcode_count-count.ensures.well_formed accepts)
    c.in_ok-found.ensures)

pub returns : goal.returns
returns c =
    on_ok_weaker c.push_found.result
    (λ e. (
      list_of_names (map (found_text c.args.tables.now) c.in_ok-found.found.items),
      record { found = c.in_ok-found.found.items; listed = c.in_ok-found.ensures; is = refl },
      e ∙ ap (λ (xs : List Found). string_bytes c.args.out.now ++ list_of_names (map (found_text c.args.tables.now) xs)) c.deref.ensures.value,
    ))
    c.push_found.ensures
