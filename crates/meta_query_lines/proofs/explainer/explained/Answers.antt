use Rattle.std.proofs.Common.{◌≡◌, ◌++◌, List, Some, string_bytes, refl, sym, ap, ◌∙◌, subst}
use Rattle.meta_inst.specs.Built.{BuiltInstruction}
use Rattle.meta_lines.specs.Lines.{lines_of}
use Rattle.meta_query_lines.specs.Explained.{AreExplained}
use Rattle.meta_query_lines.proofs.explainer.explained.Goals as goal

pub returns : goal.returns
returns c =
    let (answers, are, added) = c.in_ok-push_explained.ensures in
    let whole : string_bytes c.push_explained.new.out ≡ answers = added ∙ ap (λ o. o ++ answers) c.new-output.ensures.bytes in
    record {
      built = c.args.built.now;
      are_built = c.declarations-declarations.ensures.built;
      is_of = refl;
      tables = c.in_ok-tables.tables;
      are_tables = c.in_ok-tables.ensures.tables;
      answers = subst (λ out. AreExplained c.in_ok-tables.tables (Some c.args.built.now.instructions) (lines_of c.args.input.now) out) (sym whole)
          (subst (λ (is : List BuiltInstruction). AreExplained c.in_ok-tables.tables (Some is) (lines_of c.args.input.now) answers)
          c.instructions.ensures.instructions are);
    }
