use Rattle.std.proofs.Common.{◌++◌, ◌||◌, ◌∙◌, ap, arith}
use Rattle.std.proofs.Math.Path.{fun_ext}
use Rattle.meta_operands.specs.declared.field.FormatField.{FormatField}
use Rattle.meta_rust_names.specs.Known.{known}
use Rattle.meta_rust_names.specs.Forms.{has_form}
use Rattle.meta_rust_names.specs.Fields.{field_refused, field_at, fields_refused}
use Rattle.meta_rust_names.proofs.Placed.{next_placed, no_placed}
use Rattle.meta_rust_names.proofs.Growing.{known_one_more}
use Rattle.meta_rust_names.proofs.fields.push_fields.Goals as goal

pub loop-number-preserved : goal.loop-number-preserved
loop-number-preserved c =
    let i = c.loop-number.number in
    let field = c.index-fields-number.result in
    record {
      added = next_placed (field_at c.args.format.now c.args.place c.args.fields.now) c.args.fields.now i field _ _ _
          (omega (arith, c.loop-number-test.true)) c.index-fields-number.is
          (c.in_ok-push_field.ensures
          ∙ ap (λ known. c.loop-number.out.items ++ field_refused c.args.format.now c.args.place known (i, field))
          (fun_ext c.loop-number.invariant.known_names))
          c.loop-number.invariant.added;
      known_names = λ text. known_one_more (λ name. has_form name text) (λ (f : FormatField). f.member) c.args.fields.now i field _ _
          (omega (arith, c.loop-number-test.true)) c.index-fields-number.is
          (c.in_ok-add_forms.ensures text ∙ ap (λ name. has_form name text || known c.loop-number.names text) c.as_str.ensures)
          (c.loop-number.invariant.known_names text);
    }

pub returns : goal.returns
unfolding fields_refused
returns c =
    no_placed (field_at c.args.format.now c.args.place c.args.fields.now) c.args.fields.now c.loop-number.number _ _
    (omega (arith, c.loop-number-test.false)) c.loop-number.invariant.added
