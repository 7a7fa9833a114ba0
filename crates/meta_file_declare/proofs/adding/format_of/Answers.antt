use Rattle.std.proofs.Common.{◌∙◌, List, sym, ap, subst}
use Rattle.std.proofs.lemmas.Result.{err_from_is_err_and}
use Rattle.meta_file_syntax.specs.declared.formats.Slot.{Slot}
use Rattle.meta_file_types.specs.Held.{registered}
use Rattle.meta_file_types.specs.Telling.{Fails}
use Rattle.meta_file_declare.specs.Formats.{slots_of, marked_from}
use Rattle.meta_file_declare.proofs.Items.{designating_at, format_made}
use Rattle.meta_file_declare.proofs.Marked.{marked_within}
use Rattle.meta_file_declare.proofs.adding.format_of.Goals as goal

pub returns-in_err-builder : goal.returns-in_err-builder
returns-in_err-builder g c =
    let p = err_from_is_err_and c.from_residual-in_err-builder.result c.from_residual-in_err-builder.ensures.1 in
    rw (p.1, p.2) (subst (λ (all : List Slot). Fails c.in_err-builder.field-0.0 (slots_of g.said.words all)) c.as_slice-slots.ensures
    c.in_err-builder.ensures.slots)

pub returns : goal.returns
returns g c = record {
  meaning = c.in_ok-builder.ensures.slots.meaning;
  is = ap (slots_of g.said.words) (sym c.as_slice-slots.ensures) ∙ c.in_ok-builder.ensures.slots.is;
  by = format_made (registered c.args.types.now g.said) c.args.item.now c.in_ok-builder.ensures.slots.meaning c.in_ok-builder.builder
      c.designating.result c.in_ok-builder.ensures.slots.by
      (c.in_ok-builder.ensures.name ∙ (c.in_ok-name.ensures ∙ c.shown_or.ensures))
      (c.designating.ensures
      ∙ ap (designating_at c.in_ok-builder.builder) (c.marked_in.ensures ∙ ap (marked_from 0) c.as_slice-slots.ensures));
}

pub designating-requires : goal.designating-requires
designating-requires g c = record {
  undesignated = c.in_ok-builder.ensures.designated;
  within = λ place at. marked_within g.said.words c.as_slice-slots.result.now c.in_ok-builder.ensures.slots.meaning _ place
      c.in_ok-builder.ensures.slots.is c.in_ok-builder.ensures.slots.by.values (sym c.marked_in.ensures ∙ at);
}
