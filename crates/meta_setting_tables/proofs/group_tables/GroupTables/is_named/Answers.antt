use Rattle.std.proofs.Common.{List, length, false, refl, ap, subst, ◌∙◌}
use Rattle.std.proofs.lemmas.Option.{slice_get_read}
use Rattle.meta_setting_tables.specs.declared.descriptor.Descriptor.{Descriptor}
use Rattle.meta_unique.specs.NameSlots.{NameAnswers}
use Rattle.meta_setting_tables.specs.GroupTables.{GroupContents, names_in}
use Rattle.meta_setting_tables.proofs.EntriesRead.{has_name, has_no_name}
use Rattle.meta_setting_tables.proofs.group_tables.GroupTables.is_named.Goals as goal

pub returns-in-Some : goal.returns-in-Some
returns-in-Some c =
    let ds = c.deref.result.now in
    let d = c.in-Some.descriptor.now in
    let h = c.in-Some.ensures.lookup in
    let at = slice_get_read ds (length ds) c.args.index d refl h.3.0 (h.3.1 d) in
    subst (λ (w : List Descriptor). NameAnswers 0 (names_in w) c.args.name.now c.args.index c.eq.result) (c.deref.ensures.value
    ∙ ap (λ (t : GroupContents). t.descriptors) c.self.view_is)
    (has_name ds c.args.index d c.as_bytes.result.now c.args.name.now c.eq.result at c.as_bytes.ensures c.eq.ensures)

pub returns-in-None : goal.returns-in-None
returns-in-None c =
    subst (λ (w : List Descriptor). NameAnswers 0 (names_in w) c.args.name.now c.args.index false) (c.deref.ensures.value
    ∙ ap (λ (t : GroupContents). t.descriptors) c.self.view_is)
    (has_no_name c.deref.result.now c.args.index c.args.name.now c.in-None.ensures.lookup.3)
