use Rattle.std.proofs.Common.{◌≡◌, length, sym, ap, ap₂, ◌∙◌}
use Rattle.std.proofs.lemmas.Option.{same_Some}
use Rattle.std.proofs.lemmas.Result.{IfOk-weaker}
use Rattle.meta_setting_tables.specs.declared.descriptor.Descriptor.{Descriptor}
use Rattle.meta_setting_tables.specs.EntryValues.{masks_from, names_on}
use Rattle.meta_setting_tables.proofs.EntryMeanings.{names_meant}
use Rattle.meta_setting_tables.proofs.group_tables.GroupTables.names_on.Goals as goal

pub returns-in-Some-clause-meaning : goal.returns-in-Some-clause-meaning
returns-in-Some-clause-meaning c = λ g p made is.
    let t = c.args.self.now in
    let r = names_meant g t c.args.preset p made is in
    let m = c.in-Some.ensures.masks in
    let masks : c.in-Some.masks.now ≡ masks_from (length t.defaults) t.preset_masks r.0.offset =
    m.2 ∙ ap (λ (d : Descriptor). masks_from (length t.defaults) t.preset_masks d.offset) (same_Some m.0 r.0 (sym m.1.there ∙ r.1.there)) in
    IfOk-weaker c.names_on.result _ _ (λ v e. e ∙ ap₂ names_on c.descriptors.ensures.entries masks ∙ r.2) c.names_on.ensures

pub returns-in-None-clause-meaning : goal.returns-in-None-clause-meaning
returns-in-None-clause-meaning c = λ g p made is.
    let r = names_meant g c.args.self.now c.args.preset p made is in
    absurd (c.in-None.ensures.none r.0 r.1)
