use Rattle.std.proofs.Common.{◌≡◌, ◌∙◌, ap, arith, None, Some, length, sym, rules}
use Rattle.std.specs.Prelude.{slice_get}
use Rattle.std.proofs.lemmas.Option.{slice_get_past, slice_get_within}
use Rattle.meta_setting_tables.specs.GroupTables.{GroupContents}
use Rattle.meta_setting_tables.proofs.EntriesRead.{default_at, answers_default, read_at, answered_at, some_entry}
use Rattle.meta_setting_tables.proofs.Inside.{inside_of}
use Rattle.meta_setting_tables.proofs.group_tables.GroupTables.default_value.Goals as goal

pub default_of-requires : goal.default_of-requires
default_of-requires c =
    let d = c.in_ok-get.field-0.now in
    let h = c.in_ok-get.ensures.lookup in
    let at = read_at c.self.inside.descriptors.items _ c.args.index d c.deref-2.ensures.value h.3.0 (h.3.1 d) in (
      length c.self.inside.preset_masks.items,
      rw (sym c.deref.ensures.value) at
          (inside_of _ c.self.invariant.well_formed c.args.index d at),
    )

pub returns-clause-entry : goal.returns-clause-entry
returns-clause-entry c =
    let h = c.in_ok-get.ensures.lookup in
    let at = read_at c.self.inside.descriptors.items _ c.args.index _ c.deref-2.ensures.value h.3.0 (h.3.1 c.in_ok-get.field-0.now) in
    let answered = answered_at _ _ c.args.index _ _ _ c.self.view_is c.deref.ensures.value at c.default_of.ensures in
    default_at c.args.self.now.descriptors c.args.self.now.defaults c.args.index _ _ answered.at answered.is

pub returns-clause-absent : goal.returns-clause-absent
returns-clause-absent c =
    let h = c.in_ok-get.ensures.lookup in
    let at = read_at c.self.inside.descriptors.items _ c.args.index _ c.deref-2.ensures.value h.3.0 (h.3.1 c.in_ok-get.field-0.now) in
    some_entry _ c.args.index _ _ (answered_at _ _ c.args.index _ _ _ c.self.view_is c.deref.ensures.value at c.default_of.ensures)

pub returns-clause-meaning : goal.returns-clause-meaning
returns-clause-meaning c =
    let h = c.in_ok-get.ensures.lookup in
    let at = read_at c.self.inside.descriptors.items _ c.args.index _ c.deref-2.ensures.value h.3.0 (h.3.1 c.in_ok-get.field-0.now) in
    let answered = answered_at _ _ c.args.index _ _ _ c.self.view_is c.deref.ensures.value at c.default_of.ensures in
    λ g t. answers_default g c.args.self.now c.args.index _ _ answered.at answered.is t

pub returns-in_err-get-clause-absent : goal.returns-in_err-get-clause-absent
returns-in_err-get-clause-absent c = search rules

pub returns-in_err-get-clause-entry : goal.returns-in_err-get-clause-entry
returns-in_err-get-clause-entry c = λ d at.
    let same : c.deref-2.result.now ≡ c.args.self.now.descriptors = c.deref-2.ensures.value
    ∙ ap (λ (t : GroupContents). t.descriptors) c.self.view_is in
    let none : slice_get c.args.self.now.descriptors c.args.index ≡ None = ap (λ w. slice_get w c.args.index) (sym same)
    ∙ slice_get_past c.deref-2.result.now c.args.index c.in_err-get.ensures.lookup.3 in
    let bad : None ≡ Some d = sym none ∙ at in
    absurd (cc)

pub returns-in_err-get-clause-meaning : goal.returns-in_err-get-clause-meaning
returns-in_err-get-clause-meaning c = λ g t. record {
  setting = λ s at.
      let same = ap length c.deref-2.ensures.value ∙ ap (λ (w : GroupContents). length w.descriptors) c.self.view_is in
      let past = c.in_err-get.ensures.lookup.3 in
      let inside = slice_get_within g.settings c.args.index s at in
      let count = t.count in
      absurd (omega arith);
  other = λ none. c.from_residual.ensures;
}
