use Rattle.std.proofs.Common.{List, length, map, slice_get, refl, sym, ap, ◌∙◌, subst, arith}
use Rattle.std.proofs.lemmas.List.{length-map}
use Rattle.std.proofs.lemmas.Option.{slice_get_read, slice_get_within}
use Rattle.meta_lists.proofs.Mapped.{get_map}
use Rattle.meta_flags.specs.declared.flag_value.FlagValue.{FlagValue}
use Rattle.meta_flags.specs.Served.{served_in}
use Rattle.meta_flags.specs.Changes.{HasNone, IsOfPreset, HasValue}
use Rattle.meta_flags.specs.Held.{FlagContents, value_of}
use Rattle.meta_flags.proofs.Entries.{has_none}
use Rattle.meta_flags.proofs.GetLemmas.{has_value, of_preset}
use Rattle.meta_flags.proofs.held.Flags.get.Goals as goal

pub returns-in_default : goal.returns-in_default
returns-in_default c = subst (λ (f : FlagContents). HasNone (served_in f.group) c.args.name.now) c.self.view_is
    (has_none c.self.inside.group.now c.args.name.now c.in_default.ensures.found)

pub returns-in-Some-get : goal.returns-in-Some-get
returns-in-Some-get c =
    let t = c.self.inside.group.now in
    let items = c.self.inside.values.items in
    let state = map value_of items in
    let index = c.in-Some.index in
    let value = c.in-Some-get.value.now in
    let l = c.in-Some-get.ensures.lookup.3 in
    let item = slice_get_read c.deref.result.now _ index value refl l.0 (l.1 _) in
    let at = get_map value_of items index value (ap (λ (xs : List FlagValue). slice_get xs index) (sym c.deref.ensures.value) ∙ item) in
    subst (λ (f : FlagContents). HasValue (served_in f.group) c.args.name.now f.state (value_of value)) c.self.view_is
    (has_value t c.args.name.now state c.self.invariant.settings index c.in-Some.ensures.found (value_of value) at
    (slice_get_within state index (value_of value) at))

pub returns-in-None : goal.returns-in-None
returns-in-None c =
    let t = c.self.inside.group.now in
    let items = c.self.inside.values.items in
    let past = c.in-None.ensures.lookup.3 in
    let long = ap (λ (xs : List FlagValue). length xs) c.deref.ensures.value in
    let mapped = length-map items value_of in
    subst (λ (f : FlagContents). IsOfPreset (served_in f.group) c.args.name.now) c.self.view_is
    (of_preset t c.args.name.now (map value_of items) c.self.invariant.settings c.in-Some.index
    c.in-Some.ensures.found (omega (arith, past, long, mapped)))
