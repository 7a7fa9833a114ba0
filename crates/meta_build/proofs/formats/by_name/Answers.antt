use Rattle.std.proofs.Common.{◌<◌, length, refl, sym, ◌∙◌, subst, List}
use Rattle.std.proofs.lemmas.Result.{IfOk-weaker}
use Rattle.std.proofs.lemmas.Iterator.{items_from_collect}
use Rattle.std.proofs.lemmas.Iterator.Consumers.{YieldsList-from_rest}
use Rattle.std.proofs.lemmas.Option.{slice_get-get_or, slice_get_within, slice_get_read}
use Rattle.meta_lists.proofs.Results.{from_ok}
use Rattle.meta_build.specs.declared.formats.UsedFormat.{UsedFormat}
use Rattle.meta_build.proofs.ByName.{FormatEntry, AreOfFirst, none_yet, one_more, by_names}
use Rattle.meta_build.proofs.formats.by_name.Goals as goal

pub loop-place-init : goal.loop-place-init
loop-place-init c = subst (λ (es : List FormatEntry). AreOfFirst c.args.formats.now c.args.used.now 0 es) (sym c.new-ids.ensures.empty)
    (none_yet c.args.formats.now c.args.used.now)

pub get-requires : goal.get-requires
get-requires c =
    let at = slice_get_read c.args.used.now (length c.args.used.now) c.loop-place.place c.index-used-place.result refl
    c.loop-place-test.true c.index-used-place.is in
    let f = c.requires.of_table c.loop-place.place c.index-used-place.result at in
    subst (λ (u : UsedFormat). u.id < length c.args.formats.now) c.index-used-place.is
    (slice_get_within c.args.formats.now c.index-used-place.result.id f.format f.at)

pub loop-place-preserved : goal.loop-place-preserved
loop-place-preserved c =
    let at = slice_get-get_or c.args.used.now c.loop-place.place c.index-used-place.result c.loop-place-test.true in
    one_more c.args.formats.now c.args.used.now c.requires.apart c.loop-place.place _ at _ c.get.ensures _ refl c.loop-place.ids.entries
    c.insert.new.self.entries c.loop-place.invariant
    (from_ok c.insert.result _ (sym c.is_err.ensures.value ∙ c.if-is_err.false) c.insert.ensures.entries) c.insert.ensures.ordered

pub returns : goal.returns
returns c =
    let items = items_from_collect _ c.collect.ensures.ran (YieldsList-from_rest _ c.into_values.ensures.rest) in
    IfOk-weaker c.collect.result _ _ (λ v e. by_names c.args.formats.now c.args.used.now c.loop-place.place c.loop-place.ids.entries
    v.items c.loop-place-test.false c.loop-place.invariant e) items
