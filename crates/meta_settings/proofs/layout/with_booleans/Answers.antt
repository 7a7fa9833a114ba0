use Rattle.std.proofs.Common.{◌≡◌, ◌∙◌, ◌+◌, sym, ap, subst, length, drop, Some, [], ◌∷◌, ◌++◌}
use Rattle.std.specs.Prelude.{slice_get}
use Rattle.std.proofs.lemmas.List.{drop_all, length_push}
use Rattle.std.proofs.lemmas.Option.{slice_get-get_or}
use Rattle.std.proofs.lemmas.Result.{IfOk-from_err}
use Rattle.meta_lists.proofs.Places.{drop_next}
use Rattle.meta_settings.specs.GroupFaults.{AreMet}
use Rattle.meta_settings.specs.TurnedOn.{presets_after, built_preset}
use Rattle.meta_settings.proofs.layout.with_booleans.Goals as goal

pub loop-preset-init : goal.loop-preset-init
loop-preset-init c =
    let e = c.new-presets.ensures.items in record {
      so_far = ap
          (λ v. presets_after v c.args.declared.now) e;
      count = ap length e;
    }

pub of-requires : goal.of-requires
of-requires c =
    let at : slice_get c.args.declared.now c.loop-preset.preset-index ≡ Some c.preset-item.result =
    slice_get-get_or c.args.declared.now c.loop-preset.preset-index c.preset-item.result c.loop-preset-test.true
    ∙ ap Some (sym c.preset-item.is) in
    subst (λ n. AreMet 256 n c.preset-item.result.args) (sym c.loop-preset.invariant.count
    ∙ ap length (sym c.deref.ensures.value)) (c.requires c.loop-preset.preset-index c.preset-item.result at)

pub returns-in_err-built : goal.returns-in_err-built
returns-in_err-built c = IfOk-from_err c.from_residual.result _ c.from_residual.ensures.0

pub returns-in_err-push : goal.returns-in_err-push
returns-in_err-push c = IfOk-from_err c.from_residual-in_err-push.result _ c.from_residual-in_err-push.ensures.0

pub loop-preset-preserved : goal.loop-preset-preserved
loop-preset-preserved c =
    let presets = c.loop-preset.presets.items in
    let item = c.preset-item.result in
    let at : slice_get c.args.declared.now c.loop-preset.preset-index ≡ Some item =
    slice_get-get_or c.args.declared.now c.loop-preset.preset-index item c.loop-preset-test.true ∙ ap Some (sym c.preset-item.is) in
    let more = c.in_ok-push.ensures.items ∙ ap (λ p. presets ++ p ∷ []) (c.in_ok-built.ensures
    ∙ ap (λ e. built_preset e item) c.deref.ensures.value) in
    record {
      so_far = ap (λ v. presets_after v (drop (c.loop-preset.preset-index + 1) c.args.declared.now)) more
          ∙ sym (ap (presets_after presets) (drop_next c.args.declared.now c.loop-preset.preset-index item at))
          ∙ c.loop-preset.invariant.so_far;
      count = ap length c.in_ok-push.ensures.items ∙ length_push presets c.in_ok-built.built
          ∙ ap (λ n. n + 1) c.loop-preset.invariant.count;
    }

pub returns : goal.returns
returns c = sym (ap (presets_after c.loop-preset.presets.items)
    (drop_all c.loop-preset.preset-index c.args.declared.now c.loop-preset-test.false)) ∙ c.loop-preset.invariant.so_far
