use Rattle.std.proofs.Common.{◌≡◌, ◌∙◌, ◌++◌, ◌∷◌, [], take, sym, ap, arith}
use Rattle.std.specs.List.{flat_map}
use Rattle.std.proofs.lemmas.Grind.{elements}
use Rattle.std.proofs.lemmas.List.{take_all}
use Rattle.meta_settings.specs.TurnedOn.{firsts, meant_by}
use Rattle.meta_settings.proofs.Meaning.{meant_more}
use Rattle.meta_settings.proofs.preset.turned_on.Goals as goal
use Rattle.meta_settings.proofs.preset.turned_on.Goals.{in-BoolSetting+in_ok-add-in-BoolSetting}
use Rattle.meta_settings.proofs.preset.turned_on.Goals.{in-OtherPreset+in_ok-add_all-in-OtherPreset}

pub loop-arg-preserved : goal.loop-arg-preserved
loop-arg-preserved c =
    let before = flat_map (meant_by c.args.earlier.now) (take c.loop-arg.arg-index c.args.args.now) in
    let more = ap firsts (sym (meant_more c.args.earlier.now c.args.args.now c.loop-arg.arg-index _ c.loop-arg-test.true c.arg-item.is)) in
    elim c.match-arg.branch [
      | in-BoolSetting+in_ok-add-in-BoolSetting w ↦
          let meant : w.number.result ∷ [] ≡ meant_by c.args.earlier.now c.arg-item.result = ap (λ n. n ∷ []) w.number.ensures
          ∙ ap (meant_by c.args.earlier.now) (sym w.in-BoolSetting.is) in
          w.named-is ∙ w.in_ok-add-in-BoolSetting.ensures before c.loop-arg.invariant ∙ ap (λ ns. firsts (before ++ ns)) meant ∙ more
      | in-OtherPreset+in_ok-add_all-in-OtherPreset w ↦
          let meant : w.booleans.result.now ≡ meant_by c.args.earlier.now c.arg-item.result = grind (arith, elements) in
          w.named-is ∙ w.in_ok-add_all-in-OtherPreset.ensures before c.loop-arg.invariant ∙ ap (λ ns. firsts (before ++ ns)) meant ∙ more
    ]

pub returns : goal.returns
returns c = c.numbers.ensures ∙ c.loop-arg.invariant
    ∙ ap (λ args. firsts (flat_map (meant_by c.args.earlier.now) args))
    (take_all c.loop-arg.arg-index c.args.args.now c.loop-arg-test.false)
