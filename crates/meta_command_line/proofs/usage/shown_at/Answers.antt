use Rattle.std.proofs.Common.{◌∙◌, refl, sym, subst, string_bytes, arith}
use Rattle.std.proofs.lemmas.Option.{none-some, same_Some, slice_get_read, slice_get_within}
use Rattle.std.proofs.lemmas.Result.{IfOk-weaker}
use Rattle.meta_command_line.specs.Usage.{IsShown}
use Rattle.meta_command_line.proofs.usage.shown_at.Goals as goal

pub returns-in-Some : goal.returns-in-Some
returns-in-Some c =
    let l = c.in-Some.ensures.lookup.3 in
    let here = slice_get_read c.args.words.now _ c.args.place c.in-Some.word.now refl l.0 (l.1 _) in
    IfOk-weaker c.shown.result _ _ (λ s shows. record {
      word = λ word at. subst (λ w. IsShown w (string_bytes s)) (same_Some _ _ (sym here ∙ at)) shows;
      none = λ absent. absurd (none-some _ (sym absent ∙ here));
    })
    c.shown.ensures

pub returns-in-None : goal.returns-in-None
returns-in-None c = record {
  word = λ word at.
      let within = slice_get_within c.args.words.now c.args.place word at in
      let past = c.in-None.ensures.lookup.3 in
      let bad : ⊥ = omega (arith, within, past) in
      absurd bad;
  none = λ absent. c.new.ensures.bytes;
}
