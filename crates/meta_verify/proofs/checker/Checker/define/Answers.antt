use Rattle.std.proofs.Common.{◌≡◌, None, ◌∷◌, [], map, All, refl, sym, ap, ◌∙◌, subst}
use Rattle.std.proofs.lemmas.Result.{on_ok_weaker, on_err_weaker}
use Rattle.std.proofs.lemmas.List.Elements.{All-nil, All-cons}
use Rattle.meta_verify.specs.Environment.{with_values, first_redefined}
use Rattle.meta_verify.specs.Numbers.{typed_value_of, stated, IsTypedNumber, HasTypeNumbers}
use Rattle.meta_verify.specs.Defined.{environment_of, definitions}
use Rattle.meta_verify.specs.Statement.{defined_by}
use Rattle.meta_verify.proofs.CheckerLemmas.{fresh_there, seen_same, seen_more}
use Rattle.meta_verify.proofs.checker.Checker.define.Goals as goal

pub define_all-requires : goal.define_all-requires
define_all-requires c = record {
  fresh = fresh_there c.self.inside.types c.args.self.now (typed_value_of c.in-Parameter.parameter ∷ []) c.self.view_is
      (subst (λ s. first_redefined (definitions c.args.self.now) (defined_by (stated s)) ≡ None) c.in-Parameter.is c.requires.fresh);
  numbered = All-cons IsTypedNumber c.in-Parameter.parameter []
      (subst HasTypeNumbers c.in-Parameter.is c.requires.known) (All-nil IsTypedNumber);
}

pub define_all-requires-in-Applied : goal.define_all-requires-in-Applied
define_all-requires-in-Applied c = record {
  fresh = subst (λ rs. first_redefined (environment_of c.self.inside.types) (map typed_value_of rs) ≡ None) (sym c.deref.ensures.value)
      (fresh_there c.self.inside.types c.args.self.now (map typed_value_of c.in-Applied.application.results.items) c.self.view_is
      (subst (λ s. first_redefined (definitions c.args.self.now) (defined_by (stated s)) ≡ None) c.in-Applied.is c.requires.fresh));
  numbered = subst (All IsTypedNumber) (sym c.deref.ensures.value) (subst HasTypeNumbers c.in-Applied.is c.requires.known).results;
}

pub invariant_of-self : goal.invariant_of-self
invariant_of-self c = c.define_all.ensures.known c.self.invariant

pub invariant_of-self-in-Applied : goal.invariant_of-self-in-Applied
invariant_of-self-in-Applied c = c.define_all-in-Applied.ensures.known c.self.invariant

pub returns-in-Parameter-clause-defined : goal.returns-in-Parameter-clause-defined
returns-in-Parameter-clause-defined c =
    on_ok_weaker c.define_all.result
    (λ h. seen_more c.self.inside.types c.define_all.new.types c.args.self.now _
    (typed_value_of c.in-Parameter.parameter ∷ []) c.self.view_is refl h
    ∙ ap (λ s. with_values (definitions c.args.self.now) (defined_by (stated s))) (sym c.in-Parameter.is))
    c.define_all.ensures.defined

pub returns-in-Parameter-clause-kept : goal.returns-in-Parameter-clause-kept
returns-in-Parameter-clause-kept c =
    on_err_weaker c.define_all.result
    (λ h. seen_same c.self.inside.types c.define_all.new.types c.args.self.now _ c.self.view_is refl h) c.define_all.ensures.kept

pub returns-in-Applied-clause-defined : goal.returns-in-Applied-clause-defined
returns-in-Applied-clause-defined c =
    on_ok_weaker c.define_all-in-Applied.result
    (λ h. seen_more c.self.inside.types c.define_all-in-Applied.new.types c.args.self.now _
    (map typed_value_of c.deref.result.now) c.self.view_is refl h
    ∙ ap (λ rs. with_values (definitions c.args.self.now) (map typed_value_of rs)) c.deref.ensures.value
    ∙ ap (λ s. with_values (definitions c.args.self.now) (defined_by (stated s))) (sym c.in-Applied.is))
    c.define_all-in-Applied.ensures.defined

pub returns-in-Applied-clause-kept : goal.returns-in-Applied-clause-kept
returns-in-Applied-clause-kept c =
    on_err_weaker c.define_all-in-Applied.result
    (λ h. seen_same c.self.inside.types c.define_all-in-Applied.new.types c.args.self.now _ c.self.view_is refl h)
    c.define_all-in-Applied.ensures.kept
