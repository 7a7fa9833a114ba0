use Rattle.std.proofs.Common.{All, sym, ap, subst, ◌∙◌}
use Rattle.std.proofs.lemmas.Bool.{false≢true}
use Rattle.meta_types.specs.Name.{IsName}
use Rattle.meta_settings.specs.GroupDeclaration.{Entry}
use Rattle.meta_settings.specs.GroupFaults.{IsPlainByte}
use Rattle.meta_settings.proofs.fault.is_well_named.Goals as goal

pub returns-then-not-is_name : goal.returns-then-not-is_name
returns-then-not-is_name c =
    let name = ap (λ (e : Entry). e.name) c.entry.view_is in (
      λ t. absurd (false≢true t),
      λ well. absurd (false≢true (sym c.if-not-is_name.true ∙ c.is_name.ensures.1 (subst IsName (sym name) well.name))),
    )

pub returns-then-not-is_plain_description : goal.returns-then-not-is_plain_description
returns-then-not-is_plain_description c =
    let description = ap (λ (e : Entry). e.description) c.entry.view_is in (
      λ t. absurd (false≢true t),
      λ well. absurd (false≢true (sym c.if-not-is_plain_description.true
          ∙ c.is_plain_description.ensures.1 (subst (All IsPlainByte) (sym description) well.description))),
    )
