use Rattle.std.proofs.Common.{◌++◌, List, ℕ, refl, ap, ◌∙◌}
use Rattle.meta_types.specs.TypeNumber.{type_with}
use Rattle.meta_asm.proofs.WordLemmas.{value_name}
use Rattle.meta_asm.proofs.words.push_type.Goals as goal

pub returns-in_default : goal.returns-in_default
returns-in_default c = λ h. absurd (c.in_default.ensures.none (type_with c.args.number) h.is_type h.numbered)

pub returns : goal.returns
returns c = λ h. (
  refl,
  c.in_ok-extend_from_slice.ensures.items
      ∙ ap (λ (t : List ℕ). c.args.word.now.items ++ t) (c.as_bytes.ensures.value ∙ c.in_ok-name.ensures.ok
      ∙ value_name c.in-Some.value_type c.args.number c.in-Some.ensures.found),
)
