-- A type is fixed for an underived variable exactly where its set has one type.
use Rattle.std.proofs.Common.{◌≡◌, ◌≢◌, ℕ, [], refl, sym, ap, subst, ◌∙◌, IsTrue, ◌↔◌, IfSome, IfNone, Option, None, Some}
use Rattle.std.specs.Prelude.{is_some}
use Rattle.std.proofs.lemmas.List.Elements.{All-nil}
use Rattle.meta_types.specs.TypeParts.{TypeParts}
use Rattle.meta_types.specs.Function.{Narrower, Wider, Function}
use Rattle.meta_types.specs.ValueTypes.{type_parts_of}
use Rattle.meta_types.specs.declared.value_type.ValueType.{ValueType}
use Rattle.meta_typevar.specs.TypeSetParts.{TypeSetParts, HasOne}
use Rattle.meta_typevar.specs.Variable.{Variable, Sets, underived}
use Rattle.meta_typevar.specs.Chain.{IsFixed, IsFixedNowhere}

one_from_fixed : (s : TypeSetParts) (t : TypeParts) → IsFixed s [] t → HasOne s
one_from_fixed s t h = record { one = h.member; member = h.inhabited; only = λ r m. sym (h.reached r m) ∙ h.reached h.member h.inhabited }

fixed_from_one : (s : TypeSetParts) (one : HasOne s) → IsFixed s [] one.one
fixed_from_one s one = record {
  functions = All-nil (λ (f : Function). (f ≢ Narrower) × (f ≢ Wider));
  member = one.one;
  inhabited = one.member;
  reached = λ r m. sym (one.only r m);
  only = λ r x m e. e ∙ one.only r m;
}

-- what an answer that tells the fixed type says of the set
pub one_told : (s : TypeSetParts) (o : Option ValueType) → IfSome o (λ t. IsFixed s [] (type_parts_of t)) → IfNone o (IsFixedNowhere s [])
    → IsTrue (is_some o) ↔ HasOne s
one_told s None found nowhere = ((λ e. cc), (λ one. absurd (nowhere one.one (fixed_from_one s one))))
one_told s (Some t) found nowhere = ((λ e. one_from_fixed s (type_parts_of t) found), (λ one. refl))

-- the same of a root, whose variable is told with its chain
pub one_told_of : (sets : Sets) (v : Variable) (r n : ℕ) → v ≡ underived r → r ≡ n → (o : Option ValueType)
    → IfSome o (λ t. IsFixed (sets v.root) v.chain (type_parts_of t)) → IfNone o (IsFixedNowhere (sets v.root) v.chain)
    → IsTrue (is_some o) ↔ HasOne (sets n)
one_told_of sets v r n e h o found nowhere =
    let is : v ≡ underived n = e ∙ ap underived h in
    one_told (sets n) o
    (subst (λ (w : Variable). IfSome o (λ t. IsFixed (sets w.root) w.chain (type_parts_of t))) is found)
    (subst (λ (w : Variable). IfNone o (IsFixedNowhere (sets w.root) w.chain)) is nowhere)
