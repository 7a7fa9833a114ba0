-- What values are of, where a variable was derived from a root.
use Rattle.std.proofs.Common.{◌≡◌, ◌≢◌, ◌<◌, ◌+◌, ℕ, List, ◌∷◌, [], ◌++◌, length, Option, None, Some, ap, sym, subst, ◌∙◌, arith}
use Rattle.std.proofs.Common.{append_assoc, length-append}
use Rattle.std.specs.List.{AllZip}
use Rattle.std.proofs.lemmas.Option.{same_Some}
use Rattle.meta_lists.proofs.Places.{get_left}
use Rattle.meta_types.specs.Function.{Function}
use Rattle.meta_types.specs.DerivedFunc.{function_of}
use Rattle.meta_types.specs.declared.derived_func.DerivedFunc.{DerivedFunc}
use Rattle.meta_typevar.specs.TypeSetParts.{TypeSetParts}
use Rattle.meta_typevar.specs.Variable.{underived, longer}
use Rattle.meta_typevar.specs.Registry.{set_at, variable_from, variable_at, coded_of, coded_at, derived_content, IsKept, IsRootOrDerived}
use Rattle.meta_typevar.specs.Registry.{IsRegistry}
use Rattle.meta_typevar.specs.Derivation.{GrowsByOne}
use Rattle.meta_typevar.specs.declared.content.TypeVarContent.{TypeVarContent}
use Rattle.meta_typevar.specs.declared.content.TypeVarParent.{TypeVarParent}
use Rattle.meta_typevar.proofs.Variables.{variable_child}
use Rattle.meta_operands.specs.declared.operand.Operand.{Operand}
use Rattle.meta_query.specs.declared.shape.Shape.{Shape}
use Rattle.meta_query.specs.Seeds.{seed_of, shape_of, set_of_seed}
use Rattle.meta_query.specs.Synth.{IsValueOf, Extends, root_with, derived_with, derived_for, variables_of_number}

pub extends : {old new : List TypeVarContent} → GrowsByOne old new → Extends 1 old new
extends grows = record { more = grows.more; is = grows.is; few = grows.few }

module _ (old new : List TypeVarContent) (x : ℕ) (grows : GrowsByOne old new) (of : x < length old)
    (root : variable_at old x ≡ underived x) where
  -- the root's number is one yet
  pub within : x < length new
  within = omega (arith, of, ap length grows.is, length-append old grows.more)

  -- and it is a root yet
  pub still : variable_at new x ≡ underived x
  still = subst (λ all. variable_at all x ≡ underived x) (sym grows.is) (ap (variable_from x) (get_left old grows.more x of) ∙ root)

  pub one_of_root : (name : List ℕ) (os : List Operand) → AllZip (IsValueOf new) ((name, variable_at new x) ∷ []) os
      → AllZip (IsValueOf new) ((name, underived x) ∷ []) os
  one_of_root name os h = subst (λ v. AllZip (IsValueOf new) ((name, v) ∷ []) os) still h

  pub two_of_root : (a b : List ℕ) (os : List Operand) → AllZip (IsValueOf new)
      ((a, variable_at new x) ∷ (b, variable_at new x) ∷ []) os
      → AllZip (IsValueOf new) ((a, underived x) ∷ (b, underived x) ∷ []) os
  two_of_root a b os h = subst (λ v. AllZip (IsValueOf new) ((a, v) ∷ (b, v) ∷ []) os) still h

-- a value of the derived variable
pub one_derived : (old new : List TypeVarContent) (x y : ℕ) (f : Function) (name : List ℕ) (os : List Operand)
    → variable_at old x ≡ underived x → variable_at new y ≡ longer (variable_at old x) f
    → AllZip (IsValueOf new) ((name, variable_at new y) ∷ []) os → AllZip (IsValueOf new) ((name, longer (underived x) f) ∷ []) os
one_derived old new x y f name os root is h = subst (λ v. AllZip (IsValueOf new) ((name, v) ∷ []) os)
    (is ∙ ap (λ v. longer v f) root) h

-- one variable more, and then at most one more
pub extends_after : (old now new : List TypeVarContent) (c : TypeVarContent) → now ≡ old ++ c ∷ [] → Extends 1 now new
    → Extends 2 old new
extends_after old now new c added grows = record {
  more = c ∷ grows.more;
  is = grows.is ∙ (ap (λ all. all ++ grows.more) added ∙ append_assoc old (c ∷ []) grows.more);
  few = omega (arith, grows.few);
}

-- the new variable is a root
pub root_added : (now : List TypeVarContent) (x : ℕ) (c : TypeVarContent) → IsKept now x c → c.chain ≡ [] → c.root ≡ x
    → variable_at now x ≡ underived x
root_added now x c kept chain root = ap (variable_from x) kept ∙ cc

-- ---- what is kept of the derived variable

-- nothing is derived yet from the variable that was added last
pub none_derived : (vars : List TypeVarContent) (x : ℕ) → IsRegistry vars → length vars ≡ x + 1 → (f : DerivedFunc) (m : ℕ)
    → m < length vars → variable_at vars m ≢ longer (variable_at vars x) (function_of f)
none_derived vars x registry last f m l e =
    let child = variable_child vars x m f registry (omega (arith, last)) l e in
    later child.content child.content.base (registry.variables m child.content child.kept).placed child.derived
  where
    later : (c : TypeVarContent) (base : Option TypeVarParent) → IsRootOrDerived vars m c base
        → base ≡ Some (record { type_var = x; derived_func = f }) → ⊥
    later c None h is = absurd (cc)
    later c (Some p) h is =
        let parent : p.type_var ≡ x = ap (λ (q : TypeVarParent). q.type_var) (same_Some p (record { type_var = x; derived_func = f }) is) in
        omega (arith, h.earlier, parent, last, l)

-- the set of a root
pub root_set : (vars : List TypeVarContent) (s : TypeSetParts) (x : ℕ) → IsKept vars x (root_with s x) → coded_at vars x ≡ s
root_set vars s x kept = ap (λ o. coded_of vars (variable_from x o)) kept ∙ ap set_at kept

-- what is added where a root is derived from
pub derived_added : (old new : List TypeVarContent) (s : TypeSetParts) (x : ℕ) (f : DerivedFunc) → IsKept old x (root_with s x)
    → new ≡ old ++ derived_content old x (root_with s x) f ∷ [] → new ≡ old ++ derived_with s x f ∷ []
derived_added old new s x f kept e = e ∙ ap (λ t. old ++ (record (derived_with s x f) { type_set = t }) ∷ []) (root_set old s x kept)

-- the variables of an instruction, where its root was added, and then what is derived from it
pub variables_added : (old now new : List TypeVarContent) (n number seed x : ℕ) (shape : Shape) → seed ≡ seed_of n number
    → shape ≡ shape_of seed → x ≡ length old
    → now ≡ old ++ root_with (set_of_seed seed) (length old) ∷ [] → new ≡ now ++ derived_for shape (set_of_seed seed) x
    → new ≡ old ++ variables_of_number n number (length old)
variables_added old now new n number seed x shape is_seed is_shape at added more =
    let shaped : shape ≡ shape_of (seed_of n number) = is_shape ∙ ap shape_of is_seed in
    more
    ∙ (λ i. added i ++ derived_for (shaped i) (set_of_seed (is_seed i)) (at i))
    ∙ append_assoc old (root_with (set_of_seed seed) (length old) ∷ [])
    (derived_for (shape_of (seed_of n number)) (set_of_seed (seed_of n number)) (length old))
    ∙ (λ i. old ++ (root_with (set_of_seed (is_seed i)) (length old) ∷ derived_for (shape_of (seed_of n number))
    (set_of_seed (seed_of n number)) (length old)))
