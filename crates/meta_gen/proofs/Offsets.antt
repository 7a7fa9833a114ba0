-- The offset of the type set of a control.
use Rattle.std.proofs.Common.{◌≡◌, ◌<◌, ℕ, List, slice_get, Option, None, Some, refl, sym, ap, subst}
use Rattle.std.specs.Prelude.{option_map}
use Rattle.meta_typevar.specs.TypeSetParts.{TypeSetParts}
use Rattle.meta_typevar.specs.Variable.{Variable}
use Rattle.meta_typevar.specs.Registry.{sets_of, variable_at}
use Rattle.meta_typevar.specs.declared.content.TypeVarContent.{TypeVarContent}
use Rattle.meta_inst.specs.Which.{Which, First, Second}
use Rattle.meta_inst.specs.Controls.{controls_at}
use Rattle.meta_inst.proofs.ControlLemmas.{control_is}
use Rattle.meta_inst.specs.Tables.{TableContents, IsTypeSetOffset, no_type_set}
use Rattle.meta_gen.specs.Entries.{HasTypeSets}

-- that of a control is the place of its set
pub offset_of : (vars : List TypeVarContent) (controls : Which → Option ℕ) (type_sets : List TypeSetParts) (a : Which)
    (v place : ℕ) → controls a ≡ Some v → place < no_type_set → slice_get type_sets place ≡ Some (sets_of vars (variable_at vars v).root)
    → (tables : TableContents) → HasTypeSets tables type_sets → IsTypeSetOffset (sets_of vars) (controls_at vars controls a) tables place
offset_of vars controls type_sets a v place is below set tables has =
    let (m, there, are) = has.each place (sets_of vars (variable_at vars v).root) set in
    subst (λ (o : Option Variable). IsTypeSetOffset (sets_of vars) o tables place)
    (sym (control_is vars controls a v is)) (below, record { masks = m; is_set = there; are_masks = are })

-- and says so if there is no such control
none_at : (vars : List TypeVarContent) (controls : Which → Option ℕ) (a : Which) → controls a ≡ None → controls_at vars controls a ≡ None
none_at vars controls First e = ap (option_map (variable_at vars)) e
none_at vars controls Second e = ap (option_map (variable_at vars)) e

pub no_offset : (vars : List TypeVarContent) (controls : Which → Option ℕ) (a : Which) → controls a ≡ None
    → (tables : TableContents) → IsTypeSetOffset (sets_of vars) (controls_at vars controls a) tables no_type_set
no_offset vars controls a e tables =
    subst (λ (o : Option Variable). IsTypeSetOffset (sets_of vars) o tables no_type_set) (sym (none_at vars controls a e)) refl
