-- Declarations need one list of masks, at whose places the sets of types differ.
use Rattle.std.proofs.Common.{◌≡◌, ℕ, List, slice_get, Some, sym, ap, ◌∙◌, subst, arith}
use Rattle.std.proofs.lemmas.Option.{same_Some}
use Rattle.meta_lists.proofs.Places.{get_there, get_beside, same_places}
use Rattle.meta_typevar.specs.TypeSetParts.{TypeSetParts, IsTypeSet}
use Rattle.meta_typevar.specs.Masks.{AreMasksOf}
use Rattle.meta_typevar.specs.Registry.{HoldTypeSets}
use Rattle.meta_typevar.specs.declared.masks.Masks.{Masks}
use Rattle.meta_inst.specs.InstructionSet.{InstructionSet}
use Rattle.meta_build.specs.Needed.{StandForSets, AreNeededMasks}
use Rattle.meta_gen.proofs.ValidSets.{needed_set, set_back}
use Rattle.meta_build.proofs.OneBuilt.{one_sets}

-- ---- one list of masks

-- a set has one value of masks
one_masks : (s : TypeSetParts) (m n : Masks) → AreMasksOf s m → AreMasksOf s n → m ≡ n
one_masks s m n a b =
    let lanes : m.lanes ≡ n.lanes = a.lanes ∙ sym b.lanes in
    let dynamic_lanes : m.dynamic_lanes ≡ n.dynamic_lanes = a.dynamic_lanes ∙ sym b.dynamic_lanes in
    let ints : m.ints ≡ n.ints = a.ints ∙ sym b.ints in
    let floats : m.floats ≡ n.floats = a.floats ∙ sym b.floats in
    λ i. record { lanes = lanes i; dynamic_lanes = dynamic_lanes i; ints = ints i; floats = floats i }

one_standing : (sets : List TypeSetParts) (ms ns : List Masks) → StandForSets ms sets → StandForSets ns sets → ms ≡ ns
one_standing sets ms ns a b =
    let count = a.count in
    let long = b.count in
    same_places ms ns (omega arith) (λ k l.
    let (s, at) = get_there sets k (omega (arith, l)) in
    let (m, m_at, is_m) = a.each k s at in
    let (n, n_at, is_n) = b.each k s at in
    m_at ∙ ap Some (one_masks s m n is_m is_n) ∙ sym n_at)

pub one_needed : (d : InstructionSet) (ms ns : List Masks) → AreNeededMasks d ms → AreNeededMasks d ns → ms ≡ ns
one_needed d ms ns a b =
    one_standing b.sets ms ns (subst (StandForSets ms) (one_sets d a.sets b.sets a.are_needed b.are_needed) a.stand) b.stand

-- ---- at two places stand masks of two sets

-- the masks of a set of types stand at one place
pub one_masked_place : (d : InstructionSet) (masks : List Masks) → HoldTypeSets d.vars → AreNeededMasks d masks
    → (j k : ℕ) (s : TypeSetParts) (m n : Masks) → IsTypeSet s
    → slice_get masks j ≡ Some m → AreMasksOf s m → slice_get masks k ≡ Some n → AreMasksOf s n → j ≡ k
one_masked_place d masks typed needed j k s m n is m_at are_m n_at are_n =
    let sets = needed.are_needed.are_needed in
    sets.once j k s (stands j m m_at are_m) (stands k n n_at are_n)
  where
    -- the set itself stands there
    stands : (j : ℕ) (m : Masks) → slice_get masks j ≡ Some m → AreMasksOf s m → slice_get needed.sets j ≡ Some s
    stands j m at are =
        let (t, t_at) = get_beside masks needed.sets j m needed.stand.count at in
        let (o, o_at, are_o) = needed.stand.each j t t_at in
        let own : AreMasksOf t m = subst (AreMasksOf t) (same_Some o m (sym o_at ∙ at)) are_o in
        t_at ∙ ap Some (sym (set_back t m (needed_set d typed t (needed.are_needed.are_needed.needed j t t_at)) own) ∙ set_back s m is are)
