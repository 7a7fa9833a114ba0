-- At most one control of an instruction.
use Rattle.std.proofs.Common.{◌≡◌, ◌⊎◌, Option, None, Some, slice_get, refl, sym, ap, ◌∙◌, inl, inr}
use Rattle.std.proofs.lemmas.Option.{same_Some}
use Rattle.meta_typevar.specs.Variable.{Variable, Sets}
use Rattle.meta_inst.specs.Instruction.{Instruction, IsDesignated, IsFirstOutput}
use Rattle.meta_inst.specs.Control.{IsControl, IsPolymorphic, HasOneEverywhere, MayControl, DesignatesNone, HasNoControl}

-- an instruction whose operands have one type each isn't polymorphic
not_both : (sets : Sets) (i : Instruction) → HasOneEverywhere sets i → IsPolymorphic sets i → ⊥
not_both sets i one p = p.several (one p.place p.variable p.operand)

-- one variable is designated
one_designated : (i : Instruction) (v w : Variable) → IsDesignated i v → IsDesignated i w → v ≡ w
one_designated i v w a b =
    same_Some v w (sym a.is_value ∙ (ap (slice_get i.values) (same_Some a.place b.place (sym a.designates ∙ b.designates)) ∙ b.is_value))

-- two controls, by what chose them
one_chosen : (sets : Sets) (i : Instruction) (v w : Variable) → MayControl sets i v → MayControl sets i w
    → IsDesignated i v ⊎ (DesignatesNone sets i × IsFirstOutput i v) → IsDesignated i w ⊎ (DesignatesNone sets i × IsFirstOutput i w)
    → v ≡ w
one_chosen sets i v w may_v may_w (inl d) (inl e) = one_designated i v w d e
one_chosen sets i v w may_v may_w (inl d) (inr (nothing, f)) = absurd (nothing v d may_v)
one_chosen sets i v w may_v may_w (inr (nothing, f)) (inl e) = absurd (nothing w e may_w)
one_chosen sets i v w may_v may_w (inr (_, f)) (inr (_, g)) = same_Some v w (sym f.first ∙ g.first)

-- An instruction has at most one control.
pub same_control : (sets : Sets) (i : Instruction) (a b : Option Variable) → IsControl sets i a → IsControl sets i b → a ≡ b
same_control sets i None None h k = refl
same_control sets i None (Some w) h k = absurd (not_both sets i h k.polymorphic)
same_control sets i (Some v) None h k = absurd (not_both sets i k h.polymorphic)
same_control sets i (Some v) (Some w) h k = ap Some (one_chosen sets i v w h.may k.may h.chosen k.chosen)

-- what chose a control isn't missing
chosen_not_missing : (sets : Sets) (i : Instruction) (v : Variable) → MayControl sets i v → HasNoControl sets i
    → IsDesignated i v ⊎ (DesignatesNone sets i × IsFirstOutput i v) → ⊥
chosen_not_missing sets i v may missing (inl d) = missing.designated v d may
chosen_not_missing sets i v may missing (inr (_, f)) = missing.first v f may

-- The control of an instruction isn't missing.
pub control_not_missing : (sets : Sets) (i : Instruction) (a : Option Variable) → IsControl sets i a → HasNoControl sets i → ⊥
control_not_missing sets i None h missing = not_both sets i h missing.polymorphic
control_not_missing sets i (Some v) h missing = chosen_not_missing sets i v h.may missing h.chosen
