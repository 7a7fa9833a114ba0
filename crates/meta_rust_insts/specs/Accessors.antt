-- The methods of `Opcode` for the marks of instructions.
--     has_mark mark m             whether the mark is one of these
--     accessor_text mark cs       the method that says which of the instructions have the mark
use Rattle.std.specs.Prelude.{ℕ, Bool, List, [], ◌∷◌, ◌++◌, if◌then◌else◌, codes}
use Rattle.std.specs.List.{flat_map}
use Rattle.meta_text.specs.Lines.{at, empty_line, lines_onto, text_of}
use Rattle.meta_inst.specs.declared.marks.Marks.{Marks}
use Rattle.meta_inst.specs.Built.{BuiltInstruction}
use Rattle.meta_rust_insts.specs.declared.accessors.Mark.{Mark}
use Rattle.meta_rust_insts.specs.declared.accessors.Mark.TheVariants.{IsTerminator, IsBranch, IsCall, IsReturn, CanLoad}
use Rattle.meta_rust_insts.specs.declared.accessors.Mark.TheVariants.{CanStore, CanTrap, OtherSideEffects}
use Rattle.meta_rust_insts.specs.declared.accessors.Mark.TheVariants.{SideEffectsIdempotent}

-- the marks that have a method, in order
abbrev pub told_marks : List Mark
told_marks = IsTerminator ∷ IsBranch ∷ IsCall ∷ IsReturn ∷ CanLoad ∷ CanStore ∷ CanTrap ∷ OtherSideEffects ∷ SideEffectsIdempotent ∷ []

-- whether the mark is one of these
abbrev pub has_mark : Mark → Marks → Bool
has_mark IsTerminator m = m.is_terminator
has_mark IsBranch m = m.is_branch
has_mark IsCall m = m.is_call
has_mark IsReturn m = m.is_return
has_mark CanLoad m = m.can_load
has_mark CanStore m = m.can_store
has_mark CanTrap m = m.can_trap
has_mark OtherSideEffects m = m.other_side_effects
has_mark SideEffectsIdempotent m = m.side_effects_idempotent

-- the name of the method
abbrev pub mark_name : Mark → List ℕ
mark_name IsTerminator = codes "is_terminator"
mark_name IsBranch = codes "is_branch"
mark_name IsCall = codes "is_call"
mark_name IsReturn = codes "is_return"
mark_name CanLoad = codes "can_load"
mark_name CanStore = codes "can_store"
mark_name CanTrap = codes "can_trap"
mark_name OtherSideEffects = codes "other_side_effects"
mark_name SideEffectsIdempotent = codes "side_effects_idempotent"

-- the documentation of the method
abbrev pub mark_doc : Mark → List ℕ
mark_doc IsTerminator = codes "True for instructions that terminate the block"
mark_doc IsBranch = codes "True for all branch or jump instructions."
mark_doc IsCall = codes "Is this a call instruction?"
mark_doc IsReturn = codes "Is this a return instruction?"
mark_doc CanLoad = codes "Can this instruction read from memory?"
mark_doc CanStore = codes "Can this instruction write to memory?"
mark_doc CanTrap = codes "Can this instruction cause a trap?"
mark_doc OtherSideEffects = codes "Does this instruction have other side effects besides can_* flags?"
mark_doc SideEffectsIdempotent = codes "Despite having side effects, is this instruction okay to GVN?"

-- the arm of an instruction, if it has the mark
unfoldable pub mark_arm : Mark → BuiltInstruction → List ℕ
mark_arm mark c = if has_mark mark c.marks then text_of (at 3 (codes "Self::" ∷ c.camel_name ∷ codes " => true," ∷ []) ∷ []) else []

-- the method that says which of the instructions have the mark
unfoldable pub accessor_text : Mark → List BuiltInstruction → List ℕ
accessor_text mark cs =
    lines_onto (
    at 1 (codes "/// " ∷ mark_doc mark ∷ [])
    ∷ at 1 (codes "pub fn " ∷ mark_name mark ∷ codes "(self) -> bool {" ∷ [])
    ∷ at 2 (codes "match self {" ∷ []) ∷ [])
    (flat_map (mark_arm mark) cs ++ text_of (
    at 3 (codes "_ => false," ∷ [])
    ∷ at 2 (codes "}" ∷ [])
    ∷ at 1 (codes "}" ∷ [])
    ∷ empty_line ∷ []))

-- the methods of all marks
unfoldable pub accessors_text : List BuiltInstruction → List ℕ
accessors_text cs = flat_map (λ mark. accessor_text mark cs) told_marks
