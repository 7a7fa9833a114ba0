-- What is told where types aren't accepted: types alone, and in one way.
use Rattle.std.proofs.Common.{◌≡◌, ◌+◌, ℕ, List, ◌++◌, Option, Some, None, codes, refl, sym, ◌∙◌, ap, subst}
use Rattle.std.proofs.lemmas.Option.{same_Some}
use Rattle.meta_types.specs.TypeNumber.{IsTypeNumber}
use Rattle.meta_inst.specs.Which.{Which}
use Rattle.meta_inst.specs.Tables.{TableContents, OpcodeNumbers, ControlNumberFits, PassesAt, result_count, value_count}
use Rattle.meta_gen.specs.WellFormedOpcodes.{IsWellFormedOpcodes}
use Rattle.meta_explain.specs.Listed.{AreListed, IsLess}
use Rattle.meta_explain.specs.Parts.{numbers_of, FailsFirst}
use Rattle.meta_explain.specs.Wanted.{AreOfControl, IsControlWanted, IsOperandWanted, IsWanted, IsExplained}
use Rattle.meta_explain.specs.Options.{AreTypes, TellsTypes}
use Rattle.meta_explain.specs.Texts.{set_text, wanted_text, wants_text}
use Rattle.meta_explain.specs.declared.control_types.ControlTypes.{ControlTypes}
use Rattle.meta_explain.specs.declared.part.Part.{Part}
use Rattle.meta_explain.specs.declared.part.Part.TheVariants.{Control, Second, ResultCount, ValueCount, Operand}
use Rattle.meta_explain.specs.declared.explained.Wanted.{Wanted}
use Rattle.meta_explain.specs.declared.explained.Wanted.TheVariants.{Nothing, Types, Count}
use Rattle.meta_explain.specs.declared.explained.Explained.{Explained}
use Rattle.meta_explain.specs.declared.explained.Explained.TheVariants.{Accept, Refuse}
use Rattle.meta_explain.proofs.Listing.{listed_all, one_listed, rising_apart}
use Rattle.meta_explain.proofs.Typed.{control_typed}
use Rattle.meta_explain.proofs.Failing.{operand_type, one_fails_first}

-- ---- types alone

control_types : (tables : TableContents) (offset : ℕ) (w : Wanted) → IsControlWanted tables offset w → AreTypes w
control_types tables offset Nothing is = tt
control_types tables offset (Types ns) is = listed_all IsLess (λ n. ControlNumberFits tables offset (Some n)) IsTypeNumber ns.items
    (λ n fits. control_typed tables offset (Some n) n fits refl) is.1
control_types tables offset (Count n) is = tt

count_types : (w : Wanted) (n : ℕ) → w ≡ Count n → AreTypes w
count_types w n is = subst AreTypes (sym is) tt

wanted_types : (tables : TableContents) (op : ℕ) (c : ControlTypes) (rs vs : List ℕ) (p : Part) (w : Wanted)
    → IsWellFormedOpcodes tables → (f : FailsFirst tables op c rs vs p) → IsWanted tables f.entry c p w → AreTypes w
wanted_types tables op c rs vs Control w well f is = control_types tables f.entry.typeset_offset w is
wanted_types tables op c rs vs Second w well f is = control_types tables f.entry.second_offset w is
wanted_types tables op c rs vs ResultCount w well f is = count_types w (result_count f.entry.flags) is
wanted_types tables op c rs vs ValueCount w well f is = count_types w (value_count f.entry.flags) is
wanted_types tables op c rs vs (Operand k) Nothing well f is = absurd is
wanted_types tables op c rs vs (Operand k) (Types ns) well f is =
    listed_all IsLess (PassesAt tables (numbers_of c) (f.entry.constraint_offset + k)) IsTypeNumber ns.items
    (λ n p. operand_type tables op c rs vs k n well f p) is
wanted_types tables op c rs vs (Operand k) (Count n) well f is = absurd is

pub told_types : (tables : TableContents) (op : ℕ) (c : ControlTypes) (rs vs : List ℕ) (x : Explained) → IsWellFormedOpcodes tables
    → IsExplained tables op c rs vs x → TellsTypes x
told_types tables op c rs vs Accept well is = tt
told_types tables op c rs vs (Refuse p w) well (f, is) = wanted_types tables op c rs vs p w well f is

-- ---- in one way

control_one : (tables : TableContents) (offset : ℕ) (w u : Wanted) → IsControlWanted tables offset w → IsControlWanted tables offset u
    → wanted_text w ≡ wanted_text u
control_one tables offset Nothing Nothing h g = refl
control_one tables offset Nothing (Types ms) h g = absurd (g.0 ((h None).1 refl))
control_one tables offset Nothing (Count n) h g = absurd g
control_one tables offset (Types ns) Nothing h g = absurd (h.0 ((g None).1 refl))
control_one tables offset (Types ns) (Types ms) h g = ap set_text
    (one_listed IsLess rising_apart (λ n. ControlNumberFits tables offset (Some n)) ns.items ms.items h.1 g.1)
control_one tables offset (Types ns) (Count n) h g = absurd g
control_one tables offset (Count n) u h g = absurd h

count_one : (w u : Wanted) (n : ℕ) → w ≡ Count n → u ≡ Count n → wanted_text w ≡ wanted_text u
count_one w u n h g = ap wanted_text (h ∙ sym g)

operand_one : (tables : TableContents) (c : Which → Option ℕ) (place : ℕ) (w u : Wanted) → IsOperandWanted tables c place w
    → IsOperandWanted tables c place u → wanted_text w ≡ wanted_text u
operand_one tables c place Nothing u h g = absurd h
operand_one tables c place (Types ns) Nothing h g = absurd g
operand_one tables c place (Types ns) (Types ms) h g =
    ap set_text (one_listed IsLess rising_apart (PassesAt tables c place) ns.items ms.items h g)
operand_one tables c place (Types ns) (Count n) h g = absurd g
operand_one tables c place (Count n) u h g = absurd h

wanted_one : (tables : TableContents) (e : OpcodeNumbers) (c : ControlTypes) (p : Part) (w u : Wanted) → IsWanted tables e c p w
    → IsWanted tables e c p u → wanted_text w ≡ wanted_text u
wanted_one tables e c Control w u h g = control_one tables e.typeset_offset w u h g
wanted_one tables e c Second w u h g = control_one tables e.second_offset w u h g
wanted_one tables e c ResultCount w u h g = count_one w u (result_count e.flags) h g
wanted_one tables e c ValueCount w u h g = count_one w u (value_count e.flags) h g
wanted_one tables e c (Operand k) w u h g = operand_one tables (numbers_of c) (e.constraint_offset + k) w u h g

pub one_told : (tables : TableContents) (op : ℕ) (c : ControlTypes) (rs vs : List ℕ) (p q : Part) (w u : Wanted)
    → IsExplained tables op c rs vs (Refuse p w) → IsExplained tables op c rs vs (Refuse q u) → (p ≡ q) × (wants_text w ≡ wants_text u)
one_told tables op c rs vs p q w u (f, h) (g, k) =
    let same : p ≡ q = one_fails_first tables op c rs vs p q f g in
    let entry : g.entry ≡ f.entry = same_Some g.entry f.entry (sym g.is_opcode ∙ f.is_opcode) in
    let here : IsWanted tables f.entry c p u =
    subst (λ e. IsWanted tables e c p u) entry (subst (λ part. IsWanted tables g.entry c part u) (sym same) k) in
    (same, ap (λ text. codes "wants " ++ text) (wanted_one tables f.entry c p w u h here))
