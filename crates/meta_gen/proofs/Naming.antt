-- The opcode that has a name, and the instruction that has it.
use Rattle.std.proofs.Common.{◌≡◌, ◌≢◌, ℕ, zero, suc, List, Option, None, Some, IfSome, IfNone, slice_get, sym, ap, ◌∙◌, subst, add-one}
use Rattle.std.proofs.Common.{arith}
use Rattle.std.proofs.lemmas.Option.{same_Some}
use Rattle.meta_lists.proofs.Mapped.{get_map, get_mapped}
use Rattle.meta_lists.specs.First.{IsFirst}
use Rattle.meta_inst.specs.Builder.{Builder}
use Rattle.meta_inst.specs.InstructionSet.{InstructionSet}
use Rattle.meta_inst.specs.Faults.{IsAt}
use Rattle.meta_inst.specs.Tables.{TableContents, at_opcode}
use Rattle.meta_gen.specs.TablesOf.{AreTablesOf}
use Rattle.meta_gen.specs.Contents.{IsOpcodeNamed}
use Rattle.meta_gen.specs.Found.{IsDeclaredNamed, FindsName}

-- a declared instruction's name is that of its opcode
declared_name : (d : InstructionSet) (tables : TableContents) (k : ℕ) (b : Builder) → AreTablesOf d tables
    → IsAt d k b → slice_get tables.names k ≡ Some b.name
declared_name d tables k b h at =
    ap (λ names. slice_get names k) h.names ∙ get_map (λ (x : Builder). x.name) d.instructions k b at

-- a look-up finds each opcode that has the name
abbrev pub FindsNamed : List (List ℕ) → List ℕ → Option ℕ → Type 0
FindsNamed names name found = (op : ℕ) → at_opcode names op ≡ Some name → found ≡ Some op

-- what is found is the first that has the name
pub first_named : (names : List (List ℕ)) (name : List ℕ) (found : Option ℕ)
    → IfSome found (λ op. at_opcode names op ≡ Some name) → FindsNamed names name found → IfSome found (IsFirst (IsOpcodeNamed names name))
first_named names name None named finds = tt
first_named names name (Some op) named finds = record {
  holds = named;
  none_before = λ k below at. let e : op ≡ k = same_Some op k (finds k at) in omega arith;
}

-- where nothing is found, no opcode has the name
pub none_named : (names : List (List ℕ)) (name : List ℕ) (found : Option ℕ) → FindsNamed names name found
    → IfNone found ((k : ℕ) → at_opcode names k ≢ Some name)
none_named names name None finds = λ k at. let e : None ≡ Some k = finds k at in cc
none_named names name (Some op) finds = tt

-- the declared instruction that has the name of an opcode
first_declared : (d : InstructionSet) (tables : TableContents) (name : List ℕ) (op : ℕ) → AreTablesOf d tables
    → at_opcode tables.names op ≡ Some name → FindsNamed tables.names name (Some op) → IsFirst (IsDeclaredNamed d name) op
first_declared d tables name zero tables_of at finds = absurd (cc)
first_declared d tables name (suc place) tables_of at finds =
    let (b, b_at, named) = get_mapped (λ (x : Builder). x.name) d.instructions place name
    (subst (λ names. slice_get names place ≡ Some name) tables_of.names at) in
    record {
      holds = record { place = place; builder = b; at = b_at; number = sym (add-one place); named = named };
      none_before = λ other lt h.
          let e : suc place ≡ suc h.place = same_Some (suc place) (suc h.place)
          (finds (suc h.place) (declared_name d tables h.place h.builder tables_of h.at ∙ ap Some h.named)) in
          omega (arith, h.number, lt, e);
    }

-- what is found is the number of the first instruction that has the name
pub finds_declared : (d : InstructionSet) (tables : TableContents) (name : List ℕ) (found : Option ℕ)
    → IfSome found (λ op. at_opcode tables.names op ≡ Some name) → FindsNamed tables.names name found
    → AreTablesOf d tables → FindsName d name found
finds_declared d tables name None named finds h = λ k b at same. let e : None ≡ Some (suc k) =
    finds (suc k) (declared_name d tables k b h at ∙ ap Some same) in cc
finds_declared d tables name (Some op) named finds h = first_declared d tables name op h named finds
