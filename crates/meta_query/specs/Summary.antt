-- What the summary of tables says.
--     CountsTo P n count              this many of the numbers 1 to n have the property P
--     IsFoundByName t op              the opcode is found by its name
--     AcceptsEverywhere n allows      n is accepted as control, if there is one, and as every result and value
--     IsSummary n t line              the line says what the tables hold
--     IsSummaryOf n d t line          the line says what the tables of the declarations of n hold
use Rattle.std.specs.Prelude.{◌≡◌, ◌+◌, ◌⊎◌, ℕ, zero, suc, List, ◌++◌, All, Option, None, Some, length, codes}
use Rattle.std.specs.Fmt.{decimal}
use Rattle.meta_lists.specs.First.{IsFirst}
use Rattle.meta_types.specs.TypeParts.{IntKind, scalar, number_of}
use Rattle.meta_inst.specs.InstructionSet.{InstructionSet}
use Rattle.meta_inst.specs.Tables.{TableContents, at_opcode, Allows}
use Rattle.meta_gen.specs.Contents.{IsOpcodeNamed}
use Rattle.meta_gen.specs.TablesOf.{AcceptsOpcode}

-- this many of the numbers 1 to n have the property
abbrev pub CountsTo : (ℕ → Type 0) → ℕ → ℕ → Type 0
CountsTo P zero count = count ≡ 0
CountsTo P (suc n) count = (P (suc n) × ((before : ℕ) × (count ≡ before + 1) × CountsTo P n before))
    ⊎ ((P (suc n) → ⊥) × CountsTo P n count)

-- the opcode has a name, and is the first that has it
pub record IsFoundByName (t : TableContents) (op : ℕ) : Type 0 where
  pub name : List ℕ
  pub named : at_opcode t.names op ≡ Some name
  pub first : IsFirst (IsOpcodeNamed t.names name) op

-- where `allows` says which control, results and values are accepted: some are accepted that are all n, where there may be no
-- control
pub record AcceptsEverywhere (n : ℕ) (allows : Option ℕ → List ℕ → List ℕ → Type 0) : Type 0 where
  pub control : Option ℕ
  pub is_control : (c : ℕ) → control ≡ Some c → c ≡ n
  pub results : List ℕ
  pub are_results : All (λ m. m ≡ n) results
  pub values : List ℕ
  pub are_values : All (λ m. m ≡ n) values
  pub allowed : allows control results values

-- The tables accept the type with the number n everywhere for the opcode. An opcode with a second control isn't counted.
abbrev pub TakesEverywhere : TableContents → ℕ → ℕ → Type 0
TakesEverywhere t n op = AcceptsEverywhere n (λ c rs vs. Allows t op c None rs vs)

-- the number of the type `i64`
abbrev pub i64_number : ℕ
i64_number = number_of (scalar IntKind 64)

-- the lengths of the tables, as they are written
unfoldable pub lengths_text : ℕ → ℕ → ℕ → ℕ → List ℕ
lengths_text opcodes type_sets constraints slots =
    decimal opcodes ++ (codes " opcodes, " ++ (decimal type_sets ++ (codes " type sets, "
    ++ (decimal constraints ++ (codes " constraints, " ++ (decimal slots ++ codes " slots"))))))

-- the line, by the number of the declarations, the lengths as they are written, how many opcodes are found, and how many accept `i64`
unfoldable pub summary_line : ℕ → List ℕ → ℕ → ℕ → List ℕ
summary_line n lengths found accepted =
    codes "synth " ++ (decimal n
    ++ (codes ": " ++ (lengths ++ (codes ", " ++ (decimal found ++ (codes " found, " ++ (decimal accepted ++ codes " accepted")))))))

-- how many entries, type sets, operand constraints and slots the tables have, as it is written
abbrev pub lengths_of : TableContents → List ℕ
lengths_of t = lengths_text (length t.entries) (length t.type_sets) (length t.operand_constraints) (length t.opcode_slots)

-- the line says how many entries, type sets, operand constraints and slots the tables have, how many opcodes are found by their
-- names, and how many take `i64` everywhere
pub record IsSummary (n : ℕ) (t : TableContents) (line : List ℕ) : Type 0 where
  pub found : ℕ
  pub are_found : CountsTo (IsFoundByName t) (length t.entries) found
  pub accepted : ℕ
  pub are_accepted : CountsTo (TakesEverywhere t i64_number) (length t.entries) accepted
  pub is : line ≡ summary_line n (lengths_of t) found accepted

-- the declarations accept the type with the number n everywhere for the opcode
abbrev pub DeclaresEverywhere : InstructionSet → ℕ → ℕ → Type 0
DeclaresEverywhere d n op = AcceptsEverywhere n (λ c rs vs. AcceptsOpcode d op c None rs vs)

-- the line says that there are 255 opcodes, each of which is found by its name, how many type sets, operand constraints and slots
-- the tables have, and how many of the declared instructions accept `i64` everywhere
pub record IsSummaryOf (n : ℕ) (d : InstructionSet) (t : TableContents) (line : List ℕ) : Type 0 where
  pub accepted : ℕ
  pub are_accepted : CountsTo (DeclaresEverywhere d i64_number) 255 accepted
  pub is : line ≡ summary_line n (lengths_text 255 (length t.type_sets) (length t.operand_constraints) (length t.opcode_slots)) 255 accepted
