-- What a call that infers the types of results answers, and what it writes.
--     InfersResults tables op c e old answer new      of the controlling types with the numbers c and e; new has taken the place of old
use Rattle.std.specs.Prelude.{◌≡◌, ◌≢◌, ◌≤◌, ℕ, List, Option, Some, IfSome, IfNone, take, drop, slice_get}
use Rattle.meta_typevar.specs.Registry.{HoldTypeSets}
use Rattle.meta_inst.specs.InstructionSet.{InstructionSet}
use Rattle.meta_inst.specs.Tables.{TableContents, Allows}
use Rattle.meta_inst.specs.Inference.{GivesResults}
use Rattle.meta_gen.specs.TablesOf.{AreTablesOf}
use Rattle.meta_gen.specs.Inferred.{InfersOpcode}

-- Where the answer is a count, at most seven, that many numbers stand at the front of new, and are what the tables give; the rest stays.
-- Where there is none, the tables give nothing, and nothing is written. Of declarations whose tables these are, the same is inferred. The
-- tables allow no types where there is no answer, and else only results that have these numbers; 0 leaves a result open.
pub record InfersResults (tables : TableContents) (op : ℕ) (c e : Option ℕ) (old : List ℕ) (answer : Option ℕ)
    (new : List ℕ) : Type 0 where
  pub given : IfSome answer (λ count. GivesResults tables op c e (take count new))
  pub few : IfSome answer (λ count. count ≤ 7)
  pub rest : IfSome answer (λ count. drop count new ≡ drop count old)
  pub none : IfNone answer ((numbers : List ℕ) → GivesResults tables op c e numbers → ⊥)
  pub unchanged : IfNone answer (new ≡ old)
  pub meaning : (d : InstructionSet) → HoldTypeSets d.vars → AreTablesOf d tables
      → IfSome answer (λ count. InfersOpcode d op c e (take count new))
  pub refused : (d : InstructionSet) → HoldTypeSets d.vars → AreTablesOf d tables
      → IfNone answer ((numbers : List ℕ) → InfersOpcode d op c e numbers → ⊥)
  pub accepted : IfSome answer (λ count. (rs vs : List ℕ) → Allows tables op c e rs vs
      → (k m n : ℕ) → slice_get (take count new) k ≡ Some n → n ≢ 0 → slice_get rs k ≡ Some m → m ≡ n)
  pub unaccepted : IfNone answer ((rs vs : List ℕ) → Allows tables op c e rs vs → ⊥)
