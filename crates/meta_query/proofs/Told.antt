-- The answer to a text that reads as tables.
use Rattle.std.proofs.Common.{◌≡◌, ◌↔◌, ℕ, Bool, true, false, List, IsTrue, inl, inr, refl, subst}
use Rattle.meta_gen.specs.WholeTables.{WholeTables}
use Rattle.meta_table_reader.specs.Readable.{Reads}
use Rattle.meta_query.specs.Recheck.{sameness_line, IsTold, IsAnswerBy}

pub no_truth : false ≡ true → ⊥
no_truth e = absurd (cc)

-- the answer says whether the tables that were read are these, and gives their answers
pub told_by : (tables read : WholeTables) (text queries out : List ℕ) (same : Bool) → (IsTrue same ↔ (read ≡ tables)) → Reads text read
    → IsTold (sameness_line same) read queries out → IsAnswerBy tables text queries out
told_by tables read text queries out true decides reads told =
    inl (subst (Reads text) (decides.0 refl) reads, subst (λ t. IsTold (sameness_line true) t queries out) (decides.0 refl) told)
told_by tables read text queries out false decides reads told =
    inr (inl (record { read = read; reads = reads; others = λ e. no_truth (decides.1 e); told = told }))
