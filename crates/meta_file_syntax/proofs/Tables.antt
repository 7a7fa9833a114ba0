-- The word at a place of a table.
use Rattle.std.proofs.Common.{◌≡◌, ℕ, zero, suc, ◌<◌, List, [], ◌∷◌, length, map, get_or, Bor, refl, arith}
use Rattle.meta_file_syntax.specs.WordTables.{word_at}

pub placed : {A : Type 0} (table : List (A × Bor (List ℕ))) (i : ℕ) (d : A × Bor (List ℕ)) → i < length table
    → (get_or table i d).1.now ≡ word_at (map (λ row. (row.0, row.1.now)) table) i
placed [] i d lt = absurd (omega arith)
placed (row ∷ rows) zero d lt = refl
placed (row ∷ rows) (suc i) d lt = placed rows i d (omega arith)
