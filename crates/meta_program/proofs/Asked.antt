-- Words ask at most one thing of the program itself.
use Rattle.std.proofs.Common.{◌≡◌, ◌∙◌, ◌↔◌, ℕ, zero, suc, Bool, IsTrue, inl, inr, ⊎_elim, List, [], ◌∷◌, length, slice_get, Some}
use Rattle.std.proofs.Common.{refl, sym, ap, subst, arith}
use Rattle.std.proofs.lemmas.Option.{same_Some}
use Rattle.std.specs.Prelude.{codes}
use Rattle.meta_lists.proofs.First.{one_first}
use Rattle.meta_command_line.specs.Asked.{IsHelp, IsVersion, AsksAt, FirstAsks, AsksFor}
use Rattle.meta_command_line.specs.declared.asked.Asked.{Asked}
use Rattle.meta_command_line.specs.declared.asked.Asked.TheVariants.{Help, Version, Work}
use Rattle.meta_program.specs.Over.{AskOverFile, IsOver, asked_of}
use Rattle.meta_program.specs.TablesIn.{BeginWithVersion}
use Rattle.meta_program.specs.Plan.{AskForVersion, AskOfItself}
use Rattle.meta_program.specs.declared.plan.Over.{Over}
use Rattle.meta_program.specs.declared.plan.Over.TheVariants.{Shared, File}
use Rattle.meta_program.proofs.OneOver.{begin_so, one_file}
use Rattle.meta_program.proofs.Words.{letter, second_letter}

-- if words ask nothing of a file, they ask for a version of tables themselves
version_shared : (words asked : List (List ℕ)) (test : Bool) → asked ≡ words
    → ((path : List ℕ) (others : List (List ℕ)) → AskOverFile words path others → ⊥)
    → (IsTrue test ↔ BeginWithVersion asked) → (IsTrue test ↔ AskForVersion words)
version_shared words asked test same none h = (
  λ t. inl (subst BeginWithVersion same (h.0 t)),
  λ a. ⊎_elim (λ v. h.1 (subst BeginWithVersion (sym same) v)) (λ o. absurd (none o.0 o.1 o.2)) a,
)

-- words that ask something of a file don't begin with `tables`
no_version : (words : List (List ℕ)) (path : List ℕ) (asked : List (List ℕ)) → AskOverFile words path asked → BeginWithVersion words → ⊥
no_version words path asked h v =
    let tables : letter words ≡ 116 = ap letter v.are in
    ⊎_elim (λ dash. omega (arith, tables, dash)) (λ check. omega (arith, tables, check)) (begin_so words path asked h)

-- if they ask for a version, that is what they ask of the file
version_of_file : (words : List (List ℕ)) (path : List ℕ) (asked : List (List ℕ)) → AskOverFile words path asked → AskForVersion words
    → BeginWithVersion asked
version_of_file words path asked h (inl v) = absurd (no_version words path asked h v)
version_of_file words path asked h (inr o) = subst BeginWithVersion (sym (one_file words path o.0 asked o.1 h o.2).1) o.3

-- words ask for a version exactly if what they ask of a file, or of the shared declarations, does
pub version_over : (words : List (List ℕ)) (over : Over) (asked : List (List ℕ)) (test : Bool) → IsOver words over → asked ≡ asked_of over
    → (IsTrue test ↔ BeginWithVersion asked) → (IsTrue test ↔ AskForVersion words)
version_over words (Shared x) asked test h e t = version_shared words asked test (e ∙ h.0) h.1 t
version_over words (File path x) asked test h e t = (
  λ yes. inr (path.now, x.now, h, subst BeginWithVersion e (t.0 yes)),
  λ a. t.1 (subst BeginWithVersion (sym e) (version_of_file words path.now x.now h a)),
)

-- no word asks for both
not_both : (word : List ℕ) → IsHelp word → IsVersion word → ⊥
not_both word (inl h) (inl v) = let clash : 6 ≡ 9 = ap length (sym h ∙ v) in absurd (omega (arith, clash))
not_both word (inl h) (inr v) = let clash : 6 ≡ 2 = ap length (sym h ∙ v) in absurd (omega (arith, clash))
not_both word (inr h) (inl v) = let clash : 2 ≡ 9 = ap length (sym h ∙ v) in absurd (omega (arith, clash))
not_both word (inr h) (inr v) = let clash : 104 ≡ 86 = ap second_letter (sym h ∙ v) in absurd (omega (arith, clash))

first_both : (words : List (List ℕ)) → FirstAsks IsHelp words → FirstAsks IsVersion words → ⊥
first_both words h v =
    let place : h.0 ≡ v.0 = one_first (AsksAt words) h.0 v.0 h.1 v.1 in
    let word : h.2.0 ≡ v.2.0 = same_Some _ _ (sym h.2.1 ∙ subst (λ k. slice_get words k ≡ Some v.2.0) (sym place) v.2.1) in
    not_both v.2.0 (subst IsHelp word h.2.2) v.2.2

-- `help` is no word that asks for the version
help_alone : (words : List (List ℕ)) → words ≡ codes "help" ∷ [] → FirstAsks IsVersion words → ⊥
help_alone words alone v =
    by v.0 v.2.0 (subst (λ (ws : List (List ℕ)). slice_get ws v.0 ≡ Some v.2.0) alone v.2.1) v.2.2
  where
    by : (k : ℕ) (word : List ℕ) → slice_get (codes "help" ∷ []) k ≡ Some word → IsVersion word → ⊥
    by zero word at (inl e) = let clash : 4 ≡ 9 = ap length (same_Some _ _ at ∙ e) in absurd (omega (arith, clash))
    by zero word at (inr e) = let clash : 4 ≡ 2 = ap length (same_Some _ _ at ∙ e) in absurd (omega (arith, clash))
    by (suc k) word at e = absurd (cc)

one_asks_for : (words : List (List ℕ)) (a b : Asked) → AsksFor words a → AsksFor words b → a ≡ b
one_asks_for words Help Help h g = refl
one_asks_for words Help Version (inl h) g = absurd (help_alone words h g)
one_asks_for words Help Version (inr h) g = absurd (first_both words h g)
one_asks_for words Help Work (inl h) g = absurd (g.0 h)
one_asks_for words Help Work (inr h) g = absurd (g.1 h.0 (h.2.0, h.2.1, inl h.2.2))
one_asks_for words Version Help h (inl g) = absurd (help_alone words g h)
one_asks_for words Version Help h (inr g) = absurd (first_both words g h)
one_asks_for words Version Version h g = refl
one_asks_for words Version Work h g = absurd (g.1 h.0 (h.2.0, h.2.1, inr h.2.2))
one_asks_for words Work Help h (inl g) = absurd (h.0 g)
one_asks_for words Work Help h (inr g) = absurd (h.1 g.0 (g.2.0, g.2.1, inl g.2.2))
one_asks_for words Work Version h g = absurd (h.1 g.0 (g.2.0, g.2.1, inr g.2.2))
one_asks_for words Work Work h g = refl

pub one_asked : (words : List (List ℕ)) (a b : Asked) → AskOfItself words a → AskOfItself words b → a ≡ b
one_asked words a b (inl h) (inl g) = h.1 ∙ sym g.1
one_asked words a b (inl h) (inr g) = absurd (g.0 h.0)
one_asked words a b (inr h) (inl g) = absurd (h.0 g.0)
one_asked words a b (inr h) (inr g) = one_asks_for words a b h.1 g.1
