-- If no case holds, nothing is wrong with the words.
use Rattle.std.proofs.Common.{◌≡◌, ◌∙◌, ◌↔◌, inl, inr, ℕ, Bool, true, false, IsTrue, List, ◌∷◌, sym, ap, ap₂, subst}
use Rattle.std.specs.Bool.{then_some}
use Rattle.std.specs.Prelude.{codes, Option, None, Some, IfSome, IfNone}
use Rattle.meta_table_text.specs.declared.version.Version.{Version}
use Rattle.meta_program.specs.TablesIn.{version_word}
use Rattle.meta_program.specs.declared.plan.Over.{Over}
use Rattle.meta_program.specs.Wrong.{CheckMore, CheckRustMore, CheckEndMore, CheckRustEndMore, VersionMore, IsFileMissing}
use Rattle.meta_program.specs.Wrong.{IsTooManyOfShared, IsTooMany, WhyMore, NameNoVersion, BeginWithAsm, IsWrong, IsWrongIfAny}
use Rattle.meta_program.specs.Over.{asked_of}
use Rattle.meta_program.specs.declared.wrong.Wrong.{Wrong}
use Rattle.meta_program.specs.declared.wrong.Wrong.TheVariants.{FileMissing, WordTooMany, NoVersion, NoForm}
use Rattle.meta_program.proofs.Words.{first, second}

pub not_wrong : (over : Over) → (IsFileMissing over → ⊥) → ((place : ℕ) → IsTooMany over place → ⊥) → (WhyMore (asked_of over) → ⊥)
    → (NameNoVersion (asked_of over) → ⊥) → (BeginWithAsm (asked_of over) → ⊥) → (wrong : Wrong) → IsWrong over wrong → ⊥
not_wrong over no_file no_word no_why no_version no_asm FileMissing h = no_file h
not_wrong over no_file no_word no_why no_version no_asm (WordTooMany place) (inl h) = no_word place h
not_wrong over no_file no_word no_why no_version no_asm (WordTooMany place) (inr h) = no_why h.1
not_wrong over no_file no_word no_why no_version no_asm NoVersion h = no_version h
not_wrong over no_file no_word no_why no_version no_asm NoForm h = no_asm h

-- what is found is wrong, or nothing is
pub wrong_if_any : (over : Over) (wrong : Option Wrong) → IfSome wrong (IsWrong over) → IfNone wrong ((w : Wrong) → IsWrong over w → ⊥)
    → IsWrongIfAny over wrong
wrong_if_any over None some none = none
wrong_if_any over (Some w) some none = some

pub not_asm : (over : Over) (wrong : Option Wrong) (words : List (List ℕ)) → wrong ≡ None → IsWrongIfAny over wrong
    → words ≡ asked_of over → BeginWithAsm words → ⊥
not_asm over wrong words is h e begin = (subst (IsWrongIfAny over) is h) NoForm (subst BeginWithAsm e begin)

pub no_truth : false ≡ true → ⊥
no_truth e = absurd (cc)

-- the test for the two words of a version decides whether the words name a version that doesn't exist
pub is_no_version : (words : List (List ℕ)) (name option version : List ℕ) (after : List (List ℕ)) (test : Bool)
    → words ≡ name ∷ (option ∷ (version ∷ after))
    → (IsTrue test ↔ ((name ≡ codes "tables") × (option ≡ codes "--version")))
    → ((v : Version) → version ≡ version_word v → ⊥) → (IsTrue test ↔ NameNoVersion words)
is_no_version words name option version after test e h none = (
  λ t.
      let both = h.0 t in
      record {
        begin = record {
          version = version;
          after = after;
          are = e ∙ ap₂ (λ (n o : List ℕ). n ∷ (o ∷ (version ∷ after))) both.0 both.1;
        };
        none = none;
      },
  λ n. h.1 (ap first (sym e ∙ n.begin.are), ap second (sym e ∙ n.begin.are)),
)

-- if none of the cases holds, no word is too many over the shared declarations
pub none_too_many : (words : List (List ℕ)) (test : Bool) (place : Option ℕ) → place ≡ then_some test 4
    → (IsTrue test ↔ CheckRustEndMore words) → (CheckMore words → ⊥) → (CheckRustMore words → ⊥) → (CheckEndMore words → ⊥)
    → (VersionMore words → ⊥) → IfNone place ((k : ℕ) → IsTooManyOfShared words k → ⊥)
none_too_many words true place e h no_more no_rust no_end no_version =
    subst (λ (o : Option ℕ). IfNone o ((k : ℕ) → IsTooManyOfShared words k → ⊥)) (sym e) tt
none_too_many words false place e h no_more no_rust no_end no_version =
    subst (λ (o : Option ℕ). IfNone o ((k : ℕ) → IsTooManyOfShared words k → ⊥)) (sym e) by
  where
    by : (k : ℕ) → IsTooManyOfShared words k → ⊥
    by k (inl g) = no_more g.1
    by k (inr (inl (is, inl g))) = no_rust g
    by k (inr (inl (is, inr (inl g)))) = no_end g
    by k (inr (inl (is, inr (inr g)))) = no_version g
    by k (inr (inr g)) = no_truth (h.1 g.1)
