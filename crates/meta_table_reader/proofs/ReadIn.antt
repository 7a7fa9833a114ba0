-- What is answered where a text reads as tables, and where it doesn't.
use Rattle.std.proofs.Common.{◌≡◌, ℕ, List, ◌++◌, Option, None, Some, IfSome, IfNone, sym, ◌∙◌, subst}
use Rattle.meta_gen.specs.WholeTables.{WholeTables}
use Rattle.meta_table_text.specs.declared.version.Version.{Version}
use Rattle.meta_table_text.specs.TableText.{version_line}
use Rattle.meta_table_reader.specs.Readable.{IsReadIn, Reads}
use Rattle.meta_table_reader.proofs.TablesTold.{version_opened}

-- tables that a text reads as in a version
pub some_reads : (v : Version) (text : List ℕ) (o : Option WholeTables) → IfSome o (IsReadIn v text) → IfSome o (Reads text)
some_reads v text None is = tt
some_reads v text (Some t) is = record { version = v; in_version = is }

-- a text that reads as tables in no other version than the one that was found
pub none_reads : (v : Version) (text : List ℕ) (o : Option WholeTables)
    → ((w : Version) (rest : List ℕ) → text ≡ version_line w ++ rest → v ≡ w) → IfNone o ((t : WholeTables) → IsReadIn v text t → ⊥)
    → IfNone o ((t : WholeTables) → Reads text t → ⊥)
none_reads v text None found none = λ t reads.
    let (rest, opened) = version_opened reads.version t in
    none t (subst (λ w. IsReadIn w text t) (sym (found reads.version rest (reads.in_version.is_text ∙ opened))) reads.in_version)
none_reads v text (Some t) found none = tt

-- what is said of what is found, where something is
pub some_of : {X : Type 0} (P Q : X → Type 0) → ((x : X) → P x → Q x) → (o : Option X) → IfSome o P → IfSome o Q
some_of P Q weaker None is = tt
some_of P Q weaker (Some x) is = weaker x is

-- what is said where nothing is
pub none_of : {X P Q : Type 0} (o : Option X) → (P → Q) → IfNone o P → IfNone o Q
none_of None weaker is = weaker is
none_of (Some x) weaker is = tt
