-- The keywords of the table are those of the definition.
use Rattle.std.proofs.Common.{◌≡◌, ℕ, List, refl}
use Rattle.std.specs.List.{list_any}
use Rattle.meta_operands.specs.Texts.{same_text}
use Rattle.meta_rust_names.specs.declared.words.TheConstants.{KEYWORDS}
use Rattle.meta_rust_names.specs.Words.{keywords}

pub keywords_same : (name : List ℕ) → list_any (λ word. same_text name word.now) KEYWORDS ≡ list_any (same_text name) keywords
keywords_same name = refl
