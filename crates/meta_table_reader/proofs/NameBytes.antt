-- The bytes of names.
use Rattle.std.proofs.Common.{◌≡◌, ℕ, ◌<◌, ◌==◌, cond, not, ◌&&◌, Bool, true, false, List, [], ◌∷◌, All, inl, refl, arith}
use Rattle.std.proofs.lemmas.Bool.Decides.{nat_tests}
use Rattle.std.proofs.lemmas.List.Elements.{All-cons}
use Rattle.std.specs.Str.{IsAscii}
use Rattle.meta_types.specs.Name.{IsNameByte, IsName}
use Rattle.meta_types.specs.CamelCase.{capital_at, camel_from, camel_case_of}
use Rattle.meta_settings.specs.GroupFaults.{IsPlainByte}
use Rattle.meta_table_reader.specs.Spans.{lacks}
use Rattle.meta_table_reader.proofs.Lacking.{lacks_by, ascii_by}
use Rattle.meta_table_reader.proofs.ItemsRead.{all_first, all_after}

-- each byte of a name is one that a name may have
pub all_name_bytes : (name : List ℕ) → IsName name → All IsNameByte name
all_name_bytes [] is = absurd is
all_name_bytes (c ∷ cs) (letter, others) = All-cons IsNameByte c cs (inl letter) others

pub byte_small : (c : ℕ) → IsNameByte c → c < 128
byte_small c is = grind arith

pub name_ascii : (name : List ℕ) → IsName name → IsAscii name
name_ascii name is = ascii_by IsNameByte byte_small name (all_name_bytes name is)

-- a comma, a quote, a dot and the end of a line stand in no name
no_comma : (c : ℕ) → IsNameByte c → c ≡ 44 → ⊥
no_comma c is e = grind arith

no_quote : (c : ℕ) → IsNameByte c → c ≡ 34 → ⊥
no_quote c is e = grind arith

no_dot : (c : ℕ) → IsNameByte c → c ≡ 46 → ⊥
no_dot c is e = grind arith

no_end : (c : ℕ) → IsNameByte c → c ≡ 10 → ⊥
no_end c is e = grind arith

pub name_lacks_comma : (name : List ℕ) → IsName name → lacks 44 name ≡ true
name_lacks_comma name is = lacks_by IsNameByte 44 no_comma name (all_name_bytes name is)

pub name_lacks_quote : (name : List ℕ) → IsName name → lacks 34 name ≡ true
name_lacks_quote name is = lacks_by IsNameByte 34 no_quote name (all_name_bytes name is)

pub name_lacks_dot : (name : List ℕ) → IsName name → lacks 46 name ≡ true
name_lacks_dot name is = lacks_by IsNameByte 46 no_dot name (all_name_bytes name is)

pub name_lacks_end : (name : List ℕ) → IsName name → lacks 10 name ≡ true
name_lacks_end name is = lacks_by IsNameByte 10 no_end name (all_name_bytes name is)

-- the camel case of a name has no end of a line
capital_no_end : (up : Bool) (c : ℕ) → IsNameByte c → (capital_at up c == 10) ≡ false
capital_no_end true c is = grind (arith, nat_tests)
capital_no_end false c is = grind (arith, nat_tests)

camel_lacks : (up : Bool) (name : List ℕ) → All IsNameByte name → lacks 10 (camel_from up name) ≡ true
camel_lacks up [] all = refl
camel_lacks up (c ∷ cs) all =
    by_test (c == 95) (camel_lacks true cs (all_after IsNameByte c cs all)) (camel_lacks false cs (all_after IsNameByte c cs all))
  where
    by_test : (b : Bool) → lacks 10 (camel_from true cs) ≡ true → lacks 10 (camel_from false cs) ≡ true
        → lacks 10 (cond b (camel_from true cs) (capital_at up c ∷ camel_from false cs)) ≡ true
    by_test true dropped kept = dropped
    by_test false dropped kept = (λ i. not (capital_no_end up c (all_first IsNameByte c cs all) i) && kept i)

pub camel_case_lacks : (name : List ℕ) → IsName name → lacks 10 (camel_case_of name) ≡ true
camel_case_lacks name is = camel_lacks true name (all_name_bytes name is)

-- the bytes of a description are ASCII, and no quote stands there
plain_small : (c : ℕ) → IsPlainByte c → c < 128
plain_small c is = let most = is.most in omega arith

pub plain_ascii : (text : List ℕ) → All IsPlainByte text → IsAscii text
plain_ascii text all = ascii_by IsPlainByte plain_small text all

pub plain_lacks_quote : (text : List ℕ) → All IsPlainByte text → lacks 34 text ≡ true
plain_lacks_quote text all = lacks_by IsPlainByte 34 (λ c is e. is.no_quote e) text all
