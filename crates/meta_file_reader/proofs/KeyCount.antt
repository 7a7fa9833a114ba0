-- Each item has one keyword, so it has one line.
use Rattle.std.proofs.Common.{◌≡◌, ◌∙◌, ℕ, ◌+◌, true, List, [], ◌∷◌, ◌++◌, length, refl, ap, arith}
use Rattle.meta_file_syntax.specs.declared.token.Token.{Token}
use Rattle.meta_file_syntax.specs.declared.token.Token.TheVariants.{Key, Word, Quoted, Sign, Doc, Stray}
use Rattle.meta_file_syntax.specs.declared.keyword.Keyword.{Keyword}
use Rattle.meta_file_syntax.specs.declared.items.Item.{Item}
use Rattle.meta_file_syntax.specs.Spelling.{docs, spelled, spelled_all}
use Rattle.meta_file_reader.proofs.Bodies.{docs_of, keyword_of_item, body_of, in_parts, plain, of_body}
use Rattle.meta_file_reader.specs.ItemLines.{key_lines, key_lines_from}

abbrev one_key : Token → ℕ
one_key (Key k) = 1
one_key (Word w) = 0
one_key (Quoted t) = 0
one_key (Sign c) = 0
one_key (Doc d) = 0
one_key (Stray f) = 0

-- how many keywords there are
abbrev keys : List Token → ℕ
keys [] = 0
keys (t ∷ ts) = one_key t + keys ts

lines_of_keys : (place : ℕ) (ts : List Token) (ns : List ℕ) → length (key_lines_from place ts ns) ≡ keys ts
lines_of_keys place [] ns = refl
lines_of_keys place (Key k ∷ ts) ns = let h = lines_of_keys (place + 1) ts ns in omega arith
lines_of_keys place (Word w ∷ ts) ns = let h = lines_of_keys (place + 1) ts ns in omega arith
lines_of_keys place (Quoted t ∷ ts) ns = let h = lines_of_keys (place + 1) ts ns in omega arith
lines_of_keys place (Sign c ∷ ts) ns = let h = lines_of_keys (place + 1) ts ns in omega arith
lines_of_keys place (Doc d ∷ ts) ns = let h = lines_of_keys (place + 1) ts ns in omega arith
lines_of_keys place (Stray f ∷ ts) ns = let h = lines_of_keys (place + 1) ts ns in omega arith

keys_append : (a b : List Token) → keys (a ++ b) ≡ keys a + keys b
keys_append [] b = omega arith
keys_append (t ∷ ts) b = let h = keys_append ts b in omega arith

of_docs : (ds : List (List ℕ)) → keys (docs ds) ≡ 0
of_docs [] = refl
of_docs (d ∷ ds) = let h = of_docs ds in omega arith

-- no keyword where none stands
of_plain : (ts : List Token) → plain ts ≡ true → keys ts ≡ 0
of_plain [] h = refl
of_plain (Key k ∷ ts) h = absurd cc
of_plain (Word w ∷ ts) h = let k = of_plain ts h in omega arith
of_plain (Quoted t ∷ ts) h = let k = of_plain ts h in omega arith
of_plain (Sign c ∷ ts) h = let k = of_plain ts h in omega arith
of_plain (Doc d ∷ ts) h = let k = of_plain ts h in omega arith
of_plain (Stray f ∷ ts) h = absurd cc

-- documentation, a keyword, and no other after it
of_item : (ds : List (List ℕ)) (k : Keyword) (body : List Token) → keys body ≡ 0 → keys (docs ds ++ Key k ∷ body) ≡ 1
of_item ds k body e = let h = of_docs ds in let all = keys_append (docs ds) (Key k ∷ body) in omega arith

of_spelled : (i : Item) → keys (spelled i) ≡ 1
of_spelled i = ap keys (in_parts i) ∙ of_item (docs_of i) (keyword_of_item i) (body_of i) (of_plain (body_of i) (of_body i))

of_all : (is : List Item) → keys (spelled_all is) ≡ length is
of_all [] = refl
of_all (i ∷ is) = let h = of_all is in let one = of_spelled i in let all = keys_append (spelled i) (spelled_all is) in omega arith

-- as many lines of keywords as items
pub a_line_each : (ts : List Token) (ns : List ℕ) (is : List Item) → ts ≡ spelled_all is → length (key_lines ts ns) ≡ length is
a_line_each ts ns is s = lines_of_keys 0 ts ns ∙ ap keys s ∙ of_all is
