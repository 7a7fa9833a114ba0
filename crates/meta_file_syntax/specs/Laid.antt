-- The canonical text of tokens: documentation and keywords begin a line, and a blank stands between two others, but for signs that stand
-- close.
use Rattle.std.specs.Prelude.{◌≡◌, ◌⊎◌, ℕ, ◌-◌, ◌==◌, length, slice_index, ◌||◌, Bool, true, false, List, [], ◌∷◌, ◌++◌, None}
use Rattle.std.specs.Prelude.{if◌then◌else◌}
use Rattle.std.specs.Str.{IsUtf8}
use Rattle.meta_file_syntax.specs.Scan.{is_word_byte}
use Rattle.meta_file_syntax.specs.Keywords.{keyword_of, keyword_text}
use Rattle.meta_file_syntax.specs.declared.token.Token.{Token}
use Rattle.meta_file_syntax.specs.declared.token.Token.TheVariants.{Key, Word, Quoted, Sign, Doc, Stray}

-- a byte between quotes
abbrev pub escaped_byte : ℕ → List ℕ
escaped_byte c = if c == 10 then 92 ∷ 110 ∷ [] else (if (c == 34) || (c == 92) then 92 ∷ c ∷ [] else c ∷ [])

abbrev pub escaped : List ℕ → List ℕ
escaped [] = []
escaped (c ∷ cs) = escaped_byte c ++ escaped cs

-- one CR more where a line ends in CR, since a CR before the line end is no part of the line
abbrev pub cr_more : List ℕ → List ℕ
cr_more line = if slice_index line (length line - 1) == 13 then 13 ∷ [] else []

-- a line of documentation after its three slashes
abbrev pub doc_line : List ℕ → List ℕ
doc_line [] = []
doc_line (c ∷ cs) = 32 ∷ ((c ∷ cs) ++ cr_more (c ∷ cs))

abbrev pub written : Token → List ℕ
written (Key k) = keyword_text k
written (Word w) = w
written (Quoted t) = 34 ∷ (escaped t ++ 34 ∷ [])
written (Sign c) = c ∷ []
written (Doc d) = 47 ∷ 47 ∷ 47 ∷ doc_line d
written (Stray f) = []

abbrev pub is_doc : Token → Bool
is_doc (Key k) = false
is_doc (Word w) = false
is_doc (Quoted t) = false
is_doc (Sign c) = false
is_doc (Doc d) = true
is_doc (Stray f) = false

-- the token begins a line
abbrev pub starts : Token → Bool
starts (Key k) = true
starts (Word w) = false
starts (Quoted t) = false
starts (Sign c) = false
starts (Doc d) = true
starts (Stray f) = false

-- no blank before : , ( ) ] . >
abbrev pub closes : Token → Bool
closes (Key k) = false
closes (Word w) = false
closes (Quoted t) = false
closes (Sign c) = (c == 58) || ((c == 44) || ((c == 40) || ((c == 41) || ((c == 93) || ((c == 46) || (c == 62))))))
closes (Doc d) = false
closes (Stray f) = false

-- no blank stands after ( [ . -
abbrev pub opens : Token → Bool
opens (Key k) = false
opens (Word w) = false
opens (Quoted t) = false
opens (Sign c) = (c == 40) || ((c == 91) || ((c == 46) || (c == 45)))
opens (Doc d) = false
opens (Stray f) = false

abbrev pub separator : Token → Token → List ℕ
separator u t = if is_doc u || starts t then 10 ∷ [] else (if closes t || opens u then [] else 32 ∷ [])

-- what stands after a token
unfoldable pub then_text : Token → List Token → List ℕ
then_text u [] = 10 ∷ []
then_text u (t ∷ ts) = separator u t ++ (written t ++ then_text t ts)

unfoldable pub laid : List Token → List ℕ
laid [] = []
laid (t ∷ ts) = written t ++ then_text t ts

abbrev pub AreWordBytes : List ℕ → Type 0
AreWordBytes [] = Unit {0}
AreWordBytes (c ∷ cs) = (is_word_byte c ≡ true) × AreWordBytes cs

-- bytes of one line: no LF
abbrev pub AreLineBytes : List ℕ → Type 0
AreLineBytes [] = Unit {0}
AreLineBytes (c ∷ cs) = (c == 10 ≡ false) × AreLineBytes cs

-- a word that can be written: one byte and more, all of words, and no keyword
pub record IsWord (w : List ℕ) : Type 0 where
  pub first : ℕ
  pub more : List ℕ
  pub is : w ≡ first ∷ more
  pub bytes : AreWordBytes (first ∷ more)
  pub free : keyword_of w ≡ None

-- one of the ten signs
abbrev pub IsSignByte : ℕ → Type 0
IsSignByte c = (c ≡ 61) ⊎ ((c ≡ 58) ⊎ ((c ≡ 44) ⊎ ((c ≡ 40) ⊎ ((c ≡ 41) ⊎ ((c ≡ 91) ⊎ ((c ≡ 93) ⊎ ((c ≡ 45) ⊎ ((c ≡ 62) ⊎ (c ≡ 46)))))))))

-- the token can be written
abbrev pub CanWrite : Token → Type 0
CanWrite (Key k) = Unit {0}
CanWrite (Word w) = IsWord w
CanWrite (Quoted t) = IsUtf8 t
CanWrite (Sign c) = IsSignByte c
CanWrite (Doc d) = AreLineBytes d × IsUtf8 d
CanWrite (Stray f) = ⊥

abbrev pub CanWriteAll : List Token → Type 0
CanWriteAll [] = Unit {0}
CanWriteAll (t ∷ ts) = CanWrite t × CanWriteAll ts
