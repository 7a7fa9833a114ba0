-- What the bytes of a file are made of, one byte after the other.
use Rattle.std.specs.Prelude.{ℕ, ◌==◌, nat_le, Bool, true, false, List, [], ◌∷◌, ◌++◌, Option, Some, None, if◌then◌else◌, ◌&&◌, ◌||◌}
use Rattle.std.specs.Str.Lines.{strip_carriage_return}
use Rattle.meta_file_syntax.specs.declared.token.Token.{Token}
use Rattle.meta_file_syntax.specs.declared.token.Token.TheVariants.{Key, Word, Quoted, Sign, Doc, Stray}
use Rattle.meta_file_syntax.specs.declared.flaw.Flaw.TheVariants.{NoClosingQuote, BadEscape, LoneSlash, StrayByte}
use Rattle.meta_file_syntax.specs.Keywords.{keyword_of}
use Rattle.meta_file_syntax.specs.declared.keyword.Keyword.{Keyword}
use Rattle.meta_file_syntax.specs.declared.scanner.Class.{Class}
use Rattle.meta_file_syntax.specs.declared.scanner.Class.TheVariants.{WordByte, Blank, Quote, SlashByte, SignByte, NoClass}
use Rattle.meta_file_syntax.specs.declared.scanner.Mode.{Mode}
use Rattle.meta_file_syntax.specs.declared.scanner.Mode.TheVariants.{Start, Between, InWord, InText, Escape, Slash, StartSlash, TwoSlashes}
use Rattle.meta_file_syntax.specs.declared.scanner.Mode.TheVariants.{ThreeSlashes, InDoc, Comment, Lost}

-- a letter, a digit or `_`
abbrev pub is_word_byte : ℕ → Bool
is_word_byte c = (nat_le 97 c && nat_le c 122) || ((nat_le 65 c && nat_le c 90) || ((nat_le 48 c && nat_le c 57) || (c == 95)))

-- a blank, a tab or CR
abbrev pub is_blank : ℕ → Bool
is_blank c = (c == 32) || ((c == 9) || (c == 13))

-- one of = : , ( ) [ ] - > .
abbrev pub is_sign : ℕ → Bool
is_sign c = (c == 61) ||
    ((c == 58) || ((c == 44) || ((c == 40) || ((c == 41) || ((c == 91) || ((c == 93) || ((c == 45) || ((c == 62) || (c == 46)))))))))

-- what is being read, and the bytes of it so far
pub record State : Type 0 where
  pub mode : Mode
  pub bytes : List ℕ

-- the class of a byte
unfoldable pub class_of : ℕ → Class
class_of c =
    if is_word_byte c then WordByte
    else (if is_blank c then Blank
    else (if c == 34 then Quote
    else (if c == 47 then SlashByte
    else (if is_sign c then SignByte
    else NoClass))))

-- where nothing began: what a byte of this class leads to
abbrev pub begun : Bool → Class → ℕ → State
begun front WordByte c = record { mode = InWord; bytes = c ∷ [] }
begun true Blank c = record { mode = Start; bytes = [] }
begun false Blank c = record { mode = Between; bytes = [] }
begun front Quote c = record { mode = InText; bytes = [] }
begun true SlashByte c = record { mode = StartSlash; bytes = [] }
begun false SlashByte c = record { mode = Slash; bytes = [] }
begun front SignByte c = record { mode = Between; bytes = [] }
begun front NoClass c = record { mode = Lost; bytes = [] }

-- .. and the tokens that it is
abbrev pub told : Class → ℕ → List Token
told WordByte c = []
told Blank c = []
told Quote c = []
told SlashByte c = []
told SignByte c = Sign c ∷ []
told NoClass c = Stray (StrayByte c) ∷ []

-- the token that a whole word is
abbrev pub word_by : List ℕ → Option Keyword → Token
word_by w None = Word w
word_by w (Some k) = Key k

abbrev pub word_token : List ℕ → Token
word_token w = word_by w (keyword_of w)

abbrev pub in_mode : Mode → List ℕ → State
in_mode mode bytes = record { mode = mode; bytes = bytes }

-- the state after a byte that isn't LF
unfoldable pub next : Mode → List ℕ → ℕ → State
next Start bytes c = begun true (class_of c) c
next Between bytes c = begun false (class_of c) c
next InWord bytes c = if is_word_byte c then in_mode InWord (bytes ++ c ∷ []) else begun false (class_of c) c
next InText bytes c = if c == 34 then in_mode Between [] else (if c == 92 then in_mode Escape bytes else in_mode InText (bytes ++ c ∷ []))
next Escape bytes c = if c == 110 then in_mode InText (bytes ++ 10 ∷ []) else
    (if (c == 34) || (c == 92) then in_mode InText (bytes ++ c ∷ []) else in_mode Lost [])
next Slash bytes c = if c == 47 then in_mode Comment [] else in_mode Lost []
next StartSlash bytes c = if c == 47 then in_mode TwoSlashes [] else in_mode Lost []
next TwoSlashes bytes c = if c == 47 then in_mode ThreeSlashes [] else in_mode Comment []
next ThreeSlashes bytes c = if c == 47 then in_mode Comment [] else (if c == 32 then in_mode InDoc [] else in_mode InDoc (c ∷ []))
next InDoc bytes c = in_mode InDoc (bytes ++ c ∷ [])
next Comment bytes c = in_mode Comment []
next Lost bytes c = in_mode Lost []

-- the tokens that such a byte ends
unfoldable pub ended_by : Mode → List ℕ → ℕ → List Token
ended_by Start bytes c = told (class_of c) c
ended_by Between bytes c = told (class_of c) c
ended_by InWord bytes c = if is_word_byte c then [] else word_token bytes ∷ told (class_of c) c
ended_by InText bytes c = if c == 34 then Quoted bytes ∷ [] else []
ended_by Escape bytes c = if c == 110 then [] else (if (c == 34) || (c == 92) then [] else Stray BadEscape ∷ [])
ended_by Slash bytes c = if c == 47 then [] else Stray LoneSlash ∷ []
ended_by StartSlash bytes c = if c == 47 then [] else Stray LoneSlash ∷ []
ended_by TwoSlashes bytes c = []
ended_by ThreeSlashes bytes c = []
ended_by InDoc bytes c = []
ended_by Comment bytes c = []
ended_by Lost bytes c = []

-- the tokens that the end of a line ends
unfoldable pub ended : Mode → List ℕ → List Token
ended Start bytes = []
ended Between bytes = []
ended InWord bytes = word_token bytes ∷ []
ended InText bytes = Stray NoClosingQuote ∷ []
ended Escape bytes = Stray BadEscape ∷ []
ended Slash bytes = Stray LoneSlash ∷ []
ended StartSlash bytes = Stray LoneSlash ∷ []
ended TwoSlashes bytes = []
ended ThreeSlashes bytes = Doc [] ∷ []
ended InDoc bytes = Doc (strip_carriage_return bytes) ∷ []
ended Comment bytes = []
ended Lost bytes = []

-- the state after a byte
abbrev pub after : Mode → List ℕ → ℕ → State
after mode bytes c = if c == 10 then in_mode Start [] else next mode bytes c

-- the tokens that a byte ends
abbrev pub given : Mode → List ℕ → ℕ → List Token
given mode bytes c = if c == 10 then ended mode bytes else ended_by mode bytes c

-- the tokens of a text from a state on
abbrev pub scanned : Mode → List ℕ → List ℕ → List Token
scanned mode bytes [] = ended mode bytes
scanned mode bytes (c ∷ cs) = given mode bytes c ++ scanned (after mode bytes c).mode (after mode bytes c).bytes cs

-- the tokens of a text
abbrev pub tokens_in : List ℕ → List Token
tokens_in text = scanned Start [] text
