-- The words of the lines that ask.
use Rattle.std.proofs.Common.{◌≡◌, ◌≢◌, ℕ, ◌<◌, List, [], ◌∷◌, ◌++◌, length, All, get_or, refl, sym, ap, ◌∙◌, arith}
use Rattle.std.proofs.lemmas.List.Elements.{All-weaker}
use Rattle.meta_lines.specs.Words.{IsWord, pieces_of}
use Rattle.meta_lines.proofs.WordLemmas.{words_pieces, are_words}
use Rattle.meta_flags.specs.Request.{Request, Set, Enable, Get, Toml, request_words, Requests, command_word}
use Rattle.meta_flags.specs.declared.request.RequestWord.{RequestWord}
use Rattle.meta_flags.specs.declared.request.RequestWord.TheVariants as command

-- the word has bytes
abbrev pub HasBytes : List ℕ → Type 0
HasBytes word = 0 < length word

-- the first letter of the first word, by which commands differ
abbrev first_letter : List (List ℕ) → ℕ
first_letter words = get_or (get_or words 0 []) 0 0

-- ---- the words of a request

-- the command of a request, and the words after it
abbrev pub command_in : Request → RequestWord
command_in (Set name value) = command.Set
command_in (Enable name) = command.Enable
command_in (Get name) = command.Get
command_in Toml = command.Toml

abbrev pub after_in : Request → List (List ℕ)
after_in (Set name value) = name ∷ value ∷ []
after_in (Enable name) = name ∷ []
after_in (Get name) = name ∷ []
after_in Toml = []

pub first_word : (r : Request) → request_words r ≡ command_word (command_in r) ∷ after_in r
first_word (Set name value) = refl
first_word (Enable name) = refl
first_word (Get name) = refl
first_word Toml = refl

command_has_bytes : (c : RequestWord) → HasBytes (command_word c)
command_has_bytes command.Set = omega arith
command_has_bytes command.Enable = omega arith
command_has_bytes command.Get = omega arith
command_has_bytes command.Toml = omega arith

-- all words of a line that asks have bytes
pub words_have_bytes : (line : List ℕ) (r : Request) → Requests line r → All HasBytes (request_words r)
words_have_bytes line r h = All-weaker IsWord HasBytes (λ w is. is.has_bytes) (request_words r) h.each

-- they are its pieces
pub request_pieces : (line : List ℕ) (r : Request) → Requests line r → pieces_of 32 line ≡ request_words r
request_pieces line r h = words_pieces line (request_words r) h (some r)
  where
    some : (r : Request) → 0 < length (request_words r)
    some (Set name value) = omega arith
    some (Enable name) = omega arith
    some (Get name) = omega arith
    some Toml = omega arith

-- no request is another with more words
no_longer : (q r : Request) (word : List ℕ) (rest : List (List ℕ)) → request_words q ++ word ∷ rest ≡ request_words r → ⊥
no_longer (Set n v) (Set m w) word rest e = absurd (omega (arith, ap length e))
no_longer (Set n v) (Enable m) word rest e = absurd (omega (arith, ap length e))
no_longer (Set n v) (Get m) word rest e = absurd (omega (arith, ap length e))
no_longer (Set n v) Toml word rest e = absurd (omega (arith, ap length e))
no_longer (Enable n) (Set m w) word rest e = absurd (omega (arith, ap first_letter e))
no_longer (Enable n) (Enable m) word rest e = absurd (omega (arith, ap length e))
no_longer (Enable n) (Get m) word rest e = absurd (omega (arith, ap length e))
no_longer (Enable n) Toml word rest e = absurd (omega (arith, ap length e))
no_longer (Get n) (Set m w) word rest e = absurd (omega (arith, ap first_letter e))
no_longer (Get n) (Enable m) word rest e = absurd (omega (arith, ap length e))
no_longer (Get n) (Get m) word rest e = absurd (omega (arith, ap length e))
no_longer (Get n) Toml word rest e = absurd (omega (arith, ap length e))
no_longer Toml (Set m w) word rest e = absurd (omega (arith, ap first_letter e))
no_longer Toml (Enable m) word rest e = absurd (omega (arith, ap first_letter e))
no_longer Toml (Get m) word rest e = absurd (omega (arith, ap first_letter e))
no_longer Toml Toml word rest e = absurd (omega (arith, ap length e))

-- requests of the same words are one
pub same_request : (q r : Request) → request_words q ≡ request_words r → q ≡ r
same_request (Set n v) (Set m w) e = let name : n ≡ m = cc in let value : v ≡ w = cc in (λ i. Set (name i) (value i))
same_request (Set n v) (Enable m) e = absurd (omega (arith, ap length e))
same_request (Set n v) (Get m) e = absurd (omega (arith, ap length e))
same_request (Set n v) Toml e = absurd (omega (arith, ap length e))
same_request (Enable n) (Set m w) e = absurd (omega (arith, ap length e))
same_request (Enable n) (Enable m) e = let name : n ≡ m = cc in ap Enable name
same_request (Enable n) (Get m) e = absurd (omega (arith, ap first_letter e))
same_request (Enable n) Toml e = absurd (omega (arith, ap length e))
same_request (Get n) (Set m w) e = absurd (omega (arith, ap length e))
same_request (Get n) (Enable m) e = absurd (omega (arith, ap first_letter e))
same_request (Get n) (Get m) e = let name : n ≡ m = cc in ap Get name
same_request (Get n) Toml e = absurd (omega (arith, ap length e))
same_request Toml (Set m w) e = absurd (omega (arith, ap length e))
same_request Toml (Enable m) e = absurd (omega (arith, ap length e))
same_request Toml (Get m) e = absurd (omega (arith, ap length e))
same_request Toml Toml e = refl

-- ---- a line

module _ (line : List ℕ) where
  -- a line without a first word asks nothing
  pub no_first_word : ((word : List ℕ) (rest : List (List ℕ)) → 0 < length word → pieces_of 32 line ≢ word ∷ rest)
      → (r : Request) → Requests line r → ⊥
  no_first_word none r h = none (command_word (command_in r)) (after_in r) (command_has_bytes (command_in r))
      (request_pieces line r h ∙ first_word r)

  module _ (word : List ℕ) (rest : List (List ℕ)) (pieces : pieces_of 32 line ≡ word ∷ rest) where
    -- a line whose first word is no command asks nothing
    pub no_command : ((c : RequestWord) → word ≢ command_word c) → (r : Request) → Requests line r → ⊥
    no_command none r h =
        let both : word ∷ rest ≡ command_word (command_in r) ∷ after_in r = sym pieces ∙ request_pieces line r h ∙ first_word r in
        let same : word ≡ command_word (command_in r) = cc in
        none (command_in r) same

    module _ (c : RequestWord) (is : word ≡ command_word c) where
      own : pieces_of 32 line ≡ command_word c ∷ rest
      own = pieces ∙ ap (λ w. w ∷ rest) is

      -- a line with other words after its command asks nothing
      pub no_request : ((r : Request) → All HasBytes (request_words r) → command_word c ∷ rest ≢ request_words r)
          → (r : Request) → Requests line r → ⊥
      no_request none r h = none r (words_have_bytes line r h) (sym own ∙ request_pieces line r h)

      module _ (q : Request) (left : List (List ℕ)) (taken : command_word c ∷ rest ≡ request_words q ++ left) where
        -- a line with more words asks nothing
        pub no_more : (more : List ℕ) (others : List (List ℕ)) → left ≡ more ∷ others → (r : Request) → Requests line r → ⊥
        no_more more others e r h = no_longer q r more others (ap (λ ws. request_words q ++ ws) (sym e) ∙ sym taken
            ∙ sym own ∙ request_pieces line r h)

        -- a line with these words asks
        pub asks : All HasBytes (request_words q) → left ≡ [] → Requests line q
        asks some none = are_words line (request_words q) (sym (own ∙ taken ∙ ap (λ ws. request_words q ++ ws) none ∙ all q)) some
          where
            all : (q : Request) → request_words q ++ [] ≡ request_words q
            all (Set name value) = refl
            all (Enable name) = refl
            all (Get name) = refl
            all Toml = refl

-- ---- the words of requests have bytes
