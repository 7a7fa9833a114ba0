-- The entries of a manual that list the commands of `run`, and which command the words of an entry are.
use Rattle.std.proofs.Common.{◌≡◌, ◌≢◌, ◌∙◌, ◌<◌, ◌^◌, ◌⊎◌, inl, inr, ℕ, zero, suc, Bool, true, false, not, List, [], ◌∷◌, length, take}
use Rattle.std.proofs.Common.{refl, sym, ap, ap₂, subst, arith}
use Rattle.std.proofs.lemmas.Bool.{and_parts}
use Rattle.std.proofs.lemmas.List.{nil_from_length}
use Rattle.std.proofs.lemmas.Option.{same_Some}
use Rattle.std.specs.Prelude.{codes, slice_get, nat_eq, Some}
use Rattle.std.specs.Cmp.Lexicographic.{pointwise, other_text}
use Rattle.std.specs.List.{list_all}
use Rattle.std.specs.Fmt.{decimal}
use Rattle.meta_query.specs.Command.{command_name, number_words, HasNumber, IsCommand}
use Rattle.meta_command_line.specs.Misuse.{AreCommandWords, AreTaken, NamesNoneBefore, IsNumberIn, AreNumbersIn, AreNumbersTo}
use Rattle.meta_command_line.specs.declared.manual.Range.{Range}
use Rattle.meta_command_line.specs.declared.manual.CommandForm.{CommandForm}
use Rattle.meta_query.specs.declared.command.Command.{Command}
use Rattle.meta_query.specs.declared.command.Command.TheVariants.{Query, Recheck, Tables, Types, Settings, Instructions, Builder, Synth}

-- the numbers of 32 bits
abbrev pub range : Range
range = record { least = 0; most = 4294967295 }

-- ---- the numbers after a name

pub no_numbers : AreNumbersIn [] []
no_numbers = record { count = refl; numbers = λ k r word less at word_at. absurd (omega (arith, less)) }

one_place : (n : ℕ) → n < 2 ^ 32 → AreNumbersTo 1 (range ∷ []) (decimal n ∷ [])
one_place n few zero r word less at word_at =
    let number : IsNumberIn range (decimal n) = record { number = n; written = refl; least = omega arith; most = omega (arith, few) } in
    subst (λ w. IsNumberIn r w) (same_Some (decimal n) word word_at) (subst (λ x. IsNumberIn x (decimal n)) (same_Some range r at) number)
one_place n few (suc k) r word less at word_at = absurd (omega (arith, less))

one_number : (n : ℕ) → n < 2 ^ 32 → AreNumbersIn (range ∷ []) (decimal n ∷ [])
one_number n few = record { count = refl; numbers = one_place n few }

-- what stands after a name with one number
number_after : (after : List (List ℕ)) → AreNumbersIn (range ∷ []) after → (n : ℕ) × (n < 2 ^ 32) × (after ≡ decimal n ∷ [])
number_after [] h = absurd (omega (arith, h.count))
number_after (word ∷ []) h =
    let it = h.numbers 0 range word (omega arith) refl refl in
    (it.number, omega (arith, it.most), ap (λ w. w ∷ []) it.written)
number_after (word ∷ other ∷ words) h = absurd (omega (arith, h.count))

-- ---- an entry of each command

-- the ranges of the entry of a command
abbrev pub ranges_of : Command → List Range
ranges_of Query = []
ranges_of Recheck = []
ranges_of Tables = []
ranges_of Types = []
ranges_of Settings = []
ranges_of Instructions = []
ranges_of Builder = []
ranges_of (Synth n) = range ∷ []

numbers_of : (c : Command) → HasNumber c → AreNumbersIn (ranges_of c) (number_words c)
numbers_of Query h = no_numbers
numbers_of Recheck h = no_numbers
numbers_of Tables h = no_numbers
numbers_of Types h = no_numbers
numbers_of Settings h = no_numbers
numbers_of Instructions h = no_numbers
numbers_of Builder h = no_numbers
numbers_of (Synth n) h = one_number n h

-- the entry has another name
abbrev pub is_other : List ℕ → CommandForm → Bool
is_other name entry = not (pointwise nat_eq entry.name.now name)

other_name : (name : List ℕ) (entry : CommandForm) → is_other name entry ≡ true → entry.name.now ≢ name
other_name name entry e = by_test (pointwise nat_eq entry.name.now name) refl e
  where
    by_test : (b : Bool) → pointwise nat_eq entry.name.now name ≡ b → not b ≡ true → entry.name.now ≢ name
    by_test true is e = absurd (cc)
    by_test false is e = other_text entry.name.now name (sym is)

pub others : (entries : List CommandForm) (place : ℕ) (name : List ℕ)
    → list_all (is_other name) (take place entries) ≡ true → NamesNoneBefore place entries name
others entries zero name e k entry below at = absurd (omega (arith, below))
others [] (suc place) name e k entry below at = absurd (cc)
others (x ∷ entries) (suc place) name e zero entry below at =
    subst (λ (it : CommandForm). it.name.now ≢ name) (same_Some x entry at)
    (other_name name x (and_parts (is_other name x) (list_all (is_other name) (take place entries)) e).0)
others (x ∷ entries) (suc place) name e (suc k) entry below at =
    others entries place name (and_parts (is_other name x) (list_all (is_other name) (take place entries)) e).1 k
    entry (omega (arith, below)) at

-- the entries have one for the command, and none before it has its name
pub record HaveEntry (entries : List CommandForm) (c : Command) : Type 0 where
  pub place : ℕ
  pub entry : CommandForm
  pub at : slice_get entries place ≡ Some entry
  pub name : entry.name.now ≡ command_name c
  pub numbers : entry.numbers.now ≡ ranges_of c
  pub first : list_all (is_other (command_name c)) (take place entries) ≡ true

pub listed : (entries : List CommandForm) → ((c : Command) → HaveEntry entries c) → (words : List (List ℕ))
    → IsCommand words → AreTaken entries words
listed entries have words h =
    let it = have h.0 in
    record {
      are = record {
        command = it.entry;
        after = number_words h.0;
        are = h.1.are ∙ ap (λ n. n ∷ number_words h.0) (sym it.name);
        named = record { place = it.place; at = it.at; name_is = refl };
        numbers = subst (λ r. AreNumbersIn r (number_words h.0)) (sym it.numbers) (numbers_of h.0 h.1.number);
      };
      first = subst (λ (n : List ℕ). NamesNoneBefore it.place entries n) (sym it.name)
          (others entries it.place (command_name h.0) it.first);
    }

-- ---- a command of each entry

-- the entry is that of a command without a number, or of `synth`
abbrev pub IsEntry : CommandForm → Type 0
IsEntry entry = ((c : Command) × HasNumber c × (number_words c ≡ []) × (entry.name.now ≡ command_name c)
    × (entry.numbers.now ≡ [])) ⊎ ((entry.name.now ≡ codes "synth") × (entry.numbers.now ≡ range ∷ []))

pub of_entry : (entries : List CommandForm) (words : List (List ℕ)) (h : AreCommandWords entries words) → IsEntry h.command
    → IsCommand words
of_entry entries words h (inl (c, number, none, name, no_ranges)) =
    let after : h.after ≡ number_words c = nil_from_length h.after (h.numbers.count ∙ ap length no_ranges) ∙ sym none in
    (c, record { number = number; are = h.are ∙ ap₂ (λ n b. n ∷ b) name after })
of_entry entries words h (inr (name, one)) =
    let it = number_after h.after (subst (λ r. AreNumbersIn r h.after) one h.numbers) in
    (Synth it.0, record { number = it.1; are = h.are ∙ ap₂ (λ n b. n ∷ b) name it.2 })
