-- The entries of a manual that list what words ask, and what their words ask.
use Rattle.std.proofs.Common.{◌≡◌, ◌∙◌, ◌⊎◌, inl, inr, ℕ, true, List, [], ◌∷◌, length, take}
use Rattle.std.proofs.Common.{refl, sym, ap, ap₂, subst}
use Rattle.std.proofs.lemmas.List.{nil_from_length}
use Rattle.std.proofs.lemmas.List.Elements.{All-from_recursion}
use Rattle.std.specs.Prelude.{codes, slice_get, Some}
use Rattle.std.specs.List.{list_all, AllByRecursion}
use Rattle.meta_lists.proofs.Everywhere.{at_place}
use Rattle.meta_command_line.specs.Misuse.{AreCommandWords, AreTaken, AreNumbersIn, IsNamed, NamesNoneBefore}
use Rattle.meta_command_line.specs.declared.manual.CommandForm.{CommandForm}
use Rattle.meta_query.specs.declared.command.Command.{Command}
use Rattle.meta_asm.specs.Form.{form_name}
use Rattle.meta_program.specs.TablesIn.{version_words}
use Rattle.meta_program.proofs.Listed.{is_other, no_numbers, others, HaveEntry, listed, IsEntry, of_entry}
use Rattle.meta_program.specs.Tool.{AskSomething, BeginWithNameOf, HaveWordAfter, lone_name, why_words}
use Rattle.meta_program.specs.declared.tool.Lone.{Lone}
use Rattle.meta_program.specs.declared.tool.Lone.TheVariants as lone
use Rattle.meta_program.specs.declared.tool.Why.TheVariants.{Untold, Told}
use Rattle.meta_program.specs.declared.tool.Tool.TheVariants.{Run, TablesIn, Explain, Verify, Asm, Flags, Audit, Check, Describe}

-- the entries have one of this name, after which no number stands, and none before it has the name
pub record HavePlainEntry (entries : List CommandForm) (name : List ℕ) : Type 0 where
  pub place : ℕ
  pub entry : CommandForm
  pub at : slice_get entries place ≡ Some entry
  pub name_is : entry.name.now ≡ name
  pub none : entry.numbers.now ≡ []
  pub first : list_all (is_other name) (take place entries) ≡ true

taken : (entries : List CommandForm) (name : List ℕ) → HavePlainEntry entries name → (words : List (List ℕ))
    → words ≡ name ∷ [] → AreTaken entries words
taken entries name it words e = record {
  are = record {
    command = it.entry;
    after = [];
    are = e ∙ ap (λ n. n ∷ []) (sym it.name_is);
    named = record { place = it.place; at = it.at; name_is = refl };
    numbers = subst (λ r. AreNumbersIn r []) (sym it.none) no_numbers;
  };
  first = subst (λ (n : List ℕ). NamesNoneBefore it.place entries n) (sym it.name_is) (others entries it.place name it.first);
}

pub all_listed : (entries : List CommandForm) → ((c : Command) → HaveEntry entries c)
    → ((l : Lone) → HavePlainEntry entries (lone_name l)) → HavePlainEntry entries (codes "verify")
    → (words : List (List ℕ)) → AskSomething words → AreTaken entries words ⊎ HaveWordAfter words
all_listed entries commands lones verify words (Run command, h) = inl (listed entries commands words (command, h))
all_listed entries commands lones verify words (TablesIn version, h) = inr (inr (inl (version, h)))
all_listed entries commands lones verify words (Explain, h) = inl (taken entries (codes "explain") (lones lone.Explain) words h)
all_listed entries commands lones verify words (Verify Untold, h) = inl (taken entries (codes "verify") verify words h)
all_listed entries commands lones verify words (Verify Told, h) = inr (inr (inr h))
all_listed entries commands lones verify words (Asm form why, h) = inr (inl (form, why, h))
all_listed entries commands lones verify words (Flags, h) = inl (taken entries (codes "flags") (lones lone.Flags) words h)
all_listed entries commands lones verify words (Audit, h) = inl (taken entries (codes "audit") (lones lone.Audit) words h)
all_listed entries commands lones verify words (Check, h) = inl (taken entries (codes "check") (lones lone.Check) words h)
all_listed entries commands lones verify words (Describe, h) = inl (taken entries (codes "describe") (lones lone.Describe) words h)

begins : (entries : List CommandForm) (words : List (List ℕ)) → AreTaken entries words → BeginWithNameOf entries words
begins entries words h = (h.are.named.place, h.are.command, h.are.after, h.are.named.at, h.are.are)

-- words that are the name of an entry and more begin with this name
named : (entries : List CommandForm) (name : List ℕ) (entry : CommandForm) → IsNamed entries name entry → (words after : List (List ℕ))
    → words ≡ name ∷ after → BeginWithNameOf entries words
named entries name entry it words after e = (it.place, entry, after, it.at, e ∙ ap (λ n. n ∷ after) (sym it.name_is))

-- The entries begin all words that ask something: those that they list, and, if they have `asm`, `tables` and `verify`, those with another
-- word after the name.
pub all_named : (entries : List CommandForm) (asm tables verify : CommandForm) → IsNamed entries (codes "asm") asm
    → IsNamed entries (codes "tables") tables → IsNamed entries (codes "verify") verify
    → ((words : List (List ℕ)) → AskSomething words → AreTaken entries words ⊎ HaveWordAfter words)
    → (words : List (List ℕ)) → AskSomething words → BeginWithNameOf entries words
all_named entries asm tables verify is_asm is_tables is_verify all words h = of_listed (all words h)
  where
    of_listed : AreTaken entries words ⊎ HaveWordAfter words → BeginWithNameOf entries words
    of_listed (inl it) = begins entries words it
    of_listed (inr (inl (form, why, e))) = named entries (codes "asm") asm is_asm words (form_name form ∷ why_words why) e
    of_listed (inr (inr (inl (version, e)))) = named entries (codes "tables") tables is_tables words (version_words version) e
    of_listed (inr (inr (inr e))) = named entries (codes "verify") verify is_verify words (why_words Told) e

-- the entry is that of a command of `run`, of a tool whose words are its name, of `verify`, or of `asm`
abbrev pub IsToolEntry : CommandForm → Type 0
IsToolEntry entry = IsEntry entry ⊎ (((l : Lone) × (entry.name.now ≡ lone_name l) × (entry.numbers.now ≡ []))
    ⊎ (((entry.name.now ≡ codes "verify") × (entry.numbers.now ≡ []))
    ⊎ ((entry.name.now ≡ codes "asm") × (entry.numbers.now ≡ []))))

abbrev pub AreToolEntries : List CommandForm → Type 0
AreToolEntries entries = AllByRecursion IsToolEntry entries

lone_words : (l : Lone) (words : List (List ℕ)) → words ≡ lone_name l ∷ [] → AskSomething words
lone_words lone.Explain words e = (Explain, e)
lone_words lone.Flags words e = (Flags, e)
lone_words lone.Audit words e = (Audit, e)
lone_words lone.Check words e = (Check, e)
lone_words lone.Describe words e = (Describe, e)

-- nothing stands after a name without numbers
alone : (entries : List CommandForm) (words : List (List ℕ)) (h : AreCommandWords entries words) (name : List ℕ)
    → h.command.name.now ≡ name → h.command.numbers.now ≡ [] → words ≡ name ∷ []
alone entries words h name e none =
    h.are ∙ ap₂ (λ n b. n ∷ b) e (nil_from_length h.after (h.numbers.count ∙ ap length none))

of_tool_entry : (entries : List CommandForm) (words : List (List ℕ)) (h : AreCommandWords entries words)
    → IsToolEntry h.command → AskSomething words ⊎ (words ≡ codes "asm" ∷ [])
of_tool_entry entries words h (inl entry) =
    let it = of_entry entries words h entry in
    inl (Run it.0, it.1)
of_tool_entry entries words h (inr (inl (l, name, none))) = inl (lone_words l words (alone entries words h (lone_name l) name none))
of_tool_entry entries words h (inr (inr (inl (name, none)))) = inl (Verify Untold, alone entries words h (codes "verify") name none)
of_tool_entry entries words h (inr (inr (inr (name, none)))) = inr (alone entries words h (codes "asm") name none)

pub all_asked : (entries : List CommandForm) → AreToolEntries entries → (words : List (List ℕ))
    → AreCommandWords entries words → AskSomething words ⊎ (words ≡ codes "asm" ∷ [])
all_asked entries all words h =
    of_tool_entry entries words h
    (at_place IsToolEntry entries h.named.place h.command (All-from_recursion IsToolEntry entries all) h.named.at)
