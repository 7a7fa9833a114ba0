-- Where items end, nothing goes on with any item.
use Rattle.std.proofs.Common.{◌≡◌, ℕ, Bool, true, false, List, [], ◌∷◌, Option, Some, None, refl, codes}
use Rattle.meta_file_syntax.specs.declared.token.Token.{Token}
use Rattle.meta_file_syntax.specs.declared.token.Token.TheVariants.{Key, Word, Quoted, Sign, Doc, Stray}
use Rattle.meta_file_syntax.specs.declared.name.Name.{Name}
use Rattle.meta_types.specs.declared.derived_func.DerivedFunc.{DerivedFunc}
use Rattle.meta_file_syntax.specs.declared.types.TypeExpr.{TypeExpr}
use Rattle.meta_file_syntax.specs.declared.types.Members.{Members}
use Rattle.meta_file_syntax.specs.declared.types.Members.TheVariants as members
use Rattle.meta_file_syntax.specs.declared.types.SetExpr.{SetExpr}
use Rattle.meta_file_syntax.specs.declared.types.SetExpr.TheVariants as sets
use Rattle.meta_file_syntax.specs.declared.formats.Slot.{Slot}
use Rattle.meta_file_syntax.specs.declared.insts.Operand.{Operand}
use Rattle.meta_file_syntax.specs.declared.insts.Mark.{Mark}
use Rattle.meta_file_syntax.specs.declared.items.Item.{Item}
use Rattle.meta_file_syntax.specs.declared.items.Item.TheVariants as item
use Rattle.meta_file_reader.specs.Parts.{word_first, sign_first, quoted_first, digit_first}
use Rattle.meta_file_reader.specs.Apart.{OfLast, FunctionsApart, HighApart, SpanApart, MembersApart, PartApart, SetApart, FieldApart}
use Rattle.meta_file_reader.specs.Apart.{SlotsApart, TextApart, OperandApart, OutputsApart, InstApart, Apart}

-- what each is, the last is
pub of_last : {A : Type 0} (Good : A → Type 0) → ((x : A) → Good x) → (xs : List A) → OfLast Good xs
of_last Good each [] = tt
of_last Good each (x ∷ []) = each x
of_last Good each (x ∷ y ∷ ys) = of_last Good each (y ∷ ys)

-- nothing follows, or a keyword, or documentation
abbrev pub ends : List Token → Bool
ends [] = true
ends (Key k ∷ ts) = true
ends (Word w ∷ ts) = false
ends (Quoted t ∷ ts) = false
ends (Sign c ∷ ts) = false
ends (Doc d ∷ ts) = true
ends (Stray f ∷ ts) = false

pub ends_text : (ts : List Token) → ends ts ≡ true → quoted_first ts ≡ false
ends_text [] e = refl
ends_text (Key k ∷ ts) e = refl
ends_text (Word w ∷ ts) e = refl
ends_text (Quoted t ∷ ts) e = absurd cc
ends_text (Sign c ∷ ts) e = refl
ends_text (Doc d ∷ ts) e = refl
ends_text (Stray f ∷ ts) e = refl

ends_sign : (s : ℕ) (ts : List Token) → ends ts ≡ true → sign_first s ts ≡ false
ends_sign s [] e = refl
ends_sign s (Key k ∷ ts) e = refl
ends_sign s (Word w ∷ ts) e = refl
ends_sign s (Quoted t ∷ ts) e = refl
ends_sign s (Sign c ∷ ts) e = absurd cc
ends_sign s (Doc d ∷ ts) e = refl
ends_sign s (Stray f ∷ ts) e = refl

ends_digit : (ts : List Token) → ends ts ≡ true → digit_first ts ≡ false
ends_digit [] e = refl
ends_digit (Key k ∷ ts) e = refl
ends_digit (Word w ∷ ts) e = absurd cc
ends_digit (Quoted t ∷ ts) e = refl
ends_digit (Sign c ∷ ts) e = refl
ends_digit (Doc d ∷ ts) e = refl
ends_digit (Stray f ∷ ts) e = refl

ends_word : (v : List ℕ) (ts : List Token) → ends ts ≡ true → word_first v ts ≡ false
ends_word v [] e = refl
ends_word v (Key k ∷ ts) e = refl
ends_word v (Word w ∷ ts) e = absurd cc
ends_word v (Quoted t ∷ ts) e = refl
ends_word v (Sign c ∷ ts) e = refl
ends_word v (Doc d ∷ ts) e = refl
ends_word v (Stray f ∷ ts) e = refl

-- ---- parts

functions_end : (fs : List DerivedFunc) (ts : List Token) → ends ts ≡ true → FunctionsApart fs ts
functions_end [] ts e = ends_sign 40 ts e
functions_end (f ∷ fs) ts e = tt

high_end : (h : Option ℕ) (ts : List Token) → ends ts ≡ true → HighApart h ts
high_end None ts e = ends_sign 46 ts e
high_end (Some n) ts e = tt

members_end : (m : Members) (ts : List Token) → ends ts ≡ true → MembersApart m ts
members_end members.All ts e = tt
members_end members.Nothing ts e = tt
members_end (members.Spans ss) ts e = (ends_digit ts e, of_last (λ s. SpanApart s ts) (λ s. high_end s.high ts e) ss)

set_end : (s : SetExpr) (ts : List Token) → ends ts ≡ true → SetApart s ts
set_end (sets.Parts ps) ts e = (ends_sign 44 ts e, of_last (λ p. PartApart p ts) (λ p. members_end p.members ts e) ps)
set_end (sets.Like w) ts e = tt

field_end : (f : Option Name) (ts : List Token) → ends ts ≡ true → FieldApart f ts
field_end None ts e = ends_word (codes "field") ts e
field_end (Some n) ts e = tt

slots_end : (ss : List Slot) (ts : List Token) → ends ts ≡ true → SlotsApart ss ts
slots_end [] ts e = tt
slots_end (s ∷ ss) ts e = ends_sign 44 ts e

text_end : (c : Option (List ℕ)) (t : TypeExpr) (ts : List Token) → ends ts ≡ true → TextApart c t ts
text_end None t ts e = (ends_text ts e, functions_end t.functions ts e)
text_end (Some text) t ts e = tt

outputs_end : (os : List Operand) (ts : List Token) → ends ts ≡ true → OutputsApart os ts
outputs_end [] ts e = ends_sign 45 ts e
outputs_end (o ∷ os) ts e =
    (ends_sign 44 ts e, of_last (λ p. OperandApart p ts) (λ p. text_end p.text p.what ts e) (o ∷ os))

inst_end : (os : List Operand) (ms : Option (List Mark)) (ts : List Token) → ends ts ≡ true → InstApart os ms ts
inst_end os None ts e = (ends_sign 91 ts e, outputs_end os ts e)
inst_end os (Some ms) ts e = tt

-- nothing goes on with an item there
pub ends_apart : (i : Item) (ts : List Token) → ends ts ≡ true → Apart i ts
ends_apart (item.Type i) ts e = set_end i.set ts e
ends_apart (item.Alias i) ts e = functions_end i.means.functions ts e
ends_apart (item.Kind i) ts e = field_end i.field ts e
ends_apart (item.Format i) ts e = slots_end i.slots ts e
ends_apart (item.Inst i) ts e = inst_end i.outputs i.marks ts e
ends_apart (item.Group n) ts e = tt
ends_apart (item.Bool i) ts e = tt
ends_apart (item.Num i) ts e = tt
ends_apart (item.Enum i) ts e = tt
ends_apart (item.Preset i) ts e = tt
