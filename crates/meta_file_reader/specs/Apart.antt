-- What stands after an item doesn't go on with it: its first token isn't one that the item could have next.
use Rattle.std.specs.Prelude.{◌≡◌, ℕ, false, List, [], ◌∷◌, Option, Some, None, codes}
use Rattle.meta_file_syntax.specs.declared.token.Token.{Token}
use Rattle.meta_file_syntax.specs.declared.name.Name.{Name}
use Rattle.meta_types.specs.declared.derived_func.DerivedFunc.{DerivedFunc}
use Rattle.meta_file_syntax.specs.declared.types.TypeExpr.{TypeExpr}
use Rattle.meta_file_syntax.specs.declared.types.Span.{Span}
use Rattle.meta_file_syntax.specs.declared.types.Members.{Members}
use Rattle.meta_file_syntax.specs.declared.types.Members.TheVariants as members
use Rattle.meta_file_syntax.specs.declared.types.Part.{Part}
use Rattle.meta_file_syntax.specs.declared.types.SetExpr.{SetExpr}
use Rattle.meta_file_syntax.specs.declared.types.SetExpr.TheVariants as sets
use Rattle.meta_file_syntax.specs.declared.formats.Slot.{Slot}
use Rattle.meta_file_syntax.specs.declared.insts.Operand.{Operand}
use Rattle.meta_file_syntax.specs.declared.insts.Mark.{Mark}
use Rattle.meta_file_syntax.specs.declared.items.Item.{Item}
use Rattle.meta_file_syntax.specs.declared.items.Item.TheVariants as item
use Rattle.meta_file_reader.specs.Parts.{word_first, sign_first, quoted_first, digit_first}

-- the last one, if there is one
abbrev pub OfLast : {A : Type 0} → (A → Type 0) → List A → Type 0
OfLast Good [] = Unit {0}
OfLast Good (x ∷ []) = Good x
OfLast Good (x ∷ y ∷ ys) = OfLast Good (y ∷ ys)

-- a word goes on with `(`; after the `)` of a function a type has ended
abbrev pub FunctionsApart : List DerivedFunc → List Token → Type 0
FunctionsApart [] ts = sign_first 40 ts ≡ false
FunctionsApart (f ∷ fs) ts = Unit {0}

abbrev pub TypeApart : TypeExpr → List Token → Type 0
TypeApart t ts = FunctionsApart t.functions ts

-- a number goes on with `..`; after the upper end a range has ended
abbrev pub HighApart : Option ℕ → List Token → Type 0
HighApart None ts = sign_first 46 ts ≡ false
HighApart (Some n) ts = Unit {0}

abbrev pub SpanApart : Span → List Token → Type 0
SpanApart s ts = HighApart s.high ts

-- numbers go on with one more, and the last of them with `..`; `all` and `none` with nothing
abbrev pub MembersApart : Members → List Token → Type 0
MembersApart members.All ts = Unit {0}
MembersApart members.Nothing ts = Unit {0}
MembersApart (members.Spans ss) ts = (digit_first ts ≡ false) × OfLast (λ s. SpanApart s ts) ss

abbrev pub PartApart : Part → List Token → Type 0
PartApart p ts = MembersApart p.members ts

-- parts go on with `,`, and the last of them with what it has
abbrev pub SetApart : SetExpr → List Token → Type 0
SetApart (sets.Parts ps) ts = (sign_first 44 ts ≡ false) × OfLast (λ p. PartApart p ts) ps
SetApart (sets.Like w) ts = Unit {0}

-- a kind without `field` goes on with it
abbrev pub FieldApart : Option Name → List Token → Type 0
FieldApart None ts = word_first (codes "field") ts ≡ false
FieldApart (Some n) ts = Unit {0}

-- what a format stores goes on with `,`; `none` goes on with nothing
abbrev pub SlotsApart : List Slot → List Token → Type 0
SlotsApart [] ts = Unit {0}
SlotsApart (s ∷ ss) ts = sign_first 44 ts ≡ false

-- an operand without a text goes on with one, and its type with `(`
abbrev pub TextApart : Option (List ℕ) → TypeExpr → List Token → Type 0
TextApart None t ts = (quoted_first ts ≡ false) × TypeApart t ts
TextApart (Some text) t ts = Unit {0}

abbrev pub OperandApart : Operand → List Token → Type 0
OperandApart o ts = TextApart o.text o.what ts

-- outputs go on with `,`, and the last of them with what it has; where none is, the `-` of an arrow goes on
abbrev pub OutputsApart : List Operand → List Token → Type 0
OutputsApart [] ts = sign_first 45 ts ≡ false
OutputsApart (o ∷ os) ts = (sign_first 44 ts ≡ false) × OfLast (λ p. OperandApart p ts) (o ∷ os)

-- an instruction without marks goes on with `[`, and with what its outputs go on
abbrev pub InstApart : List Operand → Option (List Mark) → List Token → Type 0
InstApart os None ts = (sign_first 91 ts ≡ false) × OutputsApart os ts
InstApart os (Some ms) ts = Unit {0}

-- A group and a setting end, whatever comes after them: at most a text goes on with a setting, which is its comment, and ends it. What goes
-- on with another item can be more than one token. If the first of them stands without the others, no item is read, although one stands in
-- front of it.
abbrev pub Apart : Item → List Token → Type 0
Apart (item.Type i) ts = SetApart i.set ts
Apart (item.Alias i) ts = TypeApart i.means ts
Apart (item.Kind i) ts = FieldApart i.field ts
Apart (item.Format i) ts = SlotsApart i.slots ts
Apart (item.Inst i) ts = InstApart i.outputs i.marks ts
Apart (item.Group n) ts = Unit {0}
Apart (item.Bool i) ts = Unit {0}
Apart (item.Num i) ts = Unit {0}
Apart (item.Enum i) ts = Unit {0}
Apart (item.Preset i) ts = Unit {0}

-- what comes after some items doesn't go on with the last one
abbrev pub LastApart : List Item → List Token → Type 0
LastApart is ts = OfLast (λ i. Apart i ts) is
