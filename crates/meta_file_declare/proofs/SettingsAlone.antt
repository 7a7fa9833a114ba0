-- Groups and entries alone declare no instruction set.
use Rattle.std.proofs.Common.{◌≡◌, ℕ, suc, ◌+◌, List, [], ◌∷◌, length, refl, ap, ◌∙◌, subst, arith}
use Rattle.std.specs.List.{AllZip}
use Rattle.meta_inst.specs.InstructionSet.{InstructionSet}
use Rattle.meta_build.specs.AllDeclared.{Declared}
use Rattle.meta_file_syntax.specs.declared.items.Item.{Item}
use Rattle.meta_file_syntax.specs.declared.items.Item.TheVariants as item
use Rattle.meta_file_declare.specs.Registered.{IsFormatIn, IsBuilderIn}
use Rattle.meta_file_declare.specs.Held.{meant_formats}
use Rattle.meta_file_declare.specs.SaidOfInsts.{Above, after, nothing_said, said_from, said}
use Rattle.meta_file_declare.specs.Places.{IsOfGroup, AreOfGroups}
use Rattle.meta_file_declare.specs.AllItems.{registry_of, Declares}

-- an item of a group adds nothing
adds_nothing : (a : Above) (place : ℕ) (i : Item) → IsOfGroup i → after a place i ≡ a
adds_nothing a place (item.Group n) h = refl
adds_nothing a place (item.Type i) h = absurd h
adds_nothing a place (item.Alias i) h = absurd h
adds_nothing a place (item.Kind i) h = absurd h
adds_nothing a place (item.Format i) h = absurd h
adds_nothing a place (item.Inst i) h = absurd h
adds_nothing a place (item.Bool i) h = refl
adds_nothing a place (item.Num i) h = refl
adds_nothing a place (item.Enum i) h = refl
adds_nothing a place (item.Preset i) h = refl

nothing_from : (a : Above) (place : ℕ) (items : List Item) → AreOfGroups items → said_from a place items ≡ a
nothing_from a place [] h = refl
nothing_from a place (i ∷ items) h =
    nothing_from (after a place i) (place + 1) items (λ k x at. h (suc k) x at) ∙ adds_nothing a place i (h 0 i refl)

no_elements : {X : Type 0} (xs : List X) → length xs ≡ 0 → xs ≡ []
no_elements [] l = refl
no_elements (x ∷ xs) l = absurd (omega (arith, l))

no_pairs : {X Y : Type 0} (R : X → Y → Type 0) (ys : List Y) → AllZip R [] ys → ys ≡ []
no_pairs R [] h = refl
no_pairs R (y ∷ ys) h = absurd h

pub no_set : (items : List Item) (d : Declared) → Declares items d → AreOfGroups items
    → d.set ≡ (let s : InstructionSet = record { vars = []; formats = []; instructions = [] } in s)
no_set items d h of =
    let none : said items ≡ nothing_said = nothing_from nothing_said 0 items of in
    let r = registry_of items d.set in
    let vars = no_elements d.set.vars (h.set.vars.count ∙ ap (λ (a : Above). length a.types.symbols) none) in
    let formats =
    no_pairs (IsFormatIn r) d.set.formats
    (subst (λ (a : Above). AllZip (IsFormatIn r) (meant_formats a.insts.formats) d.set.formats) none h.set.formats) in
    let insts =
    no_pairs (IsBuilderIn r) d.set.instructions
    (subst (λ (a : Above). AllZip (IsBuilderIn r) a.insts.insts d.set.instructions) none h.set.instructions) in
    λ i. record { vars = vars i; formats = formats i; instructions = insts i }
