-- The formats of built declarations are of the table.
use Rattle.std.proofs.Common.{◌≡◌, ◌<◌, ℕ, ◌+◌, suc, get_or, drop, drop-cons, add-one, List, [], ◌∷◌, ◌++◌, append_assoc, length, map}
use Rattle.std.proofs.Common.{slice_get, Option, Some, Bor, sym, ap, ap₂, ◌∙◌, subst}
use Rattle.std.specs.List.{filter_map, cons_option}
use Rattle.std.proofs.lemmas.List.{map-append}
use Rattle.meta_operands.specs.declared.format.InstructionFormat.{InstructionFormat}
use Rattle.meta_inst.specs.Built.{BuiltInstruction}
use Rattle.meta_inst.specs.InstructionSet.{InstructionSet, AreOfRegistries}
use Rattle.meta_build.specs.BuiltInstructions.{AreInstructionsOf}
use Rattle.meta_build.specs.FormatsByName.{AreFormatsByName}
use Rattle.meta_rust_insts.specs.OpcodesText.{HaveFormats}

-- the format of each instruction is of the table
pub have_formats : (d : InstructionSet) (cs : List BuiltInstruction) → AreInstructionsOf d cs
    → AreOfRegistries d.vars d.formats d.instructions → HaveFormats d.formats cs
have_formats d cs are fits k c at =
    let built = are.each k c at in
    let same : c.format ≡ built.builder.format = ap (λ (x : BuiltInstruction). x.format) built.is.content in
    subst (λ n. n < length d.formats) (sym same) (fits k built.builder built.at).format

-- the format of the first instruction is of the table, and so are those of the others
pub first_has : (formats : List InstructionFormat) (cs rest : List BuiltInstruction) (c : BuiltInstruction)
    → cs ≡ c ∷ rest → HaveFormats formats cs → c.format < length formats
first_has formats cs rest c are have = have 0 c (ap (λ xs. slice_get xs 0) are)

pub later_have : (formats : List InstructionFormat) (cs rest : List BuiltInstruction) (c : BuiltInstruction)
    → cs ≡ c ∷ rest → HaveFormats formats cs → HaveFormats formats rest
later_have formats cs rest c are have = λ k x at. have (suc k) x (ap (λ xs. slice_get xs (suc k)) are ∙ at)

-- each format in use is of the table
pub used_within : (d : InstructionSet) (ids : List ℕ) → AreFormatsByName d ids
    → AreOfRegistries d.vars d.formats d.instructions → (k f : ℕ) → slice_get ids k ≡ Some f → f < length d.formats
used_within d ids are fits k f at =
    let used = are.in_use k f at in
    subst (λ n. n < length d.formats) used.uses (fits used.place used.user used.at).format

-- what is left of a list begins with what is read there
pub left_there : {X : Type 0} (xs : List X) (i : ℕ) (x : X) → i < length xs → x ≡ get_or xs i x → drop i xs ≡ x ∷ drop (i + 1) xs
left_there xs i x inside read = drop-cons xs i x inside ∙ ap₂ (λ y ys. y ∷ ys) (sym read) (ap (λ k. drop k xs) (sym (add-one i)))

-- one more format is found
pub one_found : {X : Type 0} (find : ℕ → Option X) (old new : List (Bor X)) (found : Bor X) (id : ℕ)
    (left rest : List ℕ) (whole : List X) → left ≡ id ∷ rest → find id ≡ Some found.now → new ≡ old ++ found ∷ []
    → map (λ (b : Bor X). b.now) old ++ filter_map find left ≡ whole → map (λ (b : Bor X). b.now) new ++ filter_map find rest ≡ whole
one_found {X} find old new found id left rest whole begins is more so =
    let now = λ (b : Bor X). b.now in
    ap (λ v. map now v ++ filter_map find rest) more
    ∙ ap (λ v. v ++ filter_map find rest) (map-append now old (found ∷ []))
    ∙ append_assoc (map now old) (found.now ∷ []) (filter_map find rest)
    ∙ sym (ap (λ o. map now old ++ cons_option o (filter_map find rest)) is)
    ∙ sym (ap (λ ids. map now old ++ filter_map find ids) begins)
    ∙ so
