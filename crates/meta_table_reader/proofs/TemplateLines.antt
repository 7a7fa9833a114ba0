-- The lines of the template of a group.
use Rattle.std.proofs.Common.{◌≡◌, ℕ, true, IsTrue, List, [], ◌∷◌, ◌++◌, All, codes, append_assoc, refl, sym, ap, ◌∙◌}
use Rattle.std.specs.List.{flat_map}
use Rattle.std.proofs.lemmas.Bool.{and_from}
use Rattle.meta_types.specs.Name.{IsName}
use Rattle.meta_table_text.specs.GroupItems.{template_text}
use Rattle.meta_table_reader.specs.Spans.{is_line}
use Rattle.meta_table_reader.proofs.Lacking.{line_after}
use Rattle.meta_table_reader.proofs.SetLines.{are_lines}
use Rattle.meta_table_reader.proofs.NameBytes.{name_lacks_end}

regroup : (a b c d e : List ℕ) → (a ++ (b ++ (c ++ d))) ++ e ≡ a ++ (b ++ (c ++ (d ++ e)))
regroup a b c d e = simp append_assoc

regroup_lines : (a b c d : List ℕ) → ((a ++ b) ++ c) ++ d ≡ a ++ (b ++ (c ++ d))
regroup_lines a b c d = simp append_assoc

abbrev name_line : List ℕ → List ℕ
name_line name = codes "    name: \"" ++ (name ++ codes "\",\n")

-- those before the default bytes
abbrev pub template_lines : List ℕ → List (List ℕ)
template_lines name = codes "static TEMPLATE: detail::Template = detail::Template {\n"
    ∷ (name_line name ∷ (codes "    descriptors: &DESCRIPTORS,\n"
    ∷ codes "    enumerators: &ENUMERATORS,\n" ∷ codes "    hash_table: &HASH_TABLE,\n" ∷ []))

pub template_lines_are : (name : List ℕ) → IsName name → All (λ line. IsTrue (is_line line)) (template_lines name)
template_lines_are name is =
    are_lines (template_lines name)
    (and_from (is_line (name_line name)) true (line_after name (codes "\",\n") (name_lacks_end name is) refl) refl)

-- what stands before the default bytes, and after them
abbrev pub before_defaults : List ℕ
before_defaults = codes "    defaults: &["

abbrev pub after_defaults : List ℕ
after_defaults = codes "],\n    presets: &PRESETS,\n}\n;\n"

-- the template, and then the rest
pub template_opened : (name shown rest : List ℕ)
    → template_text name shown ++ rest ≡ flat_map (λ line. line) (template_lines name)
    ++ (before_defaults ++ (shown ++ (after_defaults ++ rest)))
unfolding template_text
template_opened name shown rest =
    let head : List ℕ → List ℕ = λ w. codes "static TEMPLATE: detail::Template = detail::Template {\n    name: \"" ++ w in
    let middle : List ℕ = codes "    descriptors: &DESCRIPTORS,\n    enumerators: &ENUMERATORS,\n    hash_table: &HASH_TABLE,\n" in
    ap head (regroup name (codes
    "\",\n    descriptors: &DESCRIPTORS,\n    enumerators: &ENUMERATORS,\n    hash_table: &HASH_TABLE,\n    defaults: &[") shown
    after_defaults rest)
    ∙ ap head (sym (regroup_lines name (codes "\",\n") middle (before_defaults ++ (shown ++ (after_defaults ++ rest)))))
