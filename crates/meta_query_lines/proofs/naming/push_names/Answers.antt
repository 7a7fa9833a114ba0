use Rattle.std.proofs.Common.{◌≡◌, ◌++◌, List, ℕ, OnOk, string_bytes, sym, ◌∙◌, subst}
use Rattle.std.specs.Option.{option_map}
use Rattle.meta_query_lines.specs.Explanation.{AreNames, AreOfWord}
use Rattle.meta_query_lines.specs.Told.{told_by}
use Rattle.meta_query_lines.proofs.naming.push_names.Goals as goal

pub returns-in_default : goal.returns-in_default
returns-in_default c =
    subst (λ o. OnOk c.push_listed.result ((text : List ℕ) × AreNames c.args.tables.now
    (told_by c.args.told) (option_map (λ name. name.now) o) text
    × (string_bytes c.push_listed.new.out ≡ string_bytes c.args.out.now ++ text))) (sym c.in_default.is) c.push_listed.ensures

pub returns-in-Some-mark_named : goal.returns-in-Some-mark_named
returns-in-Some-mark_named c =
    let told = told_by c.args.told in
    subst (λ o. OnOk c.push_listed-in-Some-mark_named.result ((text : List ℕ) × AreNames c.args.tables.now told (option_map (λ name. name.now) o) text
    × (string_bytes c.push_listed-in-Some-mark_named.new.out ≡ string_bytes c.args.out.now ++ text))) (sym c.in-Some.is)
    (subst (λ p. OnOk c.push_listed-in-Some-mark_named.result ((text : List ℕ) × AreOfWord c.args.tables.now told c.in-Some.name.now p text
    × (string_bytes c.push_listed-in-Some-mark_named.new.out ≡ string_bytes c.args.out.now ++ text)))
    (sym c.in-Some-mark_named.is ∙ c.mark_named.ensures) c.push_listed-in-Some-mark_named.ensures)

pub returns-in-None : goal.returns-in-None
returns-in-None c =
    let told = told_by c.args.told in
    subst (λ o. OnOk c.push_of_format.result ((text : List ℕ) × AreNames c.args.tables.now told (option_map (λ name. name.now) o) text
    × (string_bytes c.push_of_format.new.out ≡ string_bytes c.args.out.now ++ text))) (sym c.in-Some.is)
    (subst (λ p. OnOk c.push_of_format.result ((text : List ℕ) × AreOfWord c.args.tables.now told c.in-Some.name.now p text
    × (string_bytes c.push_of_format.new.out ≡ string_bytes c.args.out.now ++ text)))
    (sym c.in-None.is ∙ c.mark_named.ensures) c.push_of_format.ensures)
