use Rattle.std.proofs.Common.{◌≡◌, ℕ, List, subst, rules}
use Rattle.meta_program.specs.File.{SaysWhy}
use Rattle.meta_program.specs.ShownPath.{shown_path}
use Rattle.meta_program.proofs.loading.load.Goals as goal

pub returns-clause-refused : goal.returns-clause-refused
returns-clause-refused c = λ message e.
    let is : c.as_bytes.result.now ≡ shown_path c.args.path.now = search rules in
    subst (λ (shown : List ℕ). SaysWhy shown c.args.text.now message) is (c.loaded.ensures.refused message e)

pub returns-clause-only : goal.returns-clause-only
returns-clause-only c = λ d message declares valid e.
    let is : c.as_bytes.result.now ≡ shown_path c.args.path.now = search rules in
    c.a_text_declares_one_thing.ensures.refused c.args.path.now c.args.text.now message d
    (subst (λ (shown : List ℕ). SaysWhy shown c.args.text.now message) is (c.loaded.ensures.refused message e)) declares valid
