use Rattle.std.proofs.Common.{◌∙◌, ◌||◌, ◌++◌, ℕ, List, None, Some, Bool, sym, ap, ap₂, codes}
use Rattle.std.specs.Fmt.{decimal}
use Rattle.std.specs.List.{list_any, range_with_len}
use Rattle.std.proofs.lemmas.Bool.Decides.{Decides-eqb}
use Rattle.std.proofs.lemmas.Slice.Eq.{strip_prefix_is}
use Rattle.meta_operands.specs.Texts.{same_text}
use Rattle.meta_rust_names.specs.Forms.{raw_form}
use Rattle.meta_rust_names.proofs.Numbers.{after_front, no_front, one_of_two}
use Rattle.meta_rust_names.proofs.names.is_numbered.Goals as goal

pub returns-then-is_stem_numbered : goal.returns-then-is_stem_numbered
returns-then-is_stem_numbered c =
    let text : ℕ → List ℕ = λ number. c.args.stem.now ++ decimal number in
    let later = list_any (λ number. same_text (raw_form (text number)) c.args.name.now) (range_with_len 0 c.args.count) in
    ap (λ b. b || later) (sym c.if-is_stem_numbered.true ∙ c.is_stem_numbered.ensures)
    ∙ sym (one_of_two (λ number. same_text (text number) c.args.name.now)
    (λ number. same_text (raw_form (text number)) c.args.name.now) (range_with_len 0 c.args.count))

pub returns-in-Some : goal.returns-in-Some
returns-in-Some c =
    let text : ℕ → List ℕ = λ number. c.args.stem.now ++ decimal number in
    let stripped = strip_prefix_is Decides-eqb c.args.name.now c.as_slice.result.now (Some c.in-Some.word) c.in-Some.ensures.cases
    ∙ ap (λ (front : List ℕ). front ++ c.in-Some.word.now) c.as_slice.ensures in
    ap₂ (λ (a b : Bool). a || b) (sym c.if-is_stem_numbered.false ∙ c.is_stem_numbered.ensures)
    (c.is_stem_numbered-in-Some.ensures ∙ after_front (codes "r#") c.in-Some.word.now c.args.name.now text c.args.count stripped)
    ∙ sym (one_of_two (λ number. same_text (text number) c.args.name.now)
    (λ number. same_text (raw_form (text number)) c.args.name.now) (range_with_len 0 c.args.count))

pub returns-in-None : goal.returns-in-None
returns-in-None c =
    let text : ℕ → List ℕ = λ number. c.args.stem.now ++ decimal number in
    let stripped = strip_prefix_is Decides-eqb c.args.name.now c.as_slice.result.now None c.in-None.ensures.cases in
    ap₂ (λ (a b : Bool). a || b) (sym c.if-is_stem_numbered.false ∙ c.is_stem_numbered.ensures)
    (no_front (codes "r#") c.args.name.now text c.args.count
    (λ rest e. stripped rest (e ∙ ap (λ (front : List ℕ). front ++ rest) (sym c.as_slice.ensures))))
    ∙ sym (one_of_two (λ number. same_text (text number) c.args.name.now)
    (λ number. same_text (raw_form (text number)) c.args.name.now) (range_with_len 0 c.args.count))
