use Rattle.std.proofs.Common.{List, ℕ, Contains, sym, ap, ◌∙◌, subst}
use Rattle.meta_setting_tables.specs.declared.descriptor.Detail.TheVariants.{Bool as BoolDetail}
use Rattle.meta_setting_tables.specs.EntryValues.{values_in, is_on}
use Rattle.meta_flags.specs.Served.{EnumValue}
use Rattle.meta_flags.proofs.SetLemmas.{is_text_of, no_text_of}
use Rattle.meta_flags.proofs.values.value_in.Goals as goal

pub returns-in_err-truth-in-Bool-clause-none : goal.returns-in_err-truth-in-Bool-clause-none
returns-in_err-truth-in-Bool-clause-none c =
    let d = c.args.entry.now in
    rw c.from_residual.ensures (no_text_of c.args.group.now d.offset d.detail _ c.args.word.now c.in-Bool.is
    (λ v. c.in_err-truth-in-Bool.ensures.none (is_on c.args.group.now.defaults d.offset (BoolDetail c.in-Bool.bit)) v))

pub returns-in_err-value-in-Enum-clause-none : goal.returns-in_err-value-in-Enum-clause-none
returns-in_err-value-in-Enum-clause-none c =
    let t = c.args.group.now in
    let d = c.args.entry.now in
    let own = c.values.ensures.entry d c.requires ∙ ap (values_in t.enumerators) c.in-Enum.is in
    rw c.from_residual-in_err-value-in-Enum.ensures
    (no_text_of t d.offset d.detail _ c.args.word.now c.in-Enum.is
    (λ v text. c.in_err-value-in-Enum.ensures.none (subst (λ (vs : List (List ℕ)). Contains vs c.args.word.now) (sym own) text.0)))

pub returns-in_ok-truth-in-Bool-clause-some : goal.returns-in_ok-truth-in-Bool-clause-some
returns-in_ok-truth-in-Bool-clause-some c =
    let d = c.args.entry.now in
    is_text_of c.args.group.now d.offset d.detail _ c.args.word.now _ c.in-Bool.is
    (c.in_ok-truth-in-Bool.ensures.some (is_on c.args.group.now.defaults d.offset (BoolDetail c.in-Bool.bit)))

pub returns-in_ok-value-in-Enum-clause-some : goal.returns-in_ok-value-in-Enum-clause-some
returns-in_ok-value-in-Enum-clause-some c =
    let t = c.args.group.now in
    let d = c.args.entry.now in
    let own = c.values.ensures.entry d c.requires ∙ ap (values_in t.enumerators) c.in-Enum.is in
    let h = c.in_ok-value-in-Enum.ensures.some in
    is_text_of t d.offset d.detail _ c.args.word.now _ c.in-Enum.is
    (subst (λ (vs : List (List ℕ)). Contains vs c.args.word.now) own h.1, ap EnumValue h.0)
