use Rattle.std.proofs.Common.{◌↔◌, ℕ, List, All, Bool, Result, Ok, Err, IfOk, IsTrue, sym, ◌∙◌, rules}
use Rattle.std.specs.declared.alloc.AllocError.{AllocError}
use Rattle.std.proofs.lemmas.Bool.{false≢true}
use Rattle.meta_types.specs.Name.{IsName}
use Rattle.meta_types.specs.SharedNames.{AreDistinct}
use Rattle.meta_settings.specs.GroupFaults.{IsPlainByte}
use Rattle.meta_setting_tables.specs.declared.descriptor.Descriptor.{Descriptor}
use Rattle.meta_setting_tables.specs.GroupTables.{names_in}
use Rattle.meta_setting_tables.specs.WellFormed.{AreWellNamed}
use Rattle.meta_setting_tables.proofs.names.are_well_named.Goals as goal

-- where there are names, and descriptions need no escape, all is well named where the names of the entries are distinct
named_where : (name : List ℕ) (entries : List Descriptor) (enumerators : List (List ℕ)) (r : Result Bool AllocError)
    → IsName name → All (λ (d : Descriptor). IsName d.name) entries → All IsName enumerators
    → All (λ (d : Descriptor). All IsPlainByte d.description) entries
    → IfOk r (λ b. IsTrue b ↔ AreDistinct (names_in entries)) → IfOk r (λ b. IsTrue b ↔ AreWellNamed name entries enumerators)
named_where name entries enumerators (Err e) group names values plain h = tt
named_where name entries enumerators (Ok b) group names values plain h = (
  λ t. record {
    group_name = group;
    entry_names = names;
    enumerator_names = values;
    descriptions = plain;
    distinct = h.0 t;
  },
  λ all. h.1 all.distinct,
)

pub returns : goal.returns
returns c =
    let names : IsTrue c.all.result ↔ All (λ (d : Descriptor). IsName d.name) c.args.entries.now = search rules in
    let plain : IsTrue c.all-2.result ↔ All (λ (d : Descriptor). All IsPlainByte d.description) c.args.entries.now = search rules in
    named_where c.args.name.now c.args.entries.now c.args.enumerators.now c.have_distinct_names.result
    (c.is_name.ensures.0 c.if-not-is_name.false) (names.0 c.if-not-all.false)
    (c.are_names.ensures.0 c.if-not-are_names.false) (plain.0 c.if-not-all-2.false) c.have_distinct_names.ensures

pub returns-then-not-is_name : goal.returns-then-not-is_name
returns-then-not-is_name c =
    (λ t. absurd (false≢true t), λ all. absurd (false≢true (sym c.if-not-is_name.true ∙ c.is_name.ensures.1 all.group_name)))

pub returns-then-not-all : goal.returns-then-not-all
returns-then-not-all c =
    let names : IsTrue c.all.result ↔ All (λ (d : Descriptor). IsName d.name) c.args.entries.now = search rules in
    (λ t. absurd (false≢true t), λ all. absurd (false≢true (sym c.if-not-all.true ∙ names.1 all.entry_names)))

pub returns-then-not-are_names : goal.returns-then-not-are_names
returns-then-not-are_names c =
    (λ t. absurd (false≢true t), λ all. absurd (false≢true (sym c.if-not-are_names.true ∙ c.are_names.ensures.1 all.enumerator_names)))

pub returns-then-not-all-2 : goal.returns-then-not-all-2
returns-then-not-all-2 c =
    let plain : IsTrue c.all-2.result ↔ All (λ (d : Descriptor). All IsPlainByte d.description) c.args.entries.now = search rules in
    (λ t. absurd (false≢true t), λ all. absurd (false≢true (sym c.if-not-all-2.true ∙ plain.1 all.descriptions)))
