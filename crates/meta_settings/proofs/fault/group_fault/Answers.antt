use Rattle.std.proofs.Common.{ap, ◌≡◌, ◌∙◌, inl, inr, ⊎_elim, subst, arith, refl, sym}
use Rattle.std.proofs.lemmas.Bool.{false≢true}
use Rattle.meta_types.specs.Name.{IsName}
use Rattle.meta_settings.specs.GroupDeclaration.{GroupDeclaration, boolean_count}
use Rattle.meta_settings.specs.GroupFaults.{HasTooMany, OfGroupName, OfCounts}
use Rattle.meta_settings.proofs.Rules.{before_all, passed_name, passed_counts}
use Rattle.meta_settings.proofs.fault.group_fault.Goals as goal

pub returns-then-not-is_name : goal.returns-then-not-is_name
returns-then-not-is_name c =
    let name = ap (λ (d : GroupDeclaration). d.name) c.builder.view_is in
    record {
      position = OfGroupName;
      shows = (refl, λ named. false≢true (sym c.if-not-is_name.true ∙ c.is_name.ensures.1 (subst IsName (sym name) named)));
      first = before_all c.args.builder.now c.args.group;
    }

pub entries_fault-requires : goal.entries_fault-requires
entries_fault-requires c =
    let name = ap (λ (d : GroupDeclaration). d.name) c.builder.view_is in
    passed_name c.args.builder.now (subst IsName name (c.is_name.ensures.0 c.if-not-is_name.false))

pub returns-then-booleans-gt-MAX_BOOLEANS : goal.returns-then-booleans-gt-MAX_BOOLEANS
returns-then-booleans-gt-MAX_BOOLEANS c =
    let d = c.args.builder.now in
    let booleans : c.from-booleans.result ≡ boolean_count d = c.from-booleans.ensures ∙ c.boolean_count.ensures in
    let bytes = c.byte_count-bytes.ensures in
    let entries = c.entry_count-entries.ensures in
    let many : HasTooMany d = ⊎_elim (λ l. inl (omega (arith, l)))
    (⊎_elim (λ l. inr (inl (omega (arith, l.1)))) (λ l. inr (inr (omega (arith, l.2))))) c.then-booleans-gt-MAX_BOOLEANS.either in
    record {
      position = OfCounts;
      shows = (rw (booleans, bytes, entries) refl, many);
      first = (rw c.in_default.is at c.in_ok-fault.ensures) c.args.group;
    }

pub returns : goal.returns
returns c =
    let d = c.args.builder.now in
    let booleans : c.from-booleans.result ≡ boolean_count d = c.from-booleans.ensures ∙ c.boolean_count.ensures in
    let bytes = c.byte_count-bytes.ensures in
    let entries = c.entry_count-entries.ensures in
    let few_booleans = c.if-booleans-gt-MAX_BOOLEANS.false in
    let few_bytes = c.if-bytes-gt-MAX_BYTES.false in
    let few_entries = c.if-entries-gt-MAX_ENTRIES.false in
    passed_counts d (rw c.in_default.is at c.in_ok-fault.ensures)
    (⊎_elim (λ l. omega (arith, l)) (⊎_elim (λ l. omega (arith, l)) (λ l. omega (arith, l))))
