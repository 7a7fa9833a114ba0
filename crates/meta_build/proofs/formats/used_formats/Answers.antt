use Rattle.std.proofs.Common.{◌≡◌, length, ℕ, ◌+◌, ◌<◌, ◌∙◌, sym, subst, arith}
use Rattle.std.proofs.lemmas.Result.{IfOk-from_err}
use Rattle.meta_inst.specs.Faults.{FormatNameRule, OfFormat, IsFirstFault}
use Rattle.meta_inst.proofs.OnlyMemory.{only_memory}
use Rattle.meta_build.specs.FormatsUsed.{AreUsedBefore, AreApart, AreOfTable, IsAmong, IsNotAmong, ClashesWithNone}
use Rattle.meta_build.specs.Searched.{IsCleanBefore}
use Rattle.meta_build.proofs.FirstFault.{passed_formats}
use Rattle.meta_build.proofs.Refusals.{handed_on}
use Rattle.meta_build.proofs.FormatSearch.{declared, of_here, used_again, clean_again, used_new, apart_more}
use Rattle.meta_build.proofs.formats.used_formats.Goals as goal

pub loop-place-preserved-then-contains : goal.loop-place-preserved-then-contains
loop-place-preserved-then-contains c =
    let among = subst (IsAmong c.loop-place.used.used.items) c.format-id.ensures c.if-contains.ensures in
    record {
      table = c.loop-place.invariant.table;
      indexed = c.loop-place.invariant.indexed;
      apart = c.loop-place.invariant.apart;
      used = λ vars. used_again (declared vars c.args.formats.now c.args.instructions.now) _ _ _
          (c.loop-place.invariant.used vars) c.get.ensures among;
      clean = λ vars start. clean_again (declared vars c.args.formats.now c.args.instructions.now) _ _ _
          (c.loop-place.invariant.used vars) c.get.ensures (c.loop-place.invariant.clean vars start) among;
    }

pub loop-place-preserved : goal.loop-place-preserved
loop-place-preserved c =
    let new = subst (IsNotAmong c.loop-place.used.used.items) c.format-id.ensures c.if-contains.ensures in
    let none = subst (ClashesWithNone c.args.formats.now c.loop-place.used.used.items)
    (sym c.in_ok-format.ensures.id) c.in_ok-format.ensures.apart in
    let added = c.in_ok-add.ensures.added in
    record {
      table = c.in_ok-add.ensures.formats ∙ c.loop-place.invariant.table;
      indexed = c.in_ok-add.ensures.indexed;
      apart = apart_more c.args.formats.now c.loop-place.used.used.items c.add.new.self.used.items _ c.loop-place.invariant.apart none
          added;
      used = λ vars.
          let d = declared vars c.args.formats.now c.args.instructions.now in
          subst (AreUsedBefore d (c.loop-place.place + 1)) (sym added)
          (used_new d _ _ _ (c.loop-place.invariant.used vars) c.get.ensures _ (c.in_ok-format.ensures.id ∙ c.format-id.ensures) new);
      clean = λ vars start. c.in_ok-format.ensures.clean vars c.args.instructions.now c.loop-place.place
          (record {
            user = c.get.result.now;
            at = c.get.ensures;
            uses = sym c.format-id.ensures;
            before = c.loop-place.invariant.used vars;
            new = c.if-contains.ensures;
            clean = c.loop-place.invariant.clean vars start;
          });
    }

pub returns-clause-clean : goal.returns-clause-clean
returns-clause-clean c = λ vars start.
    let end : c.loop-place.place ≡ length c.args.instructions.now = omega arith in
    let d = declared vars c.args.formats.now c.args.instructions.now in
    passed_formats d (subst (λ k. IsCleanBefore d (OfFormat k FormatNameRule)) end (c.loop-place.invariant.clean vars start))

pub returns-clause-used : goal.returns-clause-used
returns-clause-used c = λ vars.
    let end : c.loop-place.place ≡ length c.args.instructions.now = omega arith in
    let d = declared vars c.args.formats.now c.args.instructions.now in
    subst (AreUsedBefore d (length c.args.instructions.now)) (sym c.into_used.ensures)
    (subst (λ k. AreUsedBefore d k c.loop-place.used.used.items) end (c.loop-place.invariant.used vars))

pub returns-clause-of_table : goal.returns-clause-of_table
returns-clause-of_table c = subst (AreOfTable c.args.formats.now) (sym c.into_used.ensures)
    (subst (λ formats. AreOfTable formats c.loop-place.used.used.items) c.loop-place.invariant.table
    c.loop-place.invariant.indexed.of_table)

pub returns-clause-apart : goal.returns-clause-apart
returns-clause-apart c = subst (AreApart c.args.formats.now) (sym c.into_used.ensures) c.loop-place.invariant.apart

pub contains-requires-clause-of_table : goal.contains-requires-clause-of_table
contains-requires-clause-of_table c =
    let below = c.requires c.loop-place.place c.get.result.now c.get.ensures in
    subst (λ formats. c.format-id.result < length formats) (sym c.loop-place.invariant.table)
    (subst (λ f. f < length c.args.formats.now) (sym c.format-id.ensures) below)

pub next_used-requires-clause-below : goal.next_used-requires-clause-below
next_used-requires-clause-below c =
    let below = c.requires c.loop-place.place c.get.result.now c.get.ensures in
    subst (λ f. f < length c.args.formats.now) (sym c.format-id.ensures) below

pub returns-in_err-format-clause-refused : goal.returns-in_err-format-clause-refused
returns-in_err-format-clause-refused c = λ vars start.
    handed_on _ c.from_residual-in_err-format.result (IsFirstFault (declared vars c.args.formats.now c.args.instructions.now))
    c.from_residual-in_err-format.ensures.1
    (c.in_err-format.ensures.refused vars c.args.instructions.now c.loop-place.place
    (record {
      user = c.get.result.now;
      at = c.get.ensures;
      uses = sym c.format-id.ensures;
      before = c.loop-place.invariant.used vars;
      new = c.if-contains.ensures;
      clean = c.loop-place.invariant.clean vars start;
    }))

pub add-requires-clause-apart : goal.add-requires-clause-apart
add-requires-clause-apart c = of_here (λ formats f. ClashesWithNone formats c.loop-place.used.used.items f) _ _ _ _
    (sym c.loop-place.invariant.table) (sym c.in_ok-format.ensures.id) c.in_ok-format.ensures.apart

pub returns-in_err-add-clause-refused : goal.returns-in_err-add-clause-refused
returns-in_err-add-clause-refused c = λ vars start. only_memory c.from_residual-in_err-add.result _ c.from_residual-in_err-add.ensures.1

pub returns-in_err-used-clause-refused : goal.returns-in_err-used-clause-refused
returns-in_err-used-clause-refused c = λ vars start. only_memory c.from_residual.result _ c.from_residual.ensures.1

pub returns-in_err-used-clause-clean : goal.returns-in_err-used-clause-clean
returns-in_err-used-clause-clean c = λ vars start. IfOk-from_err c.from_residual.result _ c.from_residual.ensures.0

pub returns-in_err-used-clause-used : goal.returns-in_err-used-clause-used
returns-in_err-used-clause-used c = λ vars. IfOk-from_err c.from_residual.result _ c.from_residual.ensures.0

pub returns-in_err-used-clause-of_table : goal.returns-in_err-used-clause-of_table
returns-in_err-used-clause-of_table c = IfOk-from_err c.from_residual.result _ c.from_residual.ensures.0

pub returns-in_err-used-clause-apart : goal.returns-in_err-used-clause-apart
returns-in_err-used-clause-apart c = IfOk-from_err c.from_residual.result _ c.from_residual.ensures.0

pub returns-in_err-add-clause-clean : goal.returns-in_err-add-clause-clean
returns-in_err-add-clause-clean c = λ vars start.
    IfOk-from_err c.from_residual-in_err-add.result _ c.from_residual-in_err-add.ensures.0

pub returns-in_err-add-clause-used : goal.returns-in_err-add-clause-used
returns-in_err-add-clause-used c = λ vars. IfOk-from_err c.from_residual-in_err-add.result _ c.from_residual-in_err-add.ensures.0

pub returns-in_err-add-clause-of_table : goal.returns-in_err-add-clause-of_table
returns-in_err-add-clause-of_table c = IfOk-from_err c.from_residual-in_err-add.result _ c.from_residual-in_err-add.ensures.0

pub returns-in_err-add-clause-apart : goal.returns-in_err-add-clause-apart
returns-in_err-add-clause-apart c = IfOk-from_err c.from_residual-in_err-add.result _ c.from_residual-in_err-add.ensures.0

pub returns-clause-refused : goal.returns-clause-refused
returns-clause-refused c = λ vars start. tt

pub returns-in_err-format-clause-clean : goal.returns-in_err-format-clause-clean
returns-in_err-format-clause-clean c =
    λ vars start. IfOk-from_err c.from_residual-in_err-format.result _ c.from_residual-in_err-format.ensures.0

pub returns-in_err-format-clause-used : goal.returns-in_err-format-clause-used
returns-in_err-format-clause-used c = λ vars. IfOk-from_err c.from_residual-in_err-format.result _ c.from_residual-in_err-format.ensures.0

pub returns-in_err-format-clause-of_table : goal.returns-in_err-format-clause-of_table
returns-in_err-format-clause-of_table c = IfOk-from_err c.from_residual-in_err-format.result _ c.from_residual-in_err-format.ensures.0

pub returns-in_err-format-clause-apart : goal.returns-in_err-format-clause-apart
returns-in_err-format-clause-apart c = IfOk-from_err c.from_residual-in_err-format.result _ c.from_residual-in_err-format.ensures.0
