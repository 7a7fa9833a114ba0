use Rattle.std.proofs.lemmas.Result.{IfOk-from_err, IfOk-weaker}
use Rattle.meta_typevar.specs.Registry.{HoldTypeSets}
use Rattle.std.proofs.Common.{◌≡◌, map, ap, ◌∙◌, List, []}
use Rattle.meta_lists.proofs.Results.{both_ok}
use Rattle.meta_inst.specs.Builder.{Builder}
use Rattle.meta_build.specs.AllDeclared.{Declared}
use Rattle.meta_gen.specs.TablesOf.{AreTablesOf}
use Rattle.meta_gen.proofs.Made.{parts_made, tables_made}
use Rattle.meta_gen.proofs.Valid.{valid_parts}
use Rattle.meta_gen.proofs.Decoded.{tables_of_mean}
use Rattle.meta_gen.proofs.Inferring.{results_of_mean}
use Rattle.meta_gen.specs.Contents.{OpcodeNames, contents_of}
use Rattle.meta_gen.proofs.opcode_tables.OpcodeTables.of.Goals as goal

-- the declared instructions that were read
instructions_are : (read : List Builder) (given declared : Declared) → read ≡ given.set.instructions
    → given ≡ declared → read ≡ declared.set.instructions
instructions_are read given declared is e = is ∙ ap (λ (x : Declared). x.set.instructions) e

pub entries-requires-clause-variables : goal.entries-requires-clause-variables
entries-requires-clause-variables c = c.vars.ensures.vars
    ∙ ap (λ (x : Declared). x.set.vars) c.declarations-declarations.ensures.declarations

pub entries-requires-clause-registry : goal.entries-requires-clause-registry
entries-requires-clause-registry c = rw c.vars.ensures.vars c.vars.ensures.registry

pub entries-requires-clause-fits : goal.entries-requires-clause-fits
entries-requires-clause-fits c = rw c.declarations-declarations.ensures.declarations at c.instructions-instructions.ensures.fits

pub copied_formats-requires : goal.copied_formats-requires
copied_formats-requires c = rw (c.formats.ensures.formats, c.instructions-instructions.ensures.instructions)
    (λ k b at. (c.instructions-instructions.ensures.fits k b at).format)

pub new-requires : goal.new-requires
new-requires c =
    let d = c.args.built.now.declared.set in
    let typed : HoldTypeSets d.vars = rw c.declarations-declarations.ensures.declarations at c.vars.ensures.sets in
    let same = instructions_are _ _ c.args.built.now.declared c.instructions-instructions.ensures.instructions
    c.declarations-declarations.ensures.declarations in
    let names : OpcodeNames = record { names = c.in_ok-names.names.items; formats = c.in_ok-format_names.format_names.items; slots = [] } in
    let masks = c.in_ok-masks.masks.items in
    let constraints = c.in_ok-parts.parts.constraints.items in
    let entries = c.in_ok-parts.parts.entries.items in
    valid_parts d (contents_of names masks constraints entries) c.declarations-declarations.ensures.valid.set typed
    (parts_made d names masks c.args.built.now.type_sets constraints entries c.in_ok-parts.ensures.added.0
    c.type_sets.ensures.needed
    (rw c.type_sets.ensures.type_sets at c.in_ok-masks.ensures)
    (c.in_ok-names.ensures ∙ ap (map (λ (b : Builder). b.name)) same)
    (rw (c.formats.ensures.formats, c.declarations-declarations.ensures.declarations, same) at c.in_ok-format_names.ensures)
    c.in_ok-parts.ensures.count c.in_ok-parts.ensures.holds c.in_ok-parts.ensures.added.1)

pub returns-clause-tables : goal.returns-clause-tables
returns-clause-tables c =
    let d = c.args.built.now.declared.set in
    let same = instructions_are _ _ c.args.built.now.declared c.instructions-instructions.ensures.instructions
    c.declarations-declarations.ensures.declarations in
    both_ok c.new.result _ _ (AreTablesOf d)
    (λ t parts slots.
    tables_made d (record {
      names = c.in_ok-names.names.items;
      formats = c.in_ok-format_names.format_names.items;
      slots = t.opcode_slots;
    }) c.in_ok-masks.masks.items c.args.built.now.type_sets c.in_ok-parts.parts.constraints.items
    c.in_ok-parts.parts.entries.items c.in_ok-parts.ensures.added.0
    c.type_sets.ensures.needed
    (rw c.type_sets.ensures.type_sets at c.in_ok-masks.ensures)
    (c.in_ok-names.ensures ∙ ap (map (λ (b : Builder). b.name)) same)
    (rw (c.formats.ensures.formats, c.declarations-declarations.ensures.declarations, same) at c.in_ok-format_names.ensures)
    c.in_ok-parts.ensures.count
    c.in_ok-parts.ensures.holds
    c.in_ok-parts.ensures.added.1
    t parts slots)
    c.new.ensures.parts c.new.ensures.slots

pub returns-clause-acceptance : goal.returns-clause-acceptance
returns-clause-acceptance c =
    let d = c.args.built.now.declared.set in
    let typed : HoldTypeSets d.vars = rw c.declarations-declarations.ensures.declarations at c.vars.ensures.sets in
    IfOk-weaker c.new.result (AreTablesOf d) _
    (λ t h op control second rs vs. tables_of_mean d t op control second rs vs typed h) (returns-clause-tables c)

pub returns-clause-inference : goal.returns-clause-inference
returns-clause-inference c =
    let d = c.args.built.now.declared.set in
    let typed : HoldTypeSets d.vars = rw c.declarations-declarations.ensures.declarations at c.vars.ensures.sets in
    IfOk-weaker c.new.result (AreTablesOf d) _
    (λ t h op control second numbers. results_of_mean d t op control second typed h numbers) (returns-clause-tables c)

pub returns-in_err-parts-clause-tables : goal.returns-in_err-parts-clause-tables
returns-in_err-parts-clause-tables c = IfOk-from_err c.from_residual.result _ c.from_residual.ensures.0

pub returns-in_err-parts-clause-well_formed : goal.returns-in_err-parts-clause-well_formed
returns-in_err-parts-clause-well_formed c = IfOk-from_err c.from_residual.result _ c.from_residual.ensures.0

pub returns-in_err-parts-clause-acceptance : goal.returns-in_err-parts-clause-acceptance
returns-in_err-parts-clause-acceptance c = IfOk-from_err c.from_residual.result _ c.from_residual.ensures.0

pub returns-in_err-parts-clause-inference : goal.returns-in_err-parts-clause-inference
returns-in_err-parts-clause-inference c = IfOk-from_err c.from_residual.result _ c.from_residual.ensures.0

pub returns-in_err-masks-clause-tables : goal.returns-in_err-masks-clause-tables
returns-in_err-masks-clause-tables c = IfOk-from_err c.from_residual-in_err-masks.result _ c.from_residual-in_err-masks.ensures.0

pub returns-in_err-masks-clause-well_formed : goal.returns-in_err-masks-clause-well_formed
returns-in_err-masks-clause-well_formed c = IfOk-from_err c.from_residual-in_err-masks.result _ c.from_residual-in_err-masks.ensures.0

pub returns-in_err-masks-clause-acceptance : goal.returns-in_err-masks-clause-acceptance
returns-in_err-masks-clause-acceptance c = IfOk-from_err c.from_residual-in_err-masks.result _ c.from_residual-in_err-masks.ensures.0

pub returns-in_err-masks-clause-inference : goal.returns-in_err-masks-clause-inference
returns-in_err-masks-clause-inference c = IfOk-from_err c.from_residual-in_err-masks.result _ c.from_residual-in_err-masks.ensures.0

pub returns-in_err-names-clause-tables : goal.returns-in_err-names-clause-tables
returns-in_err-names-clause-tables c = IfOk-from_err c.from_residual-in_err-names.result _ c.from_residual-in_err-names.ensures.0

pub returns-in_err-names-clause-well_formed : goal.returns-in_err-names-clause-well_formed
returns-in_err-names-clause-well_formed c = IfOk-from_err c.from_residual-in_err-names.result _ c.from_residual-in_err-names.ensures.0

pub returns-in_err-names-clause-acceptance : goal.returns-in_err-names-clause-acceptance
returns-in_err-names-clause-acceptance c = IfOk-from_err c.from_residual-in_err-names.result _ c.from_residual-in_err-names.ensures.0

pub returns-in_err-names-clause-inference : goal.returns-in_err-names-clause-inference
returns-in_err-names-clause-inference c = IfOk-from_err c.from_residual-in_err-names.result _ c.from_residual-in_err-names.ensures.0

pub returns-in_err-format_names-clause-tables : goal.returns-in_err-format_names-clause-tables
returns-in_err-format_names-clause-tables c =
    IfOk-from_err c.from_residual-in_err-format_names.result _ c.from_residual-in_err-format_names.ensures.0

pub returns-in_err-format_names-clause-well_formed : goal.returns-in_err-format_names-clause-well_formed
returns-in_err-format_names-clause-well_formed c =
    IfOk-from_err c.from_residual-in_err-format_names.result _ c.from_residual-in_err-format_names.ensures.0

pub returns-in_err-format_names-clause-acceptance : goal.returns-in_err-format_names-clause-acceptance
returns-in_err-format_names-clause-acceptance c =
    IfOk-from_err c.from_residual-in_err-format_names.result _ c.from_residual-in_err-format_names.ensures.0

pub returns-in_err-format_names-clause-inference : goal.returns-in_err-format_names-clause-inference
returns-in_err-format_names-clause-inference c =
    IfOk-from_err c.from_residual-in_err-format_names.result _ c.from_residual-in_err-format_names.ensures.0
