use Rattle.std.proofs.Common.{◌≡◌, ◌∙◌, ◌+◌, ◌++◌, ◌∷◌, [], ℕ, zero, suc, ◌<◌, List, length, map, get_or, sym, ap, subst, refl, arith}
use Rattle.std.proofs.lemmas.List.{length-map}
use Rattle.std.proofs.lemmas.Result.{IfOk-from_err}
use Rattle.meta_inst.specs.Faults.{names_of}
use Rattle.meta_settings.specs.GroupDeclaration.{GroupDeclaration}
use Rattle.meta_build.specs.AllDeclared.{Declared}
use Rattle.meta_shared.specs.CoreFormats.{core_formats}
use Rattle.meta_shared.specs.CoreNames.{core_names}
use Rattle.meta_shared.specs.Formats.{AreNumberedFrom}
use Rattle.meta_shared.specs.Rows.{named_format}
use Rattle.meta_shared.specs.Settings.{IsSharedGroup}
use Rattle.meta_shared.proofs.Fitting.{one_fits}
use Rattle.meta_shared.proofs.Named.{all_named, each_named}
use Rattle.meta_shared.specs.OpsFormats.{ops_formats}
use Rattle.meta_shared.specs.OpsNames.{ops_names}
use Rattle.meta_shared.proofs.definition.define.Goals as goal

pub new-requires-4 : goal.new-requires-4
new-requires-4 c = λ k b at. (one_fits c.add_instructions.new.vars c.in_ok-formats.formats
    (core_formats ++ ops_formats) c.add_instructions.new.all c.in_ok-add_instructions.ensures.fit k b at).1.fits c.new-3.new.table
    c.in_ok-formats.ensures.of

pub returns-clause-names : goal.returns-clause-names
returns-clause-names c = ap (λ (d : Declared). names_of d.set) c.new-4.ensures ∙ c.in_ok-add_instructions.ensures.names

pub returns-clause-instructions : goal.returns-clause-instructions
unfolding core_names ops_names
returns-clause-instructions c = sym (length-map c.new-4.result.set.instructions _) ∙ ap length (returns-clause-names c)

pub returns-clause-of_formats : goal.returns-clause-of_formats
returns-clause-of_formats c =
    let none = c.new-table.ensures in
    let numbers : AreNumberedFrom 0 c.in_ok-formats.formats =
    subst (λ n. AreNumberedFrom n c.in_ok-formats.formats) (ap length none) c.in_ok-formats.ensures.numbers in
    ap (λ (d : Declared). map (named_format d.set.formats) d.set.instructions) c.new-4.ensures
    ∙ each_named c.add_instructions.new.vars c.new-3.new.table c.in_ok-formats.formats (core_formats
    ++ ops_formats) c.add_instructions.new.all (all_named c.in_ok-formats.ensures.added none) numbers c.in_ok-add_instructions.ensures.fit

-- the only group is the shared one
one_shared : (groups : List GroupDeclaration) (g : GroupDeclaration) → groups ≡ g ∷ [] → IsSharedGroup g → (k : ℕ) (d : GroupDeclaration)
    → k < length groups → IsSharedGroup (get_or groups k d)
one_shared groups g is shared k d within =
    subst IsSharedGroup (sym (ap (λ xs. get_or xs k d) is ∙ only g k d (let count = ap length is in omega (arith, count)))) shared
  where
    only : (g : GroupDeclaration) (k : ℕ) (d : GroupDeclaration) → k < 1 → get_or (g ∷ []) k d ≡ g
    only g zero d within = refl
    only g (suc k) d within = absurd (omega arith)

pub returns-clause-group : goal.returns-clause-group
returns-clause-group c = one_shared _ c.in_ok-define.field-0 (ap (λ (d : Declared). d.groups) c.new-4.ensures
    ∙ (c.in_ok-push.ensures.items ∙ ap (λ xs. xs ++ c.in_ok-define.field-0 ∷ []) c.new-groups.ensures.items)) c.in_ok-define.ensures

pub returns-clause-formats : goal.returns-clause-formats
returns-clause-formats c = ap (λ (d : Declared). length d.set.formats) c.new-4.ensures
    ∙ (c.in_ok-formats.ensures.count ∙ ap (λ n. n + 36) (ap length c.new-table.ensures))

pub returns-clause-groups : goal.returns-clause-groups
returns-clause-groups c = ap (λ (d : Declared). length d.groups) c.new-4.ensures
    ∙ ap length (c.in_ok-push.ensures.items ∙ ap (λ xs. xs ++ c.in_ok-define.field-0 ∷ []) c.new-groups.ensures.items)

pub returns-in_err-entities-clause-formats : goal.returns-in_err-entities-clause-formats
returns-in_err-entities-clause-formats c = IfOk-from_err c.from_residual.result _ c.from_residual.ensures.0

pub returns-in_err-entities-clause-instructions : goal.returns-in_err-entities-clause-instructions
returns-in_err-entities-clause-instructions c = IfOk-from_err c.from_residual.result _ c.from_residual.ensures.0

pub returns-in_err-entities-clause-names : goal.returns-in_err-entities-clause-names
returns-in_err-entities-clause-names c = IfOk-from_err c.from_residual.result _ c.from_residual.ensures.0

pub returns-in_err-entities-clause-of_formats : goal.returns-in_err-entities-clause-of_formats
returns-in_err-entities-clause-of_formats c = IfOk-from_err c.from_residual.result _ c.from_residual.ensures.0

pub returns-in_err-entities-clause-groups : goal.returns-in_err-entities-clause-groups
returns-in_err-entities-clause-groups c = IfOk-from_err c.from_residual.result _ c.from_residual.ensures.0

pub returns-in_err-entities-clause-group : goal.returns-in_err-entities-clause-group
returns-in_err-entities-clause-group c = IfOk-from_err c.from_residual.result _ c.from_residual.ensures.0

pub returns-in_err-imm-clause-formats : goal.returns-in_err-imm-clause-formats
returns-in_err-imm-clause-formats c = IfOk-from_err c.from_residual-in_err-imm.result _ c.from_residual-in_err-imm.ensures.0

pub returns-in_err-imm-clause-instructions : goal.returns-in_err-imm-clause-instructions
returns-in_err-imm-clause-instructions c = IfOk-from_err c.from_residual-in_err-imm.result _ c.from_residual-in_err-imm.ensures.0

pub returns-in_err-imm-clause-names : goal.returns-in_err-imm-clause-names
returns-in_err-imm-clause-names c = IfOk-from_err c.from_residual-in_err-imm.result _ c.from_residual-in_err-imm.ensures.0

pub returns-in_err-imm-clause-of_formats : goal.returns-in_err-imm-clause-of_formats
returns-in_err-imm-clause-of_formats c = IfOk-from_err c.from_residual-in_err-imm.result _ c.from_residual-in_err-imm.ensures.0

pub returns-in_err-imm-clause-groups : goal.returns-in_err-imm-clause-groups
returns-in_err-imm-clause-groups c = IfOk-from_err c.from_residual-in_err-imm.result _ c.from_residual-in_err-imm.ensures.0

pub returns-in_err-imm-clause-group : goal.returns-in_err-imm-clause-group
returns-in_err-imm-clause-group c = IfOk-from_err c.from_residual-in_err-imm.result _ c.from_residual-in_err-imm.ensures.0

pub returns-in_err-formats-clause-formats : goal.returns-in_err-formats-clause-formats
returns-in_err-formats-clause-formats c = IfOk-from_err c.from_residual-in_err-formats.result _ c.from_residual-in_err-formats.ensures.0

pub returns-in_err-formats-clause-instructions : goal.returns-in_err-formats-clause-instructions
returns-in_err-formats-clause-instructions c =
    IfOk-from_err c.from_residual-in_err-formats.result _ c.from_residual-in_err-formats.ensures.0

pub returns-in_err-formats-clause-names : goal.returns-in_err-formats-clause-names
returns-in_err-formats-clause-names c = IfOk-from_err c.from_residual-in_err-formats.result _ c.from_residual-in_err-formats.ensures.0

pub returns-in_err-formats-clause-of_formats : goal.returns-in_err-formats-clause-of_formats
returns-in_err-formats-clause-of_formats c = IfOk-from_err c.from_residual-in_err-formats.result _ c.from_residual-in_err-formats.ensures.0

pub returns-in_err-formats-clause-groups : goal.returns-in_err-formats-clause-groups
returns-in_err-formats-clause-groups c = IfOk-from_err c.from_residual-in_err-formats.result _ c.from_residual-in_err-formats.ensures.0

pub returns-in_err-formats-clause-group : goal.returns-in_err-formats-clause-group
returns-in_err-formats-clause-group c = IfOk-from_err c.from_residual-in_err-formats.result _ c.from_residual-in_err-formats.ensures.0

pub returns-in_err-add_instructions-clause-formats : goal.returns-in_err-add_instructions-clause-formats
returns-in_err-add_instructions-clause-formats c =
    IfOk-from_err c.from_residual-in_err-add_instructions.result _ c.from_residual-in_err-add_instructions.ensures.0

pub returns-in_err-add_instructions-clause-instructions : goal.returns-in_err-add_instructions-clause-instructions
returns-in_err-add_instructions-clause-instructions c =
    IfOk-from_err c.from_residual-in_err-add_instructions.result _ c.from_residual-in_err-add_instructions.ensures.0

pub returns-in_err-add_instructions-clause-names : goal.returns-in_err-add_instructions-clause-names
returns-in_err-add_instructions-clause-names c =
    IfOk-from_err c.from_residual-in_err-add_instructions.result _ c.from_residual-in_err-add_instructions.ensures.0

pub returns-in_err-add_instructions-clause-of_formats : goal.returns-in_err-add_instructions-clause-of_formats
returns-in_err-add_instructions-clause-of_formats c =
    IfOk-from_err c.from_residual-in_err-add_instructions.result _ c.from_residual-in_err-add_instructions.ensures.0

pub returns-in_err-add_instructions-clause-groups : goal.returns-in_err-add_instructions-clause-groups
returns-in_err-add_instructions-clause-groups c =
    IfOk-from_err c.from_residual-in_err-add_instructions.result _ c.from_residual-in_err-add_instructions.ensures.0

pub returns-in_err-add_instructions-clause-group : goal.returns-in_err-add_instructions-clause-group
returns-in_err-add_instructions-clause-group c =
    IfOk-from_err c.from_residual-in_err-add_instructions.result _ c.from_residual-in_err-add_instructions.ensures.0

pub returns-in_err-define-clause-formats : goal.returns-in_err-define-clause-formats
returns-in_err-define-clause-formats c = IfOk-from_err c.from_residual-in_err-define.result _ c.from_residual-in_err-define.ensures.0

pub returns-in_err-define-clause-instructions : goal.returns-in_err-define-clause-instructions
returns-in_err-define-clause-instructions c = IfOk-from_err c.from_residual-in_err-define.result _ c.from_residual-in_err-define.ensures.0

pub returns-in_err-define-clause-names : goal.returns-in_err-define-clause-names
returns-in_err-define-clause-names c = IfOk-from_err c.from_residual-in_err-define.result _ c.from_residual-in_err-define.ensures.0

pub returns-in_err-define-clause-of_formats : goal.returns-in_err-define-clause-of_formats
returns-in_err-define-clause-of_formats c = IfOk-from_err c.from_residual-in_err-define.result _ c.from_residual-in_err-define.ensures.0

pub returns-in_err-define-clause-groups : goal.returns-in_err-define-clause-groups
returns-in_err-define-clause-groups c = IfOk-from_err c.from_residual-in_err-define.result _ c.from_residual-in_err-define.ensures.0

pub returns-in_err-define-clause-group : goal.returns-in_err-define-clause-group
returns-in_err-define-clause-group c = IfOk-from_err c.from_residual-in_err-define.result _ c.from_residual-in_err-define.ensures.0

pub returns-in_err-push-clause-formats : goal.returns-in_err-push-clause-formats
returns-in_err-push-clause-formats c = IfOk-from_err c.from_residual-in_err-push.result _ c.from_residual-in_err-push.ensures.0

pub returns-in_err-push-clause-instructions : goal.returns-in_err-push-clause-instructions
returns-in_err-push-clause-instructions c = IfOk-from_err c.from_residual-in_err-push.result _ c.from_residual-in_err-push.ensures.0

pub returns-in_err-push-clause-names : goal.returns-in_err-push-clause-names
returns-in_err-push-clause-names c = IfOk-from_err c.from_residual-in_err-push.result _ c.from_residual-in_err-push.ensures.0

pub returns-in_err-push-clause-of_formats : goal.returns-in_err-push-clause-of_formats
returns-in_err-push-clause-of_formats c = IfOk-from_err c.from_residual-in_err-push.result _ c.from_residual-in_err-push.ensures.0

pub returns-in_err-push-clause-groups : goal.returns-in_err-push-clause-groups
returns-in_err-push-clause-groups c = IfOk-from_err c.from_residual-in_err-push.result _ c.from_residual-in_err-push.ensures.0

pub returns-in_err-push-clause-group : goal.returns-in_err-push-clause-group
returns-in_err-push-clause-group c = IfOk-from_err c.from_residual-in_err-push.result _ c.from_residual-in_err-push.ensures.0
