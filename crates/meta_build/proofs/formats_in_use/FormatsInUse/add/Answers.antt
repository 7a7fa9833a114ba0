use Rattle.std.proofs.Common.{◌≡◌, refl, sym, ap, ◌∙◌, Bor, List, ℕ}
use Rattle.std.proofs.lemmas.Option.{same_Some}
use Rattle.std.proofs.lemmas.Result.{IfOk-from_err, on_ok_weaker}
use Rattle.std.specs.HashMap.{get}
use Rattle.meta_lists.proofs.Results.{on_ok}
use Rattle.meta_operands.specs.Structure.{structure_of, same_structure}
use Rattle.meta_operands.specs.declared.format.InstructionFormat.{InstructionFormat}
use Rattle.meta_build.proofs.FormatSearch.{of_table_more}
use Rattle.meta_build.proofs.FormatPlaces.{one_marked, one_named, one_structured, new_name, new_structure}
use Rattle.meta_build.proofs.formats_in_use.FormatsInUse.add.Goals as goal

pub returns-clause-indexed : goal.returns-clause-indexed
returns-clause-indexed c =
    let f = c.args.self.now in
    let i = c.requires.indexed in
    let new = c.args.format in
    let t = c.requires.of_table in
    let same : c.get-content.result.now ≡ t.format = same_Some c.get-content.result.now t.format (sym c.get-content.ensures ∙ t.at) in
    let name : Bor (List ℕ) = record { ref_ptr = c.get-content.result.ref_ptr; now = c.get-content.result.now.name } in
    let named = ap (λ (x : InstructionFormat). x.name) same in
    let structure : new.structure ≡ structure_of c.get-content.result.now = t.structure ∙ ap structure_of (sym same) in
    let pushed = c.in_ok-push.ensures.items in
    let place = c.len-place.ensures ∙ f.used.ok.0 in
    on_ok_weaker c.put_structure.result
    (λ gains. record {
      of_table = of_table_more f.formats.now f.used.items c.push.new.self.items new i.of_table t pushed;
      marked = one_marked f.formats.now f.used.items c.push.new.self.items new f.is_used.items _ pushed c.number.ensures i.marked;
      named = one_named f.formats.now f.used.items c.push.new.self.items new t.format name _ _ _ pushed t.at named place
          (new_name f i new t name named c.requires.apart) c.in_ok-insert.ensures.updates.0 i.named;
      structured = one_structured f.used.items c.push.new.self.items new _ _ _ _ pushed structure place
          (ap (get same_structure f.by_structure) (sym structure) ∙ new_structure f i new t name named c.requires.apart) gains i.structured;
    })
    c.put_structure.ensures

pub returns-in_err-push-clause-formats : goal.returns-in_err-push-clause-formats
returns-in_err-push-clause-formats c = IfOk-from_err c.from_residual.result _ c.from_residual.ensures.0

pub returns-in_err-push-clause-added : goal.returns-in_err-push-clause-added
returns-in_err-push-clause-added c = IfOk-from_err c.from_residual.result _ c.from_residual.ensures.0

pub returns-in_err-push-clause-indexed : goal.returns-in_err-push-clause-indexed
returns-in_err-push-clause-indexed c = IfOk-from_err c.from_residual.result _ c.from_residual.ensures.0

pub returns-in_err-insert-clause-formats : goal.returns-in_err-insert-clause-formats
returns-in_err-insert-clause-formats c = IfOk-from_err c.from_residual-in_err-insert.result _ c.from_residual-in_err-insert.ensures.0

pub returns-in_err-insert-clause-added : goal.returns-in_err-insert-clause-added
returns-in_err-insert-clause-added c = IfOk-from_err c.from_residual-in_err-insert.result _ c.from_residual-in_err-insert.ensures.0

pub returns-in_err-insert-clause-indexed : goal.returns-in_err-insert-clause-indexed
returns-in_err-insert-clause-indexed c = IfOk-from_err c.from_residual-in_err-insert.result _ c.from_residual-in_err-insert.ensures.0

pub returns-clause-formats : goal.returns-clause-formats
returns-clause-formats c = on_ok c.put_structure.result refl

pub returns-clause-added : goal.returns-clause-added
returns-clause-added c = on_ok c.put_structure.result c.in_ok-push.ensures.items
