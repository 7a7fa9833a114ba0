use Rattle.std.proofs.lemmas.Option.{slice_get-get_or}
use Rattle.std.proofs.lemmas.Result.{on_ok_weaker}
use Rattle.meta_explain.proofs.Listing.{contained_at}
use Rattle.meta_query_lines.proofs.AddedLemmas.{constraint_within, constraint_at}
use Rattle.meta_query_lines.proofs.type_lists.push_demand_at.Goals as goal

pub push_demand-requires : goal.push_demand-requires
push_demand-requires c =
    let within = constraint_within c.operand_constraints.result.now _ c.args.place c.operand_constraints.ensures c.requires in
    contained_at c.args.tables.now.operand_constraints c.args.place _
    (constraint_at c.operand_constraints.result.now _ c.args.place _ _ c.operand_constraints.ensures
    (slice_get-get_or c.operand_constraints.result.now c.args.place _ within) c.demanded.ensures)

pub returns : goal.returns
returns c =
    let within = constraint_within c.operand_constraints.result.now _ c.args.place c.operand_constraints.ensures c.requires in
    on_ok_weaker c.push_demand.result
    (λ e. (
      _,
      constraint_at c.operand_constraints.result.now _ c.args.place _ _ c.operand_constraints.ensures
          (slice_get-get_or c.operand_constraints.result.now c.args.place _ within) c.demanded.ensures,
      e,
    ))
    c.push_demand.ensures
