use Rattle.meta_gen.proofs.Inferring.{some_inferred, none_inferred, each_accepted, none_accepted}
use Rattle.meta_gen.proofs.opcode_tables.OpcodeTables.infer_results2.Goals as goal

pub returns : goal.returns
returns c =
    let i = c.infer_into.ensures in
    record {
      given = i.given;
      few = i.few;
      rest = i.rest;
      none = i.none;
      unchanged = i.unchanged;
      meaning = λ d typed of. some_inferred d _ _ _ _ typed of _ _ i.given;
      refused = λ d typed of. none_inferred d _ _ _ _ typed of _ i.none;
      accepted = each_accepted _ _ _ _ _ _ i.given;
      unaccepted = none_accepted _ _ _ _ _ i.none;
    }
