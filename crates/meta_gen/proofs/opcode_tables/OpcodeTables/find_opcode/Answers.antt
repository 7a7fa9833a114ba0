use Rattle.std.proofs.Common.{rules}
use Rattle.meta_types.proofs.SharedNames.{distinct_differ}
use Rattle.meta_gen.proofs.Finding.{look_up}
use Rattle.meta_gen.proofs.Naming.{first_named, none_named, finds_declared}
use Rattle.meta_gen.proofs.opcode_tables.OpcodeTables.find_opcode.Goals as goal

pub returns : goal.returns
returns c =
    let here = look_up _ _ _ _ _ _ _ _ c.self.view_is (distinct_differ _ c.self.invariant.well_formed.parts.distinct)
    c.self.invariant.well_formed.slots c.deref.ensures.value c.simple_hash.ensures (λ op told says. search rules) c.probe.ensures.1 in
    record {
      found = first_named _ _ _ here.0 here.1;
      finds = here.1;
      none = none_named _ _ _ here.1;
      findings = λ d h. finds_declared d _ _ _ here.0 here.1 h;
    }
