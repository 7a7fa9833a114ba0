use Rattle.std.proofs.Common.{rules, ap, ◌∙◌}
use Rattle.meta_inst.specs.Tables.{TableContents}
use Rattle.meta_unique.proofs.Finding.{lookup_read}
use Rattle.meta_types.proofs.SharedNames.{distinct_differ}
use Rattle.meta_gen.proofs.Finding.{look_up}
use Rattle.meta_gen.proofs.Naming.{first_named, none_named, finds_declared}
use Rattle.meta_gen.proofs.opcode_tables.OpcodeTables.find_opcode_counted.Goals as goal

pub returns : goal.returns
returns g c =
    let l = c.probe_counted.ensures.lookup in
    let here = look_up _ _ _ _ _ _ _ _ c.self.view_is (distinct_differ _ c.self.invariant.well_formed.parts.distinct)
    c.self.invariant.well_formed.slots c.deref.ensures.value c.simple_hash.ensures (λ op told says. search rules) l.1 in
    let lookup = lookup_read 1 c.args.self.now.names c.args.name.now _ _ c.args.self.now.opcode_slots _ _ l.0 (c.deref.ensures.value
    ∙ ap (λ (t : TableContents). t.opcode_slots) c.self.view_is) c.simple_hash.ensures (λ number b says. search rules) l.1 in
    record {
      found = first_named _ _ _ here.0 here.1;
      finds = here.1;
      none = none_named _ _ _ here.1;
      findings = λ d h. finds_declared d _ _ _ here.0 here.1 h;
      steps = (l.0, lookup, l.2);
      most = search rules;
    }
