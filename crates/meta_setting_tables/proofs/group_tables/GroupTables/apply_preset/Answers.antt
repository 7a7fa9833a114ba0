use Rattle.meta_setting_tables.proofs.Applying.{refused, applies}
use Rattle.meta_setting_tables.proofs.group_tables.GroupTables.apply_preset.Goals as goal

pub returns-in_default-clause-meaning : goal.returns-in_default-clause-meaning
returns-in_default-clause-meaning c = λ g h. refused g c.args.self.now c.args.preset c.args.bytes.now c.in_default.ensures.none h

pub returns-clause-meaning : goal.returns-clause-meaning
returns-clause-meaning c = λ g h.
    let m = c.in-Some.ensures.masks in
    applies g c.args.self.now c.args.preset m.0 c.args.bytes.now c.in-Some.masks.now c.join.new.bytes m.1 m.2 c.if-bytes-masks.false
    c.in-Some.ensures.size c.join.ensures h
