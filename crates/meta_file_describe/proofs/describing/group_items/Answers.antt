use Rattle.meta_file_describe.proofs.BuiltLayouts.{built_layouts}
use Rattle.meta_file_describe.proofs.describing.group_items.Goals as goal

pub push_groups-requires : goal.push_groups-requires
push_groups-requires c =
    built_layouts c.args.built.now c.groups.result.now c.declarations-declarations.ensures.built
    c.built_groups_have_tables.ensures.layout c.groups.ensures.groups
