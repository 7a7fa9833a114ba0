use Rattle.std.proofs.Common.{refl}
use Rattle.meta_shared.proofs.Made.{tables_joined}
use Rattle.meta_shared.specs.OpsFormats.{ops_formats}
use Rattle.meta_shared.specs.OpsNames.{ops_names}
use Rattle.meta_shared.proofs.ops_tables.ops_tables.Goals as goal

pub returns : goal.returns
unfolding ops_names ops_formats
returns c =
    tables_joined _ _ _ _ _ _ _ _ c.arithmetic.ensures
    (tables_joined _ _ _ _ _ _ _ _ c.division.ensures
    (tables_joined _ _ _ _ _ _ _ _ c.overflow.ensures
    (tables_joined _ _ _ _ _ _ _ _ c.bitwise.ensures
    (tables_joined _ _ _ _ _ _ _ _ c.bit_counts.ensures
    (tables_joined _ _ _ _ _ _ _ _ c.floats.ensures
    (tables_joined _ _ _ _ _ _ _ _ c.rounding.ensures
    (tables_joined _ _ _ _ _ _ _ _ c.casts.ensures
    (tables_joined _ _ _ _ _ _ _ _ c.lane_widths.ensures
    (tables_joined _ _ _ _ _ _ _ _ c.extension.ensures
    (tables_joined _ _ _ _ _ _ _ _ c.number_casts.ensures
    (tables_joined _ _ _ _ _ _ _ _ c.halves.ensures
    (tables_joined _ _ _ _ _ _ _ _ c.atomics.ensures
    (tables_joined _ _ _ _ _ _ _ _ c.last_rows.ensures
    (record { are_named = refl; are_of = refl; are_derived = refl; derivable = refl }))))))))))))))
