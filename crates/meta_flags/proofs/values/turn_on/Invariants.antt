use Rattle.std.proofs.Common.{◌≡◌, map, take}
use Rattle.meta_setting_tables.specs.declared.descriptor.Descriptor.{Descriptor}
use Rattle.meta_setting_tables.specs.EntryValues.{is_on}
use Rattle.meta_flags.specs.Changes.{with_marked_true}
use Rattle.meta_flags.specs.Held.{value_of}
use Rattle.meta_flags.proofs.values.turn_on.Given as goal

-- the values so far are turned on
abbrev pub invariant-loop-k : goal.invariant-loop-k
invariant-loop-k l = map value_of l.values
    ≡ with_marked_true (take l.k (map (λ (d : Descriptor). is_on l.bytes d.offset d.detail) l.entries)) (map value_of l.fn.values)
