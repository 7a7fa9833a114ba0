use Rattle.std.proofs.Common.{◌≡◌, ◌++◌, drop, string_bytes}
use Rattle.std.specs.List.{flat_map}
use Rattle.meta_table_text.specs.GroupText.{group_text}
use Rattle.meta_table_text.specs.TableText.{table_text}
use Rattle.meta_table_text.proofs.whole_text.table_text.Given as goal

abbrev pub invariant-loop-group : goal.invariant-loop-group
invariant-loop-group l = string_bytes l.out ++ flat_map group_text (drop l.group l.tables.groups) ≡ table_text l.fn.version l.tables
