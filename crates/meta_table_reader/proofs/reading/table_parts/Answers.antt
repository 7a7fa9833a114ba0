use Rattle.std.proofs.Common.{sym, ◌∙◌}
use Rattle.std.specs.List.{flat_map}
use Rattle.meta_setting_tables.specs.Parts.{HasGroupParts}
use Rattle.meta_table_text.specs.GroupText.{group_text}
use Rattle.meta_table_text.specs.TableText.{table_text}
use Rattle.meta_table_reader.proofs.Zipped.{zip_count, zip_each}
use Rattle.meta_table_reader.proofs.reading.table_parts.Goals as goal

pub returns : goal.returns
unfolding table_text
returns c = λ t shown e.
    let (lists, left) = c.in_ok-opcodes.ensures t.opcodes (flat_map group_text t.groups) shown.opcodes (c.new-cursor.ensures ∙ e) in
    let zipped = c.in_ok-groups.ensures t.groups shown.groups left in
    record {
      opcodes = record {
        names = sym lists.names;
        formats = sym lists.formats;
        type_sets = sym lists.type_sets;
        operand_constraints = sym lists.operand_constraints;
        entries = sym lists.entries;
      };
      groups = record {
        count = zip_count HasGroupParts c.in_ok-groups.groups.items t.groups zipped;
        each = zip_each HasGroupParts c.in_ok-groups.groups.items t.groups zipped;
      };
    }
