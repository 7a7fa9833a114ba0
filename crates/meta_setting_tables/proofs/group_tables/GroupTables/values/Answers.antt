use Rattle.std.proofs.Common.{◌≡◌, [], refl, sym, ap}
use Rattle.meta_setting_tables.specs.EntryValues.{values_in}
use Rattle.meta_setting_tables.proofs.EntriesRead.{read_at}
use Rattle.meta_setting_tables.proofs.EntryMeanings.{enum_values, for_entry, values_meant}
use Rattle.meta_setting_tables.proofs.group_tables.GroupTables.values.Goals as goal

pub returns-in-Enum-clause-meaning : goal.returns-in-Enum-clause-meaning
returns-in-Enum-clause-meaning c = λ g s made at.
    let t = c.args.self.now in
    let d = c.in-Some.entry.now in
    let h = c.in-Some.ensures.lookup in
    let there = read_at t.descriptors c.descriptors.result.now c.args.index d c.descriptors.ensures.entries h.3.0 (h.3.1 d) in
    let is = enum_values t.enumerators c.enumerators.result.now c.from-place.result c.from.result c.in-Enum.last
    c.in-Enum.enumerators d.detail c.enumerators.ensures c.from-place.ensures c.from.ensures c.in-Enum.is in
    values_meant g t c.args.index _ (for_entry t.descriptors t.enumerators _ c.args.index d there is) s made at

pub returns-in-Bool : goal.returns-in-Bool
returns-in-Bool c =
    let t = c.args.self.now in
    let d = c.in-Some.entry.now in
    let h = c.in-Some.ensures.lookup in
    let there = read_at t.descriptors c.descriptors.result.now c.args.index d c.descriptors.ensures.entries h.3.0 (h.3.1 d) in
    let is : [] ≡ values_in t.enumerators d.detail = sym (ap (values_in t.enumerators) c.in-Bool.is) in
    let entry = for_entry t.descriptors t.enumerators [] c.args.index d there is in
    record { entry = entry; absent = λ none. refl; meaning = λ g s made at. values_meant g t c.args.index [] entry s made at }

pub returns-in-Num : goal.returns-in-Num
returns-in-Num c =
    let t = c.args.self.now in
    let d = c.in-Some.entry.now in
    let h = c.in-Some.ensures.lookup in
    let there = read_at t.descriptors c.descriptors.result.now c.args.index d c.descriptors.ensures.entries h.3.0 (h.3.1 d) in
    let is : [] ≡ values_in t.enumerators d.detail = sym (ap (values_in t.enumerators) c.in-Num.is) in
    let entry = for_entry t.descriptors t.enumerators [] c.args.index d there is in
    record { entry = entry; absent = λ none. refl; meaning = λ g s made at. values_meant g t c.args.index [] entry s made at }

pub returns-in-Preset : goal.returns-in-Preset
returns-in-Preset c =
    let t = c.args.self.now in
    let d = c.in-Some.entry.now in
    let h = c.in-Some.ensures.lookup in
    let there = read_at t.descriptors c.descriptors.result.now c.args.index d c.descriptors.ensures.entries h.3.0 (h.3.1 d) in
    let is : [] ≡ values_in t.enumerators d.detail = sym (ap (values_in t.enumerators) c.in-Preset.is) in
    let entry = for_entry t.descriptors t.enumerators [] c.args.index d there is in
    record { entry = entry; absent = λ none. refl; meaning = λ g s made at. values_meant g t c.args.index [] entry s made at }
