use Rattle.std.proofs.Common.{◌≡◌, ℕ, List, subst}
use Rattle.meta_settings.specs.GroupDeclaration.{PresetDeclaration}
use Rattle.meta_file_declare.specs.FirstNumbers.{number_in, or_of}
use Rattle.meta_file_declare.proofs.Kept.{booleans_with_preset, presets_with_preset}
use Rattle.meta_file_declare.proofs.open_group.OpenGroup.add_preset.Goals as goal

pub returns-clause-kept : goal.returns-clause-kept
returns-clause-kept c =
    let old = c.args.self.now in
    let p : PresetDeclaration = record {
      name = c.in_ok-name.name;
      description = c.in_ok-description.description;
      args = c.in_ok-meant.meant.items;
    } in
    let same : c.as_slice-3.result.now ≡ c.in_ok-name.name =
    let one = c.as_slice.ensures in
    let other = c.as_slice-3.ensures in
    let name = c.in_ok-name.ensures in cc in
    record {
      booleans = booleans_with_preset old.builder c.add_preset.new.self old.booleans p c.in_ok-index.ensures.added c.requires.kept.booleans;
      presets = presets_with_preset old.builder c.add_preset.new.self old.presets c.add_first.new.numbers c.in_ok-index.index p
          c.in_ok-index.ensures.added c.in_ok-index.ensures.number c.requires.kept.presets
          (subst (λ (a : List ℕ). (q : List ℕ) → number_in c.add_first.new.numbers q
          ≡ or_of (number_in old.presets q) q a c.in_ok-index.index) same c.in_ok-add_first.ensures);
    }
