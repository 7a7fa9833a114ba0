use Rattle.std.proofs.Common.{◌≡◌, ℕ, List, refl, subst}
use Rattle.meta_settings.specs.GroupDeclaration.{SettingDeclaration}
use Rattle.meta_settings.specs.declared.proto.ProtoSpecificSetting.TheVariants.{Bool as ABool}
use Rattle.meta_file_declare.specs.FirstNumbers.{number_in, or_of}
use Rattle.meta_file_declare.proofs.Kept.{booleans_with_bool, presets_with_setting}
use Rattle.meta_file_declare.proofs.open_group.OpenGroup.add_bool.Goals as goal

pub returns-clause-kept : goal.returns-clause-kept
returns-clause-kept c =
    let old = c.args.self.now in
    let s : SettingDeclaration = record {
      name = c.in_ok-name.name;
      description = c.in_ok-description.description;
      comment = c.in_ok-comment.comment;
      specific = ABool c.args.item.now.default;
    } in
    let same : c.as_slice-2.result.now ≡ c.in_ok-name.name =
    let one = c.as_slice.ensures in
    let other = c.as_slice-2.ensures in
    let name = c.in_ok-name.ensures in cc in
    record {
      booleans = booleans_with_bool old.builder c.add_bool.new.self old.booleans c.add_first.new.numbers c.in_ok-index.index s refl
          c.in_ok-index.ensures.added c.in_ok-index.ensures.number c.requires.kept.booleans
          (subst (λ (a : List ℕ). (q : List ℕ) → number_in c.add_first.new.numbers q
          ≡ or_of (number_in old.booleans q) q a c.in_ok-index.index) same c.in_ok-add_first.ensures);
      presets = presets_with_setting old.builder c.add_bool.new.self old.presets s c.in_ok-index.ensures.added c.requires.kept.presets;
    }
