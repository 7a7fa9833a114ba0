-- A group that is declared anew of its layout: its settings in that order, and its presets with the booleans that they turn on.
use Rattle.std.proofs.Common.{map}
use Rattle.meta_settings.specs.declared.index.PresetType.TheVariants.{BoolSetting}
use Rattle.meta_settings.specs.declared.proto.ProtoSpecificSetting.{ProtoSpecificSetting}
use Rattle.meta_settings.specs.declared.proto.ProtoSpecificSetting.TheVariants as proto
use Rattle.meta_settings.specs.declared.setting.SpecificSetting.{SpecificSetting}
use Rattle.meta_settings.specs.declared.setting.SpecificSetting.TheVariants as specific
use Rattle.meta_settings.specs.GroupDeclaration.{SettingDeclaration, PresetDeclaration, GroupDeclaration}
use Rattle.meta_settings.specs.Layout.{PlacedSetting, BuiltPreset, Layout}
use Rattle.meta_settings.specs.LaidOut.{built_of}

-- a setting without its place
abbrev pub unplaced_specific : SpecificSetting → ProtoSpecificSetting
unplaced_specific (specific.Bool b) = proto.Bool b.default
unplaced_specific (specific.Enum values) = proto.Enum values
unplaced_specific (specific.Num default) = proto.Num default

abbrev pub unplaced : PlacedSetting → SettingDeclaration
unplaced s = record { name = s.name; description = s.description; comment = s.comment; specific = unplaced_specific s.specific }

-- a preset that names each boolean that it turns on
abbrev pub preset_again : BuiltPreset → PresetDeclaration
preset_again p = record { name = p.name; description = p.description; args = map (λ b. BoolSetting b) p.booleans }

-- the group of a layout
abbrev pub group_again : Layout → GroupDeclaration
group_again g = record { name = g.name; settings = map unplaced g.settings; presets = map preset_again g.presets }

-- a declared group, declared anew as it is laid out
abbrev pub anew : GroupDeclaration → GroupDeclaration
anew d = group_again (built_of d)
