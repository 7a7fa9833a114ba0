use Rattle.std.proofs.Common.{◌≡◌, ◌++◌, drop}
use Rattle.meta_file_declare.specs.Places.{is_inst, is_format, is_group, places_from, places_of}
use Rattle.meta_program.proofs.told.ItemPlaces.of.Given as goal

-- the places so far, and those that are left
abbrev pub invariant-loop-place : goal.invariant-loop-place
invariant-loop-place l = record {
  insts : l.insts.items ++ places_from is_inst l.place (drop l.place l.items) ≡ places_of is_inst l.items;
  formats : l.formats.items ++ places_from is_format l.place (drop l.place l.items) ≡ places_of is_format l.items;
  groups : l.groups.items ++ places_from is_group l.place (drop l.place l.items) ≡ places_of is_group l.items;
}
