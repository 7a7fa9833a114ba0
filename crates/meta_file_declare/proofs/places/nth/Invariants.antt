use Rattle.std.proofs.Common.{◌≡◌, drop}
use Rattle.std.specs.List.{slice_get}
use Rattle.meta_file_declare.specs.Places.{places_from, places_of}
use Rattle.meta_file_declare.specs.Sorts.{is_of}
use Rattle.meta_file_declare.proofs.places.nth.Given as goal

-- the place is among those that are left
abbrev pub invariant-loop-place : goal.invariant-loop-place
invariant-loop-place l = slice_get (places_from (is_of l.sort) l.place (drop l.place l.items)) l.left
    ≡ slice_get (places_of (is_of l.sort) l.items) l.n
