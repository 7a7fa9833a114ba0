use Rattle.std.proofs.Common.{◌≡◌, map, drop}
use Rattle.meta_types.specs.TypeNumber.{found_in}
use Rattle.meta_types.proofs.type_name.number_beside.Given as goal

-- the text is different from all those so far
abbrev pub invariant-loop-name : goal.invariant-loop-name
invariant-loop-name l =
    found_in (map (λ row. (row.0.now, row.1)) (drop l.name-index l.rows)) l.text ≡ found_in (map (λ row. (row.0.now, row.1)) l.rows) l.text
