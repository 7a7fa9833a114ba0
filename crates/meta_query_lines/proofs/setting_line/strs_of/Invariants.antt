use Rattle.std.proofs.Common.{◌≡◌, map, take}
use Rattle.meta_query_lines.proofs.setting_line.strs_of.Given as goal

-- the texts so far are lent
abbrev pub invariant-loop-text : goal.invariant-loop-text
invariant-loop-text l = map (λ text. text.now) l.strs.items ≡ take l.text-index l.texts
