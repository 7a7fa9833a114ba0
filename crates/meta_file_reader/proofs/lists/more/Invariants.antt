use Rattle.std.proofs.Common.{◌≡◌, ◌-◌}
use Rattle.meta_file_reader.specs.Lists.{more_at, with_front}
use Rattle.meta_file_reader.proofs.lists.more.Given as goal

-- the parts so far, and those that are still read, are all
abbrev pub invariant-loop : goal.invariant-loop
invariant-loop g l = with_front l.parts.items (more_at (g.T.Element.at l.wanted) l.layout (l.count - l.counter) l.rest)
    ≡ with_front l.fn.parts.items (more_at (g.T.Element.at l.wanted) l.layout l.count l.tokens)
