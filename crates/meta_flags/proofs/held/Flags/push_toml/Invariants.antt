use Rattle.std.proofs.Common.{◌≡◌, ◌++◌, drop, string_bytes}
use Rattle.meta_flags.specs.Served.{served_in}
use Rattle.meta_flags.specs.Toml.{toml_lines, toml_text}
use Rattle.meta_flags.proofs.held.Flags.push_toml.Given as goal

-- what is written, and then the lines of what is left
abbrev pub invariant-loop-k : goal.invariant-loop-k
invariant-loop-k l = string_bytes l.out ++ toml_lines (drop l.k (served_in l.self.group).entries) (drop l.k l.self.state)
    ≡ string_bytes l.fn.out ++ toml_text (served_in l.self.group) l.self.state
