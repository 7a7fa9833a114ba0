use Rattle.std.proofs.Common.{◌≡◌, ◌≢◌, ◌<◌, ℕ, slice_get, Some}
use Rattle.meta_command_line.specs.declared.manual.CommandForm.{CommandForm}
use Rattle.meta_command_line.proofs.misuse.named.Given as goal

-- none of the commands so far has this name
abbrev pub invariant-loop-command : goal.invariant-loop-command
invariant-loop-command l = (k : ℕ) (command : CommandForm) → k < l.command-index
    → slice_get l.commands k ≡ Some command → command.name.now ≢ l.name
