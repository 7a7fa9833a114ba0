-- What a text writes of an application apart from its results.
--     HasWritten m a w       w is the numbers of the controlling types that are shown, and the values
use Rattle.std.specs.Prelude.{◌≡◌, Bool, Option, Some, None, if◌then◌else◌}
use Rattle.std.specs.Option.{option_map}
use Rattle.meta_types.specs.TypeParts.{TypeParts, number_of}
use Rattle.meta_verify.specs.Statement.{Application}
use Rattle.meta_asm.specs.Short.{Manner}
use Rattle.meta_asm.specs.declared.written.Written.{Written}

-- the controlling type, unless it stands alone and is left out
abbrev pub shown_control : Bool → Option TypeParts → Option TypeParts → Option TypeParts
shown_control leaves_out c None = if leaves_out then None else c
shown_control leaves_out c (Some d) = c

-- the numbers of the controlling types that are shown, and the values
pub record HasWritten (m : Manner) (a : Application) (w : Written) : Type 0 where
  pub control : w.control ≡ option_map number_of (shown_control m.leaves_out a.control a.second)
  pub second : w.second ≡ option_map number_of a.second
  pub values : w.values.items ≡ a.values

-- what is written of an application in this manner; something always is
abbrev pub IsWritten : Manner → Application → Option Written → Type 0
IsWritten m a None = ⊥
IsWritten m a (Some w) = HasWritten m a w
