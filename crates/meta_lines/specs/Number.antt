-- How numbers are written.
use Rattle.std.specs.Prelude.{ℕ, ◌==◌, ◌&&◌, ◌||◌, not, Bool, List, length, slice_index}

-- the first byte isn't `+`, and it is `0` only where it is the one byte
abbrev pub is_plain : List ℕ → Bool
is_plain word = not (slice_index word 0 == 43) && (not (slice_index word 0 == 48) || (length word == 1))
