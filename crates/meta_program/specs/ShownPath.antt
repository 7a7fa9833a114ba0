-- How a message shows the path of a file.
--     has_control text     a control character stands in the text
--     shown_path path      the path as it is, or with escapes if it has a control character
use Rattle.std.specs.Prelude.{ℕ, ◌==◌, nat_le, nat_lt, Bool, false, ◌&&◌, ◌||◌, List, [], ◌∷◌, if◌then◌else◌}
use Rattle.meta_command_line.specs.Usage.{escaped}

-- a control character ends with this byte, which comes after that one: the byte is one of ASCII, or UTF-8 writes one of U+0080 to U+009F as
-- the two
abbrev pub ends_control : ℕ → ℕ → Bool
ends_control before byte = nat_lt byte 32 || ((byte == 127) || ((before == 194) && (nat_le 128 byte && nat_lt byte 160)))

-- one ends with a byte of the text, which comes after that byte
abbrev pub has_control_after : ℕ → List ℕ → Bool
has_control_after before [] = false
has_control_after before (byte ∷ text) = ends_control before byte || has_control_after byte text

-- one stands in the text, such as a line feed, or ESC or CSI, with which a command for a terminal begins
abbrev pub has_control : List ℕ → Bool
has_control text = has_control_after 0 text

-- the path as a message shows it
abbrev pub shown_path : List ℕ → List ℕ
shown_path path = if has_control path then escaped path else path
