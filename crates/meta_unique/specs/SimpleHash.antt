-- The hash of a name.
use Rattle.std.specs.Prelude.{ℕ, ◌+◌, ◌%◌, ◌^◌, List, bit_xor, fold}
use Rattle.std.specs.Int.{w32, rotate_right}

-- the hash h goes on with a byte: h xor the byte, and h rotated right by 6 bits, added in 32 bits
abbrev pub hash_step : ℕ → ℕ → ℕ
hash_step h byte = (bit_xor h byte + rotate_right w32 h 6) % 2 ^ 32

-- the hash of the bytes, one after another from 5381
abbrev pub simple_hash_of : List ℕ → ℕ
simple_hash_of bytes = fold hash_step 5381 bytes
