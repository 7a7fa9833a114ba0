-- Sources and sinks: the bytes left, the bytes taken, and the counts of faults.
use Rattle.std.specs.Prelude.{◌≡◌, ℕ, ◌+◌, ◌-◌, ◌^◌, ◌<◌, ◌≤◌, min, List, [], ◌++◌, length, Option, None, Some, IfSome, ◌⊎◌}

-- one more, in a count of 64 bits, which stays at its highest number
abbrev pub counted : ℕ → ℕ
counted n = min (n + 1) (2 ^ 64 - 1)

-- a count rose in a call: it is greater after the call than before, or it is at its highest number after the call
abbrev pub Rose : ℕ → ℕ → Type 0
Rose old new = (old < new) ⊎ (new ≡ 2 ^ 64 - 1)

-- the bytes, and then those that are left, if contracts see these
abbrev pub with_front : List ℕ → Option (List ℕ) → Option (List ℕ)
with_front bytes None = None
with_front bytes (Some left) = Some (bytes ++ left)

-- the bytes that were taken, if contracts see these, and then the given ones
abbrev pub with_more : Option (List ℕ) → List ℕ → Option (List ℕ)
with_more None bytes = None
with_more (Some taken) bytes = Some (taken ++ bytes)

-- no byte is left, if contracts see the bytes that are left
abbrev pub NothingLeft : Option (List ℕ) → Type 0
NothingLeft left = IfSome left (λ bytes. bytes ≡ [])

-- the most bytes that a whole input has
abbrev pub longest_input : ℕ
longest_input = 1048576

-- from the bytes left before a call to those left after it, a source gave more than n bytes
pub record GaveMore (n : ℕ) (old new : Option (List ℕ)) : Type 0 where
  pub bytes : List ℕ
  pub given : old ≡ with_front bytes new
  pub more : n < length bytes

-- from the bytes left before a call to those left after it, a source gave n bytes or fewer
pub record GaveAtMost (n : ℕ) (old new : Option (List ℕ)) : Type 0 where
  pub bytes : List ℕ
  pub given : old ≡ with_front bytes new
  pub within : length bytes ≤ n

-- from the bytes taken before a call to those taken after it, a sink took the front of these bytes, and not all
pub record TookPart (bytes : List ℕ) (old new : Option (List ℕ)) : Type 0 where
  pub front : List ℕ
  pub rest : List ℕ
  pub parts : bytes ≡ front ++ rest
  pub short : 0 < length rest
  pub took : new ≡ with_more old front
