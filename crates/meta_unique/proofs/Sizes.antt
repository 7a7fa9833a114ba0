-- The next power of two is the least one above a number.
use Rattle.std.proofs.Common.{◌≡◌, ℕ, ◌+◌, ◌-◌, ◌/◌, ◌^◌, ◌<◌, ◌≤◌, zero, suc, subst, inl, inr, arith}
use Rattle.std.specs.Prelude.{max}
use Rattle.std.specs.Int.{IsPowerOfTwo}
use Rattle.std.proofs.lemmas.Bool.{cases_lt}
use Rattle.std.proofs.lemmas.Nat.{pow_pos}
use Rattle.std.proofs.Math.Nat.{pow-succ', pow-le-pow_right}
use Rattle.meta_unique.specs.Slots.{IsTableSize}

above_half : (j k s : ℕ) → 2 ^ j / 2 < s + 1 → s < 2 ^ k → j ≤ k
above_half zero k s h l = omega arith
above_half (suc j) k s h l = elim (cases_lt j k) [
  | inl b ↦ b
  | inr b ↦ let p : 2 ^ k ≤ 2 ^ j = pow-le-pow_right (omega arith) b in absurd (omega (arith, pow-succ' 2 j))
]

pub table_size_is : (count size : ℕ) → IsPowerOfTwo size → count + count / 5 + 1 ≤ size
    → size / 2 < max 1 (count + count / 5 + 1) → IsTableSize count size
table_size_is count size p low high = record {
  power = p;
  above = omega arith;
  least = λ other q above.
      let h : 2 ^ p.0 / 2 < count + count / 5 + 1 = subst (λ (n : ℕ). n / 2 < count + count / 5 + 1) p.1 (omega arith) in
      let l : count + count / 5 < 2 ^ q.0 = subst (λ (n : ℕ). count + count / 5 < n) q.1 above in
      let le : 2 ^ p.0 ≤ 2 ^ q.0 = pow-le-pow_right (omega arith) (above_half p.0 q.0 (count + count / 5) h l) in
      omega (arith, p.1, q.1);
}

-- a power of two is its own next one
pub own_next : (size next : ℕ) → IsPowerOfTwo size → IsPowerOfTwo next → size ≤ next → next / 2 < max 1 size → next ≡ size
own_next size next p q low high =
    let some : 0 < size = omega (arith, p.1, pow_pos p.0) in
    let h : 2 ^ q.0 / 2 < size - 1 + 1 = subst (λ (n : ℕ). n / 2 < size - 1 + 1) q.1 (omega arith) in
    let l : size - 1 < 2 ^ p.0 = omega (arith, p.1) in
    let le : 2 ^ q.0 ≤ 2 ^ p.0 = pow-le-pow_right (omega arith) (above_half q.0 p.0 (size - 1) h l) in
    omega (arith, p.1, q.1)

-- a power of two that fits 64 bits has one bit less below it
pub power_within : (size : ℕ) → IsPowerOfTwo size → size < 2 ^ 64 → size ≤ 2 ^ 63
power_within size p fits = elim (cases_lt 63 p.0) [
  | inl above ↦ let le : 2 ^ 64 ≤ 2 ^ p.0 = pow-le-pow_right (omega arith) above in absurd (omega (arith, p.1))
  | inr below ↦ let le : 2 ^ p.0 ≤ 2 ^ 63 = pow-le-pow_right (omega arith) below in omega (arith, p.1)
]
