-- Reading `)` a number of times, as a loop does.
use Rattle.std.proofs.Common.{◌≡◌, ℕ, suc, ◌-◌, ◌+◌, ◌≤◌, ◌<◌, List, Result, Ok, Err, refl, sym, ◌∙◌, arith}
use Rattle.meta_file_syntax.specs.declared.token.Token.{Token}
use Rattle.meta_file_reader.specs.declared.fault.Fault.{Fault}
use Rattle.meta_file_reader.specs.declared.fault.PartError.{PartError}
use Rattle.meta_file_reader.specs.declared.fault.PartError.TheVariants as errors
use Rattle.meta_file_reader.specs.Parts.{Fails, sign_at}
use Rattle.meta_file_reader.specs.SetReading.{closed_at}

pub goes_on : (count i : ℕ) (ts after : List Token) (total : Result (List Token) Fault) → i < count → sign_at 41 ts ≡ Ok after
    → closed_at (count - i) ts ≡ total → closed_at (count - (i + 1)) after ≡ total
unfolding closed_at
goes_on count i ts after total lt h so_far =
    let k : count - i ≡ suc (count - (i + 1)) = omega arith in
    let one : closed_at (count - i) ts ≡ closed_at (count - (i + 1)) after = rw (k, h) refl in
    sym one ∙ so_far

pub fails : (e : PartError) (count i : ℕ) (ts : List Token) (total : Result (List Token) Fault) → i < count → Fails e (sign_at 41 ts)
    → closed_at (count - i) ts ≡ total → Fails e total
unfolding closed_at
fails errors.Memory count i ts total lt h so_far = tt
fails (errors.Fault f) count i ts total lt h so_far =
    let k : count - i ≡ suc (count - (i + 1)) = omega arith in
    let one : closed_at (count - i) ts ≡ Err f = rw (k, h) refl in
    sym so_far ∙ one

pub ends_here : (count i : ℕ) (ts : List Token) (total : Result (List Token) Fault) → count ≤ i → closed_at (count - i) ts ≡ total
    → total ≡ Ok ts
unfolding closed_at
ends_here count i ts total le so_far =
    let k : count - i ≡ 0 = omega arith in
    let one : closed_at (count - i) ts ≡ Ok ts = rw k refl in
    sym so_far ∙ one
