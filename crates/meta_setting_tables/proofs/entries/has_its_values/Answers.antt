use Rattle.std.proofs.Common.{◌≡◌, ◌↔◌, ◌+◌, ◌-◌, ◌<◌, ◌≤◌, ℕ, List, length, take, drop, Bool, Result, Ok, Err, IfOk, IsTrue, ap, ◌∙◌, sym}
use Rattle.std.proofs.Common.{subst, arith}
use Rattle.std.specs.declared.alloc.AllocError.{AllocError}
use Rattle.meta_types.specs.SharedNames.{AreDistinct}
use Rattle.meta_setting_tables.specs.declared.descriptor.Detail.{Detail}
use Rattle.meta_setting_tables.specs.WellFormed.{HasValues, HasItsValues}
use Rattle.meta_setting_tables.proofs.entries.has_its_values.Goals as goal

-- values that stand there, and not too many, are values where they are distinct
values_where : (enumerators : List (List ℕ)) (last place from count : ℕ) (r : Result Bool AllocError) → last < 256 → from ≡ place
    → count ≡ last + 1 → place + (last + 1) ≤ length enumerators
    → IfOk r (λ b. IsTrue b ↔ AreDistinct (take count (drop from enumerators))) → IfOk r (λ b. IsTrue b ↔ HasValues enumerators last place)
values_where enumerators last place from count (Err e) few e' f inside h = tt
values_where enumerators last place from count (Ok b) few e f inside h =
    let same : take count (drop from enumerators) ≡ take (last + 1) (drop place enumerators) = ap (λ n. take n (drop from enumerators)) f
    ∙ ap (λ n. take (last + 1) (drop n enumerators)) e in (
      λ t. record { few = few; inside = inside; distinct = subst AreDistinct same (h.0 t) },
      λ values. h.1 (subst AreDistinct (sym same) values.distinct),
    )

pub returns-else-place-count : goal.returns-else-place-count
returns-else-place-count c =
    let place = c.from-place.ensures in
    let last = c.from-count.ensures in
    let inside = c.if-place-count.false in
    let few : c.in-Enum.last < 256 = omega arith in
    subst (λ (x : Detail). IfOk c.are_distinct.result (λ b. IsTrue b ↔ HasItsValues c.args.enumerators.now x)) (sym c.in-Enum.is)
    (values_where c.args.enumerators.now c.in-Enum.last c.in-Enum.place c.from-place.result
    ((c.from-place.result + (c.from-count.result + 1)) - c.from-place.result) c.are_distinct.result few place
    (omega (arith, last)) (omega (arith, place, last, inside)) c.are_distinct.ensures)
