-- A walk along a probe, over slots of which one is vacant.
use Rattle.std.proofs.Common.{◌≡◌, ℕ, ◌+◌, ◌*◌, ◌/◌, ◌%◌, ◌<◌, sym, ap, ◌∙◌, subst, inl, inr, arith, List, length, Some, None, Option}
use Rattle.std.proofs.Common.{get_or, true, false}
use Rattle.std.specs.Prelude.{slice_get, Contains, is_some}
use Rattle.std.specs.Int.{IsPowerOfTwo}
use Rattle.std.proofs.lemmas.Bool.{cases_order}
use Rattle.std.proofs.lemmas.Option.{slice_get_within, slice_get-get_or}
use Rattle.std.proofs.Math.Nat.{div-add-mod, mul-add-mod_self_left, mod-lt}
use Rattle.meta_unique.specs.Probing.{slot_at, VisitsEach, IsVacant, IsTaken}
use Rattle.meta_unique.specs.Slots.{IsFirstFree}
use Rattle.meta_unique.proofs.ProbeOrder.{visits}

-- the walk is at a slot of the probe, and P holds of each slot that it passed
pub record Walked {X : Type 0} (slots : List (Option X)) (start slot passed : ℕ) (P : ℕ → Type 0) : Type 0 where
  pub here : slot_at (length slots) start passed ≡ slot
  pub inside : passed < length slots
  pub earlier : (k : ℕ) → k < passed → P (slot_at (length slots) start k)

next_slot : (n start passed : ℕ) → ((start + passed * (passed + 1) / 2) % n + (passed + 1)) % n
    ≡ (start + (passed + 1) * (passed + 1 + 1) / 2) % n
next_slot n start passed =
    let x : ℕ = start + passed * (passed + 1) / 2 in
    sym (ap (λ w. w % n) (omega (arith, div-add-mod x n)) ∙ mul-add-mod_self_left n (x / n) (x % n + (passed + 1)))

visits_power : (n : ℕ) → IsPowerOfTwo n → VisitsEach n
visits_power n p = subst VisitsEach (sym p.1) (visits p.0)

-- no slot is vacant and taken
pub vacant_taken : {X : Type 0} (slots : List (Option X)) (slot : ℕ) → IsVacant slots slot → IsTaken slots slot → ⊥
vacant_taken slots slot v t = let e : Some None ≡ Some (Some t.0) = sym v ∙ t.1 in (cc)

-- if P is of taken slots, the vacant slot comes after each slot that has P
vacant_later : {X : Type 0} (slots : List (Option X)) (start slot passed vacant : ℕ) (P : ℕ → Type 0)
    → ((s : ℕ) → P s → IsTaken slots s) → Walked slots start slot passed P → P slot → IsVacant slots vacant
    → (k : ℕ) → slot_at (length slots) start k ≡ vacant → passed < k
vacant_later slots start slot passed vacant P taken w here v k e = elim (cases_order k passed) [
  | inl same ↦ absurd (vacant_taken slots vacant v
      (taken vacant (subst P (sym w.here ∙ ap (slot_at (length slots) start) (sym same) ∙ e) here)))
  | inr other ↦ elim other [
    | inl before ↦ absurd (vacant_taken slots vacant v (taken vacant (subst P e (w.earlier k before))))
    | inr after ↦ after
  ]
]

pub walk_next : {X : Type 0} (slots : List (Option X)) (start slot passed vacant : ℕ) (P : ℕ → Type 0)
    → IsPowerOfTwo (length slots) → IsVacant slots vacant → ((s : ℕ) → P s → IsTaken slots s)
    → Walked slots start slot passed P → P slot → Walked slots start ((slot + (passed + 1)) % length slots) (passed + 1) P
walk_next slots start slot passed vacant P power v taken w here =
    let met = (visits_power (length slots) power).all start vacant (slice_get_within slots vacant None v) in
    let room : passed < met.0 = vacant_later slots start slot passed vacant P taken w here v met.0 met.2 in
    record {
      here = sym (ap (λ s. (s + (passed + 1)) % length slots) (sym w.here) ∙ next_slot (length slots) start passed);
      inside = omega arith;
      earlier = λ k b. elim (cases_order k passed) [
        | inl same ↦ subst P (sym w.here ∙ ap (slot_at (length slots) start) (sym same)) here
        | inr other ↦ elim other [ inl before ↦ w.earlier k before | inr after ↦ absurd (omega arith) ]
      ];
    }

pub slot_inside : {X : Type 0} (slots : List (Option X)) (start slot passed : ℕ) (P : ℕ → Type 0)
    → Walked slots start slot passed P → slot < length slots
slot_inside slots start slot passed P w = subst (λ s. s < length slots) w.here
    (mod-lt (start + passed * (passed + 1) / 2) (omega (arith, w.inside)))

-- what was read at the walk's slot
pub walk_read : {X : Type 0} (slots : List (Option X)) (start slot passed : ℕ) (P : ℕ → Type 0) (d held : Option X)
    → Walked slots start slot passed P → get_or slots slot d ≡ held → slice_get slots slot ≡ Some held
walk_read slots start slot passed P d held w e = slice_get-get_or slots slot d (slot_inside slots start slot passed P w) ∙ ap Some e

-- a slot that reads as taken
pub taken_read : {X : Type 0} (slots : List (Option X)) (slot : ℕ) (held : Option X)
    → slice_get slots slot ≡ Some held → is_some held ≡ true → IsTaken slots slot
taken_read slots slot None e t = (cc)
taken_read slots slot (Some x) e t = (x, e)

-- and one that reads as vacant
pub vacant_read : {X : Type 0} (slots : List (Option X)) (slot : ℕ) (held : Option X)
    → slice_get slots slot ≡ Some held → is_some held ≡ false → IsVacant slots slot
vacant_read slots slot None e t = e
vacant_read slots slot (Some x) e t = (cc)

-- the walk ends at the first slot that isn't taken
pub walk_end : {X : Type 0} (slots : List (Option X)) (start slot passed : ℕ)
    → Walked slots start slot passed (IsTaken slots) → IsVacant slots slot → IsFirstFree (length slots) start (IsTaken slots) slot
walk_end slots start slot passed w v = record { step = passed; here = w.here; free = vacant_taken slots slot v; passed = w.earlier }

pub contained_vacant : {X : Type 0} (slots : List (Option X)) → Contains slots None → (slot : ℕ) × IsVacant slots slot
contained_vacant slots c = (c.0, slice_get-get_or slots c.0 None c.1 ∙ ap Some c.2)
