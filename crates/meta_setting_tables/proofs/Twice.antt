-- A preset that is applied twice changes nothing the second time.
use Rattle.std.proofs.Common.{◌≡◌, ⊎_elim, inl, inr, ◌⊎◌, ℕ, ◌-◌, ◌<◌, max, Bool, List, length, slice_get, Some, sym, ap, ◌∙◌, arith}
use Rattle.std.specs.Prelude.{All}
use Rattle.std.specs.Int.{bit_at}
use Rattle.std.specs.Int.RustNames.{bit_or}
use Rattle.std.proofs.lemmas.Bool.{cases_eq, cases_lt}
use Rattle.std.proofs.lemmas.Nat.Bits.{bit_at_or, same_from_bits}
use Rattle.std.proofs.lemmas.Option.{slice_get_within}
use Rattle.meta_lists.proofs.Everywhere.{at_place}
use Rattle.meta_lists.proofs.Places.{get_there, same_places}
use Rattle.meta_settings.specs.Layout.{BuiltPreset, Layout}
use Rattle.meta_setting_tables.specs.PresetMasks.{AreJoined, TurnsOnOnly}
use Rattle.meta_setting_tables.specs.GroupTables.{IsPresetOf, Applies}
use Rattle.meta_setting_tables.proofs.OneGroup.{same_byte}

-- what is joined with a number again stays as it is
or_again : (a m : ℕ) → bit_or (bit_or a m) m ≡ bit_or a m
or_again a m = same_from_bits (bit_or (bit_or a m) m) (bit_or a m)
    (λ i. bit_at_or (bit_or a m) m i ∙ ap (λ x. max x (bit_at m i)) (bit_at_or a m i)
    ∙ again (bit_at a i) (bit_at m i) ∙ sym (bit_at_or a m i))
  where
    again : (x y : ℕ) → max (max x y) y ≡ max x y
    again x y = omega arith

-- bytes that are joined with masks again stay as they are
pub joined_again : (masks old once twice : List ℕ) → length masks ≡ length old → AreJoined old masks once
    → AreJoined once masks twice → twice ≡ once
joined_again masks old once twice long p q = same_places twice once q.size each
  where
    each : (k : ℕ) → k < length twice → slice_get twice k ≡ slice_get once k
    each k less =
        let size = p.size in
        let other = q.size in
        let o = get_there old k (omega (arith, less, size, other)) in
        let m = get_there masks k (omega (arith, less, size, other, long)) in
        let first = p.each k o.0 m.0 o.1 m.1 in
        q.each k (bit_or o.0 m.0) m.0 first m.1 ∙ ap Some (or_again o.0 m.0) ∙ sym first

-- an entry is a preset of the group, or it isn't
preset_or_none : (g : Layout) (e : ℕ) → ((p : BuiltPreset) × IsPresetOf g e p) ⊎ ((p : BuiltPreset) → IsPresetOf g e p → ⊥)
preset_or_none g e = ⊎_elim
    (λ setting. inr (λ p is. let after = is.after in absurd (omega (arith, setting, after))))
    (λ past. ⊎_elim
    (λ within. let p = get_there g.presets (e - length g.settings) within in
    inl (p.0, record { number = e - length g.settings; after = omega (arith, past); there = p.1 }))
    (λ out. inr (λ p is. let after = is.after in let l = slice_get_within g.presets is.number p is.there in
    absurd (omega (arith, out, after, l))))
    (cases_lt (e - length g.settings) (length g.presets)))
    (cases_lt e (length g.settings))

module _ (g : Layout) (p : BuiltPreset) (old once twice : List ℕ) (fits : All (λ b. b < 256) once)
    (fits_too : All (λ b. b < 256) twice) where
  -- bits that are turned on again stay as they are
  turned_again : TurnsOnOnly g p old once → TurnsOnOnly g p once twice → twice ≡ once
  turned_again first second = same_places twice once second.size each
    where
      each : (k : ℕ) → k < length twice → slice_get twice k ≡ slice_get once k
      each k less =
          let size = first.size in
          let other = second.size in
          let o = get_there old k (omega (arith, less, size, other)) in
          let b = get_there once k (omega (arith, less, other)) in
          let c = get_there twice k less in
          c.1
          ∙ ap Some
          (same_byte c.0 b.0 (at_place (λ n. n < 256) twice k c.0 fits_too c.1) (at_place (λ n. n < 256) once k b.0 fits b.1)
          (λ bit low.
          let f = first.bits k o.0 b.0 bit o.1 b.1 low in
          let s = second.bits k b.0 c.0 bit b.1 c.1 low in
          (λ on. ⊎_elim (λ was. was) (λ turned. f.1 (inr turned)) (s.0 on), λ on. s.1 (inl on))))
          ∙ sym b.1

-- a preset that is applied again changes nothing
pub applied_again : (g : Layout) (e : ℕ) (old once twice : List ℕ) (first second : Bool) → All (λ b. b < 256) once
    → All (λ b. b < 256) twice → Applies g e old once first → Applies g e once twice second → twice ≡ once
applied_again g e old once twice first second fits fits_too p q = ⊎_elim
    (λ (r, is). ⊎_elim
    (λ sized. ⊎_elim
    (λ long. turned_again g r old once twice fits fits_too (p.applied r is long).1 (q.applied r is sized).1)
    (λ other. absurd (other (sym (ap length (p.unchanged (p.other_size other))) ∙ sized)))
    (cases_eq (length old) g.settings_size))
    (λ other. q.unchanged (q.other_size other))
    (cases_eq (length once) g.settings_size))
    (λ none. q.unchanged (q.no_preset none))
    (preset_or_none g e)
