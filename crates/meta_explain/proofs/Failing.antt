-- Which part of what is asked fails first.
use Rattle.std.proofs.Common.{◌≡◌, ◌<◌, ◌≤◌, ◌+◌, ⊎_elim, ℕ, zero, suc, List, ◌++◌, length, Option, Some, refl, sym, ◌∙◌, ap, subst, arith}
use Rattle.std.proofs.Common.{length-append, None, IfSome, All}
use Rattle.std.proofs.lemmas.Bool.{cases_order, cases_lt}
use Rattle.std.proofs.lemmas.Option.{same_Some, slice_get_within}
use Rattle.meta_lists.proofs.Everywhere.{everywhere}
use Rattle.meta_lists.proofs.Places.{get_stays, get_right, get_cases}
use Rattle.meta_types.specs.TypeNumber.{IsTypeNumber}
use Rattle.meta_inst.specs.Which.{Which}
use Rattle.meta_inst.specs.Tables.{TableContents, OpcodeNumbers, at_opcode, ControlNumberFits, PassesAt, result_count, value_count}
use Rattle.meta_gen.specs.Contents.{AllPass}
use Rattle.meta_gen.specs.WellFormedOpcodes.{IsWellFormedOpcodes}
use Rattle.meta_explain.specs.Parts.{numbers_of, Accepts, PartPasses, order_of, FailsFirstBy, FailsFirst}
use Rattle.meta_explain.specs.Search.{TypesAlonePass, IsFirstUnfit}
use Rattle.meta_explain.specs.declared.control_types.ControlTypes.{ControlTypes}
use Rattle.meta_explain.specs.declared.part.Part.{Part}
use Rattle.meta_explain.specs.declared.part.Part.TheVariants.{Control, Second, ResultCount, ValueCount, Operand}
use Rattle.meta_explain.proofs.Typed.{fitting_types, control_typed}

-- ---- the order of the parts

-- what holds of the parts one by one, each if it comes before n, holds of each part before n
earlier_parts : (P : Part → Type 0) (n : ℕ) → (0 < n → P Control) → (1 < n → P Second) → (2 < n → P ResultCount) → (3 < n → P ValueCount)
    → ((k : ℕ) → 4 + k < n → P (Operand k)) → (p : Part) → order_of p < n → P p
earlier_parts P n a b c d e Control l = a l
earlier_parts P n a b c d e Second l = b l
earlier_parts P n a b c d e ResultCount l = c l
earlier_parts P n a b c d e ValueCount l = d l
earlier_parts P n a b c d e (Operand k) l = e k l

-- the part at a place of the order
part_at : ℕ → Part
part_at zero = Control
part_at (suc zero) = Second
part_at (suc (suc zero)) = ResultCount
part_at (suc (suc (suc zero))) = ValueCount
part_at (suc (suc (suc (suc k)))) = Operand k

part_again : (p : Part) → part_at (order_of p) ≡ p
unfolding part_at
part_again Control = refl
part_again Second = refl
part_again ResultCount = refl
part_again ValueCount = refl
part_again (Operand k) = let e : 4 + k ≡ suc (suc (suc (suc k))) = omega arith in ap part_at e

-- no two parts have one place
same_part : (p q : Part) → order_of p ≡ order_of q → p ≡ q
same_part p q e = sym (part_again p) ∙ ap part_at e ∙ part_again q

-- ---- the first part that fails

module _ (tables : TableContents) (e : OpcodeNumbers) (c : ControlTypes) (rs vs : List ℕ) where
  pub fails_control : (ControlNumberFits tables e.typeset_offset c.ctrl → ⊥) → FailsFirstBy tables e c rs vs Control
  fails_control unfit = record { fails = unfit; earlier = λ q l. absurd (omega (arith, l)) }

  module _ (first : ControlNumberFits tables e.typeset_offset c.ctrl) where
    pub fails_second : (ControlNumberFits tables e.second_offset c.second → ⊥) → FailsFirstBy tables e c rs vs Second
    fails_second unfit = record {
      fails = unfit;
      earlier = earlier_parts (PartPasses tables e c rs vs) 1 (λ l. first) (λ l. absurd (omega (arith, l))) (λ l. absurd (omega (arith, l)))
          (λ l. absurd (omega (arith, l))) (λ k l. absurd (omega (arith, l)));
    }

    module _ (second : ControlNumberFits tables e.second_offset c.second) where
      pub fails_results : (length rs ≡ result_count e.flags → ⊥) → FailsFirstBy tables e c rs vs ResultCount
      fails_results unfit = record {
        fails = unfit;
        earlier = earlier_parts (PartPasses tables e c rs vs) 2 (λ l. first) (λ l. second) (λ l. absurd (omega (arith, l)))
            (λ l. absurd (omega (arith, l))) (λ k l. absurd (omega (arith, l)));
      }

      module _ (results : length rs ≡ result_count e.flags) where
        pub fails_values : (length vs ≡ value_count e.flags → ⊥) → FailsFirstBy tables e c rs vs ValueCount
        fails_values unfit = record {
          fails = unfit;
          earlier = earlier_parts (PartPasses tables e c rs vs) 3 (λ l. first) (λ l. second) (λ l. results)
              (λ l. absurd (omega (arith, l))) (λ k l. absurd (omega (arith, l)));
        }

        module _ (values : length vs ≡ value_count e.flags) where
          pub fails_operand : (k : ℕ) → IsFirstUnfit tables (numbers_of c) e.constraint_offset (rs ++ vs) k
              → FailsFirstBy tables e c rs vs (Operand k)
          fails_operand k u = record {
            fails = λ passes. u.fails (passes u.number u.at);
            earlier = earlier_parts (PartPasses tables e c rs vs) (4 + k) (λ l. first) (λ l. second) (λ l. results) (λ l. values)
                (λ j l n at. u.before j n (omega (arith, l)) at);
          }

          pub fails_nowhere : AllPass tables (numbers_of c) e.constraint_offset (rs ++ vs) → (p : Part) → PartPasses tables e c rs vs p
          fails_nowhere all Control = first
          fails_nowhere all Second = second
          fails_nowhere all ResultCount = results
          fails_nowhere all ValueCount = values
          fails_nowhere all (Operand k) = all k

  -- where an operand is the first to fail, types alone pass
  pub types_of_operand : (p : Part) → FailsFirstBy tables e c rs vs p → IsWellFormedOpcodes tables → (k : ℕ) → p ≡ Operand k
      → TypesAlonePass tables (numbers_of c)
  types_of_operand p f well k is =
      let g : FailsFirstBy tables e c rs vs (Operand k) = subst (FailsFirstBy tables e c rs vs) is f in
      fitting_types tables e c well (g.earlier Control (omega arith)) (g.earlier Second (omega arith))

  -- and there are few operands
  pub few_operands : (p : Part) → FailsFirstBy tables e c rs vs p → (k : ℕ) → p ≡ Operand k → k < 16
  few_operands p f k is =
      let g : FailsFirstBy tables e c rs vs (Operand k) = subst (FailsFirstBy tables e c rs vs) is f in
      let results : length rs ≡ result_count e.flags = g.earlier ResultCount (omega arith) in
      let values : length vs ≡ value_count e.flags = g.earlier ValueCount (omega arith) in
      let long = length-append rs vs in
      ⊎_elim
      (λ (l : k < length (rs ++ vs)). omega (arith, l, results, values, long))
      (λ (l : length (rs ++ vs) ≤ k). absurd (g.fails (λ n there.
      let within = slice_get_within (rs ++ vs) k n there in absurd (omega (arith, l, within)))))
      (cases_lt k (length (rs ++ vs)))

-- ---- two lists, one after the other

module _ (tables : TableContents) (c : Which → Option ℕ) (offset : ℕ) (rs vs : List ℕ) where
  pub first_in_left : (k : ℕ) → IsFirstUnfit tables c offset rs k → IsFirstUnfit tables c offset (rs ++ vs) k
  first_in_left k u = record {
    number = u.number;
    at = get_stays rs vs k u.number u.at;
    fails = u.fails;
    before = λ j n l at. ⊎_elim (λ here. u.before j n l here)
        (λ there. let e = there.1 in let within = slice_get_within rs k u.number u.at in absurd (omega (arith, l, e, within)))
        (get_cases rs vs j n at);
  }

  -- a place after the first list
  placed : (j k n : ℕ) → k ≡ length rs + j → PassesAt tables c (offset + length rs + j) n → PassesAt tables c (offset + k) n
  placed j k n e p = let same : offset + length rs + j ≡ offset + k = omega (arith, e) in subst (λ m. PassesAt tables c m n) same p

  pub first_in_right : AllPass tables c offset rs → (k : ℕ) → IsFirstUnfit tables c (offset + length rs) vs k
      → IsFirstUnfit tables c offset (rs ++ vs) (length rs + k)
  first_in_right all k u = record {
    number = u.number;
    at = get_right rs vs k ∙ u.at;
    fails = λ p. let same : offset + (length rs + k) ≡ offset + length rs + k = omega arith in
        u.fails (subst (λ m. PassesAt tables c m u.number) same p);
    before = λ j n l at. ⊎_elim (λ here. all j n here)
        (λ there. let e = there.1 in placed there.0 j n e (u.before there.0 n (omega (arith, l, e)) there.2))
        (get_cases rs vs j n at);
  }

  pub all_in_both : AllPass tables c offset rs → AllPass tables c (offset + length rs) vs → AllPass tables c offset (rs ++ vs)
  all_in_both first second k n at = ⊎_elim (λ here. first k n here) (λ there. placed there.0 k n there.1 (second there.0 n there.2))
      (get_cases rs vs k n at)

-- ---- what is accepted

module _ (tables : TableContents) (op : ℕ) (e : OpcodeNumbers) (c : ControlTypes) (rs vs : List ℕ) (at : at_opcode tables.entries op
    ≡ Some e) where
  pub all_accepted : ((p : Part) → PartPasses tables e c rs vs p) → Accepts tables op c rs vs
  all_accepted all = record {
    entry = e;
    is_opcode = at;
    results = all ResultCount;
    values = all ValueCount;
    control_fits = all Control;
    second_fits = all Second;
    passes = λ k. all (Operand k);
  }

  -- the parts by the entry of what is accepted
  own_parts : (a : Accepts tables op c rs vs) (p : Part) → PartPasses tables a.entry c rs vs p
  own_parts a Control = a.control_fits
  own_parts a Second = a.second_fits
  own_parts a ResultCount = a.results
  own_parts a ValueCount = a.values
  own_parts a (Operand k) = a.passes k

  pub accepted_parts : Accepts tables op c rs vs → (p : Part) → PartPasses tables e c rs vs p
  accepted_parts a p = subst (λ x. PartPasses tables x c rs vs p) (same_Some a.entry e (sym a.is_opcode ∙ at)) (own_parts a p)

pub refused : (tables : TableContents) (op : ℕ) (c : ControlTypes) (rs vs : List ℕ) (p : Part) → FailsFirst tables op c rs vs p
    → Accepts tables op c rs vs → ⊥
refused tables op c rs vs p f a = f.first.fails (accepted_parts tables op f.entry c rs vs f.is_opcode a p)

-- two parts aren't both the first
pub one_fails_first : (tables : TableContents) (op : ℕ) (c : ControlTypes) (rs vs : List ℕ) (p q : Part) → FailsFirst tables op c rs vs p
    → FailsFirst tables op c rs vs q → p ≡ q
one_fails_first tables op c rs vs p q f g = ⊎_elim
    (λ e. same_part p q e)
    (⊎_elim
    (λ (l : order_of p < order_of q). absurd (f.first.fails (subst (λ x. PartPasses tables x c rs vs p) (sym same) (g.first.earlier p l))))
    (λ (l : order_of q < order_of p). absurd (g.first.fails (subst (λ x. PartPasses tables x c rs vs q) same (f.first.earlier q l)))))
    (cases_order (order_of p) (order_of q))
  where
    same : f.entry ≡ g.entry
    same = same_Some f.entry g.entry (sym f.is_opcode ∙ g.is_opcode)

-- ---- what is told is a type

-- a control that fits is a type, if there is one
typed_control : (tables : TableContents) (offset : ℕ) (c : Option ℕ) → ControlNumberFits tables offset c → IfSome c IsTypeNumber
typed_control tables offset None fits = tt
typed_control tables offset (Some n) fits = control_typed tables offset (Some n) n fits refl

pub accepted_types : (tables : TableContents) (op : ℕ) (c : ControlTypes) (rs vs : List ℕ) → IsWellFormedOpcodes tables
    → Accepts tables op c rs vs → IfSome c.ctrl IsTypeNumber × IfSome c.second IsTypeNumber × All IsTypeNumber (rs ++ vs)
accepted_types tables op c rs vs well a = (
  typed_control tables a.entry.typeset_offset c.ctrl a.control_fits,
  typed_control tables a.entry.second_offset c.second a.second_fits,
  everywhere (rs ++ vs) (λ k n there. fitting_types tables a.entry c well a.control_fits a.second_fits
      (a.entry.constraint_offset + k) n (a.passes k n there)),
)

pub operand_type : (tables : TableContents) (op : ℕ) (c : ControlTypes) (rs vs : List ℕ) (k n : ℕ) → IsWellFormedOpcodes tables
    → (f : FailsFirst tables op c rs vs (Operand k)) → PassesAt tables (numbers_of c) (f.entry.constraint_offset + k) n → IsTypeNumber n
operand_type tables op c rs vs k n well f p =
    types_of_operand tables f.entry c rs vs (Operand k) f.first well k refl (f.entry.constraint_offset + k) n p
