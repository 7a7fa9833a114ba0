use Rattle.std.proofs.Common.{rules, length, map, sym, subst₂, ◌∙◌, ap, arith}
use Rattle.std.specs.Option.{option_copied}
use Rattle.std.proofs.lemmas.Result.{IfOk-weaker}
use Rattle.meta_unique.specs.Interning.{pointed_to}
use Rattle.meta_unique.specs.Slots.{IsSlots}
use Rattle.meta_unique.specs.NameSlots.{HashesTo, numbers_from}
use Rattle.meta_unique.proofs.Numbered.{number_inside, count_of_numbers, slots_by, count_of_names}
use Rattle.meta_unique.proofs.names.name_slots.Goals as goal

pub generate_table-requires-clause-few : goal.generate_table-requires-clause-few
generate_table-requires-clause-few c =
    let e = ap length (c.as_slice.ensures.value ∙ c.in_ok-numbers.ensures) ∙ count_of_numbers c.args.first (length c.args.names.now) in
    let few = c.requires.few in omega (arith, e, few)

pub generate_table-requires-clause-callable : goal.generate_table-requires-clause-callable
generate_table-requires-clause-callable c =
    λ p inside lts place same bound unit fits fits' lts'. number_inside _ _ _ _ (c.as_slice.ensures.value ∙ c.in_ok-numbers.ensures) inside

pub returns-clause-slots : goal.returns-clause-slots
returns-clause-slots c =
    let table = slots_by _ (HashesTo c.args.first (pointed_to c.args.names.now)) c.as_slice.result.now _
    (λ x h says. search rules) c.in_ok-table.ensures.slots in
    let items = c.as_slice.ensures.value ∙ c.in_ok-numbers.ensures ∙ ap (numbers_from c.args.first) (sym (count_of_names c.args.names.now))
    in
    IfOk-weaker _ _ _ (λ v e. subst₂ (IsSlots (HashesTo c.args.first (pointed_to c.args.names.now))) items
    (sym (e ∙ ap (map option_copied) c.as_slice-2.ensures.value)) table) c.pointed_at.ensures
