use Rattle.std.proofs.Common.{◌≡◌, ◌∙◌, length, map, sym, ap}
use Rattle.std.proofs.lemmas.List.{length-map}
use Rattle.meta_shared.specs.KindRows.{key_of_kind, entity_keys}
use Rattle.meta_shared.proofs.Kinded.{are_entities, entities_hold_none}
use Rattle.meta_shared.proofs.entities.EntityRefs.new.Goals as goal

pub named-requires : goal.named-requires
named-requires c =
    let keys : map key_of_kind c.in_ok-make_kinds.field-0.items ≡ entity_keys = c.in_ok-make_kinds.ensures in
    sym (length-map c.in_ok-make_kinds.field-0.items key_of_kind) ∙ ap length keys

pub returns-clause-kinds : goal.returns-clause-kinds
returns-clause-kinds c =
    let keys : map key_of_kind c.in_ok-make_kinds.field-0.items ≡ entity_keys = c.in_ok-make_kinds.ensures in
    are_entities _ c.in_ok-make_kinds.field-0.items c.named.ensures keys

pub returns-clause-no_variable : goal.returns-clause-no_variable
returns-clause-no_variable c = entities_hold_none _ (returns-clause-kinds c)
