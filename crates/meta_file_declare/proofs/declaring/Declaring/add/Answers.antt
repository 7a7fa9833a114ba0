use Rattle.std.proofs.Common.{◌≡◌, Option, Some, length, slice_get, refl, sym, ap, ◌∙◌, subst}
use Rattle.std.proofs.lemmas.Option.{slice_get_read, same_Some}
use Rattle.meta_file_declare.specs.SaidOfInsts.{Above, after}
use Rattle.meta_file_declare.specs.Named.{Known}
use Rattle.meta_file_declare.specs.Wrong.{wrong_with}
use Rattle.meta_file_declare.specs.OpenGroup.{group_in, known_in, groups_so_far, groups_after}
use Rattle.meta_file_declare.specs.AllItems.{wrong_of_set}
use Rattle.meta_file_declare.specs.SoFar.{HoldsSet}
use Rattle.meta_file_declare.proofs.Folding.{said_more, group_wrong}
use Rattle.meta_file_declare.proofs.TextParts.{right_texts}
use Rattle.meta_file_declare.proofs.declaring.Declaring.add.Goals as goal

pub returns-in_ok-add-in-None-clause-set : goal.returns-in_ok-add-in-None-clause-set
returns-in_ok-add-in-None-clause-set g c =
    let items = c.args.items.now in
    let item = c.index-items-place.result in
    let at : slice_get items c.args.place ≡ Some item =
    slice_get_read items (length items) c.args.place item refl c.requires.1.0 c.index-items-place.is in
    subst (λ (a : Above). HoldsSet c.add_to_set.new.types c.add_to_set.new.insts a)
    (ap (λ (a : Above). after a c.args.place item) c.requires.0 ∙ sym (said_more items c.args.place item at))
    c.in_ok-add_to_set.ensures.kept

pub returns-in_ok-add-in-None-clause-groups : goal.returns-in_ok-add-in-None-clause-groups
returns-in_ok-add-in-None-clause-groups g c = λ other here.
    let items = c.args.items.now in
    let item = c.index-items-place.result in
    let groups = c.args.self.now.groups in
    let at : slice_get items c.args.place ≡ Some item =
    slice_get_read items (length items) c.args.place item refl c.requires.1.0 c.index-items-place.is in
    c.in_ok-add-in-None.ensures.added
    ∙ ap (groups_after (groups_so_far groups.done.items (group_in groups.current))) (same_Some item other (sym at ∙ here))

pub returns-in_ok-add-in-None-clause-right : goal.returns-in_ok-add-in-None-clause-right
returns-in_ok-add-in-None-clause-right g c =
    let items = c.args.items.now in
    let item = c.index-items-place.result in
    let at : slice_get items c.args.place ≡ Some item =
    slice_get_read items (length items) c.args.place item refl c.requires.1.0 c.index-items-place.is in
    group_wrong items c.args.place item at (ap (λ (a : Above). wrong_of_set a item) (sym c.requires.0) ∙ c.in_ok-add_to_set.ensures.right)
    ∙ ap (λ (known : Option Known). wrong_with known item) (sym c.requires.1.1.1.1) ∙ sym c.wrong_with.ensures ∙ c.in-None.is

pub add-requires : goal.add-requires
add-requires g c = record {
  kept = c.requires.1.1.1.0;
  texts = right_texts (known_in c.args.self.now.groups.current) c.index-items-place.result (sym c.wrong_with.ensures ∙ c.in-None.is);
}
