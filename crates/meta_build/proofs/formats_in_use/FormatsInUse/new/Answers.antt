use Rattle.std.proofs.Common.{ap, ◌∙◌, false, replicate, sym, subst}
use Rattle.std.specs.Map.{lookup}
use Rattle.std.specs.Ordering.{is_eq}
use Rattle.meta_operands.specs.Structure.{same_structure}
use Rattle.meta_build.specs.FormatsUsed.{AreOfTable}
use Rattle.meta_build.specs.FormatsIndexed.{HasName, HasStructure}
use Rattle.meta_build.proofs.FormatPlaces.{none_marked, no_places, name_order}
use Rattle.meta_build.proofs.formats_in_use.FormatsInUse.new.Goals as goal

pub returns-clause-indexed : goal.returns-clause-indexed
returns-clause-indexed c =
    let formats = c.args.formats.now in
    let none = c.new.ensures.items in
    record {
      of_table = subst (AreOfTable formats) (sym none) (λ k f at. absurd (cc));
      marked = none_marked formats c.new.result.items _ none (c.in_ok-vec.ensures.items_if_clones_equal (λ y e. e)
          ∙ ap (λ n. replicate n false) c.len.ensures);
      named = no_places (HasName formats) c.new.result.items _ none
          (λ key. ap (lookup (λ q. is_eq (name_order key q))) c.new-2.ensures.empty);
      structured = no_places HasStructure c.new.result.items _ none (λ key. ap (lookup (same_structure key)) c.new-3.ensures.empty);
    }
