use Rattle.std.proofs.Common.{◌≡◌, List, true, sym, subst}
use Rattle.meta_file_syntax.specs.declared.kinds.EnumValue.{EnumValue}
use Rattle.meta_file_types.specs.Said.{after_sort}
use Rattle.meta_file_types.specs.Held.{registered}
use Rattle.meta_file_types.specs.Texts.{value_texts, are_texts}
use Rattle.meta_file_types.proofs.Kinding.{sort_entity, sort_imm, sort_varargs, sort_enum}
use Rattle.meta_file_types.proofs.TextParts.{sort_values}
use Rattle.meta_file_types.proofs.types.Types.sort_of.Goals as goal

pub returns-in-Entity-clause-means : goal.returns-in-Entity-clause-means
returns-in-Entity-clause-means g c = sort_entity (registered c.args.self.now
    (after_sort g.said c.args.sort.now)) g.said.words c.args.sort.now c.in-Entity.is

pub returns-in-Imm-clause-means : goal.returns-in-Imm-clause-means
returns-in-Imm-clause-means g c = sort_imm (registered c.args.self.now
    (after_sort g.said c.args.sort.now)) g.said.words c.args.sort.now c.in-Imm.is

pub returns-in-Varargs-clause-means : goal.returns-in-Varargs-clause-means
returns-in-Varargs-clause-means g c =
    sort_varargs (registered c.args.self.now (after_sort g.said c.args.sort.now)) g.said.words c.args.sort.now c.in-Varargs.is

pub returns-in_ok-enum_values-in-ImmEnum-clause-means : goal.returns-in_ok-enum_values-in-ImmEnum-clause-means
returns-in_ok-enum_values-in-ImmEnum-clause-means g c =
    sort_enum g.said.words c.args.sort.now _ c.as_slice.result.now c.in-ImmEnum.is c.as_slice.ensures
    (registered c.args.self.now
    (after_sort g.said c.args.sort.now)) c.in_ok-enum_values-in-ImmEnum.field-0 c.in_ok-enum_values-in-ImmEnum.ensures

pub enum_values-requires : goal.enum_values-requires
enum_values-requires g c =
    subst (λ (values : List EnumValue). are_texts (value_texts values) ≡ true) (sym c.as_slice.ensures)
    (sort_values c.args.sort.now _ c.in-ImmEnum.is c.requires.1)
