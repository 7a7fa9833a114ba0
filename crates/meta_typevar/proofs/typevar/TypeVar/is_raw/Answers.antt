use Rattle.std.proofs.Common.{◌∙◌, ap, sym}
use Rattle.meta_typevar.specs.Registry.{set_at}
use Rattle.meta_typevar.proofs.MaskLemmas.{masks_told}
use Rattle.meta_typevar.proofs.typevar.TypeVar.is_raw.Goals as goal

pub returns : goal.returns
returns c =
    let kept = ap set_at c.content.ensures.kept in
    let told = masks_told _ _ _ _ c.masks.ensures.sums c.masks-coded.ensures.sums c.masks.ensures.sets c.masks-coded.ensures.sets in (
      λ e. kept ∙ told.0 (sym c.eq.ensures ∙ e) ∙ c.in_ok-get_typeset.ensures,
      λ raw. c.eq.ensures
          ∙ told.1 (sym kept ∙ raw ∙ sym c.in_ok-get_typeset.ensures),
    )
