use Rattle.std.proofs.Common.{◌∙◌, ap, sym, sum}
use Rattle.meta_typevar.specs.Intervals.{Intervals, lanes_between, sets_between}
use Rattle.meta_typevar.proofs.MaskLemmas.{built_sets, built_masks}
use Rattle.meta_typevar.proofs.builder.TypeSetBuilder.build.Goals as goal

pub from_masks-requires : goal.from_masks-requires
from_masks-requires c =
    let b = c.self.inside in
    let parts : Intervals = record {
      ints = b.ints;
      floats = b.floats;
      simd_lanes = b.simd_lanes;
      dynamic_simd_lanes = b.dynamic_simd_lanes;
      includes_scalars = b.includes_scalars;
    } in
    let lanes = c.lanes_mask.ensures ∙ ap (λ (p : Intervals). sum (lanes_between p.includes_scalars p.simd_lanes)) (sym c.self.view_is) in
    built_masks parts _ _ _ _ lanes c.to_mask.ensures c.to_mask-2.ensures c.to_mask-3.ensures

pub returns : goal.returns
returns c =
    let b = c.self.inside in
    let parts : Intervals = record {
      ints = b.ints;
      floats = b.floats;
      simd_lanes = b.simd_lanes;
      dynamic_simd_lanes = b.dynamic_simd_lanes;
      includes_scalars = b.includes_scalars;
    } in
    let lanes = c.lanes_mask.ensures ∙ ap (λ (p : Intervals). sum (lanes_between p.includes_scalars p.simd_lanes)) (sym c.self.view_is) in
    c.from_masks.ensures ∙ built_sets parts _ _ _ _ lanes c.to_mask.ensures c.to_mask-2.ensures c.to_mask-3.ensures
    ∙ ap sets_between c.self.view_is
