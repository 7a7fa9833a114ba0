use Rattle.std.proofs.Common.{◌≡◌, ◌++◌, ap, ◌∙◌, add-one, string_bytes}
use Rattle.meta_rust_insts.specs.MapMethod.{mapped_value, mapped_below}
use Rattle.meta_rust_insts.proofs.map_method.mapped_elements.Goals as goal

pub loop-place-preserved : goal.loop-place-preserved
loop-place-preserved c =
    let place = c.loop-place.place in
    let added : string_bytes c.push_mapped_value.new.out ≡ mapped_below place ++ mapped_value place = c.in_ok-push_mapped_value.ensures
    ∙ ap (λ text. text ++ mapped_value place) c.loop-place.invariant in
    rw add-one added
