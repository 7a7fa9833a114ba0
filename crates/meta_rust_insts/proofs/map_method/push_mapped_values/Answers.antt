use Rattle.std.proofs.Common.{◌++◌, codes, string_bytes, ap, ◌∙◌}
use Rattle.std.proofs.lemmas.Result.{on_ok_weaker}
use Rattle.meta_rust_insts.specs.MapMethod.{mapped_values, mapped_array}
use Rattle.meta_rust_insts.proofs.map_method.push_mapped_values.Goals as goal

pub returns-in_ok-elements-in-Several : goal.returns-in_ok-elements-in-Several
unfolding mapped_values mapped_array
returns-in_ok-elements-in-Several c = rw c.in-Several.is (on_ok_weaker c.write.result
    (λ e. e ∙ ap (λ t. string_bytes c.args.out.now ++ (codes "                    args: [" ++ (t ++ codes "],\n")))
    (c.as_str-elements.ensures.value ∙ c.in_ok-elements-in-Several.ensures)) c.write.ensures.bytes)
