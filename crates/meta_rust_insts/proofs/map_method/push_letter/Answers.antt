use Rattle.std.proofs.Common.{string_bytes}
use Rattle.std.proofs.lemmas.Result.{on_ok_weaker}
use Rattle.meta_rust_insts.proofs.Letters.{snake_more}
use Rattle.meta_rust_insts.proofs.map_method.push_letter.Goals as goal

pub returns : goal.returns
returns c =
    on_ok_weaker c.write.result
    (λ e rest. snake_more (string_bytes c.args.out.now) _ _ c.args.later c.args.c _ rest e c.mark_before-mark.ensures
    c.to_ascii_lowercase-letter.ensures.value)
    c.write.ensures.bytes
