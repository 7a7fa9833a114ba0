use Rattle.std.proofs.Common.{codes, refl}
use Rattle.std.proofs.lemmas.Result.{on_ok_weaker}
use Rattle.meta_text.proofs.Steps.{filled_is}
use Rattle.meta_rust_insts.proofs.MethodTemplates.{each_block_same}
use Rattle.meta_rust_insts.proofs.hash_method.push_hashed_blocks.Goals as goal

pub returns-in-One : goal.returns-in-One
returns-in-One c = rw c.in-One.is (on_ok_weaker c.fill.result
    (λ e. filled_is _ _ _ _ _ _ e refl (each_block_same (codes "1") (codes "core::slice::from_ref(destination)"))) c.fill.ensures)

pub returns-in-Two : goal.returns-in-Two
returns-in-Two c = rw c.in-Two.is (on_ok_weaker c.fill-in-Two.result
    (λ e. filled_is _ _ _ _ _ _ e refl (each_block_same (codes "blocks.len()") (codes "blocks"))) c.fill-in-Two.ensures)
