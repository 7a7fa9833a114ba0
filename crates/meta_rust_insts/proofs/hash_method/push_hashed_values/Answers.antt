use Rattle.std.proofs.Common.{codes, refl}
use Rattle.std.proofs.lemmas.Result.{on_ok_weaker}
use Rattle.meta_text.proofs.Steps.{filled_is}
use Rattle.meta_rust_insts.proofs.MethodTemplates.{each_value_same}
use Rattle.meta_rust_insts.proofs.hash_method.push_hashed_values.Goals as goal

pub returns-in-One : goal.returns-in-One
returns-in-One c = rw c.in-One.is (on_ok_weaker c.fill.result
    (λ e. filled_is _ _ _ _ _ _ e refl (each_value_same (codes "1") (codes "core::slice::from_ref(arg)"))) c.fill.ensures)

pub returns-in-Listed : goal.returns-in-Listed
returns-in-Listed c = rw c.in-Listed.is (on_ok_weaker c.fill-in-Listed.result
    (λ e. filled_is _ _ _ _ _ _ e refl (each_value_same (codes "args.len(pool)") (codes "args.as_slice(pool)"))) c.fill-in-Listed.ensures)
