use Rattle.std.proofs.Common.{◌≡◌, ◌++◌, string_bytes, sym, ap, ◌∙◌}
use Rattle.std.proofs.lemmas.Result.{on_ok_weaker}
use Rattle.meta_types.specs.TypeParts.{name_of}
use Rattle.meta_types.specs.TypeNumber.{type_with}
use Rattle.meta_types.specs.ValueTypes.{type_parts_of}
use Rattle.meta_types.proofs.Numbers.{one_number}
use Rattle.meta_types.proofs.Typed.{typed}
use Rattle.meta_asm.proofs.push.push_type.Goals as goal

pub returns-in-Some : goal.returns-in-Some
returns-in-Some c =
    let same : type_parts_of c.in-Some.t ≡ type_with c.args.number =
    one_number (type_parts_of c.in-Some.t) (type_with c.args.number) (typed c.in-Some.t) c.requires.is_type (c.in-Some.ensures.found
    ∙ sym c.requires.numbered) in
    on_ok_weaker c.write.result (λ e. e ∙ ap (λ t. string_bytes c.args.out.now ++ name_of t) same) c.write.ensures.bytes

pub returns-in-None : goal.returns-in-None
returns-in-None c = absurd (c.in-None.ensures.none (type_with c.args.number) c.requires.is_type c.requires.numbered)
