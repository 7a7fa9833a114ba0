use Rattle.std.proofs.Common.{◌≡◌, List, ℕ, Err, length, subst, ap, arith}
use Rattle.meta_file_syntax.specs.declared.items.Item.{Item}
use Rattle.meta_file_declare.specs.AllItems.{IsFirstWrong}
use Rattle.meta_file_declare.specs.declared.refused.DeclareError.TheVariants as declare_errors
use Rattle.meta_program.specs.File.{IsMessageOf}
use Rattle.meta_program.proofs.ItemLines.{wrong_within}
use Rattle.meta_program.proofs.loading.declared_by.Goals as goal

pub undeclared-requires : goal.undeclared-requires
undeclared-requires c =
    let place = c.in-Err-Refused.place in
    let reason = c.in-Err-Refused.reason in
    let gave = c.in-Err-Refused.is in
    let which = c.in-Err-Refused.field-0-is in
    let refused : c.declare.result ≡ Err (declare_errors.Refused place reason) = cc in
    let wrong = subst (λ (is : List Item). IsFirstWrong is place reason) c.deref.ensures.value
    (c.declare.ensures.refused place reason refused) in
    omega (arith, wrong_within c.args.items.now.items.items place reason wrong, ap length c.deref-in-Err-Refused.ensures.value, c.requires)

pub returns-in_ok-message-in-Err-Refused-clause-refused : goal.returns-in_ok-message-in-Err-Refused-clause-refused
returns-in_ok-message-in-Err-Refused-clause-refused c = λ message e.
    let place = c.in-Err-Refused.place in
    let reason = c.in-Err-Refused.reason in
    let items = c.args.items.now in
    let same : c.in_ok-message-in-Err-Refused.message ≡ message = cc in
    let gave = c.in-Err-Refused.is in
    let which = c.in-Err-Refused.field-0-is in
    let refused : c.declare.result ≡ Err (declare_errors.Refused place reason) = cc in
    record {
      place = place;
      reason = reason;
      wrong = subst (λ (is : List Item). IsFirstWrong is place reason) c.deref.ensures.value
          (c.declare.ensures.refused place reason refused);
      tells = subst (λ (ls : List ℕ). IsMessageOf c.args.path.now ls place reason message) c.deref-in-Err-Refused.ensures.value
          (subst (λ (m : List ℕ). IsMessageOf c.args.path.now c.deref-in-Err-Refused.result.now place reason m) same
          c.in_ok-message-in-Err-Refused.ensures);
    }
