use Rattle.std.proofs.Common.{◌<◌, ◌^◌, ◌++◌, length, ⊎_elim, sym, ◌∙◌, arith}
use Rattle.std.proofs.lemmas.Result.{IfOk-weaker}
use Rattle.meta_table_text.specs.TableText.{sets_list, constraints_part}
use Rattle.meta_table_reader.proofs.OpcodeTextParts.{sets_cases}
use Rattle.meta_table_reader.proofs.opcode_parts.type_sets.Goals as goal

pub returns-then-title-eq118 : goal.returns-then-title-eq118
unfolding sets_list
returns-then-title-eq118 c =
    IfOk-weaker c.list_of.result _ _
    (λ v is t rest shown e.
    let few : length t.type_sets < 2 ^ 64 = let few = shown.few_sets in omega (arith, few) in
    ⊎_elim (λ (none, empty, here). absurd (omega (arith, none, c.byte_at-title.ensures, c.if-title-eq118.true)))
    (λ (some, here). is t.type_sets (constraints_part t ++ rest) shown.sets few here) (sets_cases t rest c.args.cursor.now e))
    c.list_of.ensures

pub returns : goal.returns
returns c = λ t rest shown e.
    ⊎_elim (λ (none, empty, here). (c.new.ensures.items ∙ sym empty, here))
    (λ (some, here). absurd (c.if-title-eq118.false (c.byte_at-title.ensures ∙ some))) (sets_cases t rest c.args.cursor.now e)
