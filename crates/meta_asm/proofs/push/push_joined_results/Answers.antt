use Rattle.std.proofs.Common.{string_bytes, arith}
use Rattle.std.proofs.lemmas.Option.{slice_get-get_or}
use Rattle.meta_asm.specs.ShortWritten.{manner_in}
use Rattle.meta_asm.proofs.Writing.{result_texts, joined_next, joined_all, text_at, texts_length}
use Rattle.meta_asm.proofs.push.push_joined_results.Goals as goal

pub loop-k-preserved : goal.loop-k-preserved
loop-k-preserved c =
    let rs = c.args.results.now in
    let opened = (manner_in c.args.manner.now).opened in
    let at = slice_get-get_or rs c.loop-k.k _ c.loop-k-test.true in
    joined_next (string_bytes c.args.out.now) (result_texts opened rs) c.loop-k.k _
    (text_at opened rs c.loop-k.k _ c.is_opened.result at c.is_opened.ensures) c.loop-k.invariant c.in_ok-push_comma.ensures
    c.in_ok-push_result.ensures

pub returns : goal.returns
returns c =
    let opened = (manner_in c.args.manner.now).opened in
    let past = c.loop-k-test.false in
    let most = c.loop-k.auto.k-end in
    let all = texts_length opened c.args.results.now in
    joined_all (string_bytes c.args.out.now) (result_texts opened c.args.results.now) c.loop-k.k
    (omega (arith, past, most, all)) c.loop-k.invariant
