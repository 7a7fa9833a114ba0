use Rattle.std.proofs.Common.{string_bytes, refl, arith}
use Rattle.std.proofs.lemmas.Option.{slice_get-get_or}
use Rattle.std.proofs.lemmas.Result.{on_ok_weaker}
use Rattle.meta_query_lines.specs.Explanation.{found_text}
use Rattle.meta_query_lines.proofs.ListedLemmas.{none_first, one_more_first, all_first}
use Rattle.meta_query_lines.proofs.finding.push_found.Goals as goal

pub loop-k-init : goal.loop-k-init
loop-k-init c = none_first (found_text c.args.tables.now) c.args.found.now (string_bytes c.args.out.now)

pub push_found_one-requires-clause-control : goal.push_found_one-requires-clause-control
push_found_one-requires-clause-control c =
    (c.requires c.loop-k.k _ (slice_get-get_or c.args.found.now c.loop-k.k _ c.loop-k-test.true)).0

pub push_found_one-requires-clause-second : goal.push_found_one-requires-clause-second
push_found_one-requires-clause-second c =
    (c.requires c.loop-k.k _ (slice_get-get_or c.args.found.now c.loop-k.k _ c.loop-k-test.true)).1

pub loop-k-preserved : goal.loop-k-preserved
loop-k-preserved c =
    one_more_first (found_text c.args.tables.now) c.args.found.now (string_bytes c.args.out.now) c.loop-k.k _
    (string_bytes c.loop-k.out) (string_bytes c.push_comma.new.out) (string_bytes c.push_found_one.new.out)
    (slice_get-get_or c.args.found.now c.loop-k.k _ c.loop-k-test.true) c.loop-k.invariant c.in_ok-push_comma.ensures
    c.in_ok-push_found_one.ensures

pub returns : goal.returns
returns c =
    let past = c.loop-k-test.false in
    let within = c.loop-k.auto.k-end in
    on_ok_weaker c.push_dash.result
    (λ e. all_first (found_text c.args.tables.now) c.args.found.now (string_bytes c.args.out.now) c.loop-k.k _ (string_bytes c.loop-k.out)
    (string_bytes c.push_dash.new.out) (omega (arith, within, past)) refl c.loop-k.invariant e) c.push_dash.ensures
