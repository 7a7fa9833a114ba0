use Rattle.std.proofs.Common.{◌+◌, ◌≡◌, ◌++◌, get_or, refl}
use Rattle.meta_file_syntax.specs.Scan.{given}
use Rattle.meta_file_syntax.specs.TokenLines.{each}
use Rattle.meta_file_syntax.proofs.Scanning.{tokens_more, lines_more, last_more, line_below, numbered, as_many_lines}
use Rattle.meta_file_syntax.proofs.scanner.scan.Goals as goal

pub loop-byte-preserved : goal.loop-byte-preserved
loop-byte-preserved c =
    let text = c.args.text.now in
    let l = c.loop-byte in
    let i = l.byte-index in
    let byte = get_or text i 0 in
    let mode = l.scanner.mode in
    let bytes = l.scanner.bytes.items in
    let tokens = l.scanner.tokens.items in
    let within = c.loop-byte-test.true in
    let state = c.in_ok-take.ensures.state in
    let added = c.in_ok-take.ensures.tokens in
    let after = c.line_past-line.ensures in
    let lines : c.number.new.lines.items ≡ l.lines.items ++ each l.line (given mode bytes byte) =
    numbered tokens _ _ (given mode bytes byte) l.lines.items _ l.line c.deref.ensures.value l.invariant.each added
    c.in_ok-number.ensures in
    record {
      tokens = tokens_more text i byte mode _ bytes _ tokens _ _ within refl state added l.invariant.tokens;
      lines = lines_more text i byte l.line _ mode _ bytes _ l.lines.items _ _ within refl state after lines l.invariant.lines;
      each = as_many_lines tokens _ (given mode bytes byte) l.lines.items _ l.line l.invariant.each added lines;
      last = last_more text i byte l.last_line l.line _ _ within refl after l.invariant.last;
      below = line_below l.line byte _ (i + 1) after l.invariant.below;
    }
