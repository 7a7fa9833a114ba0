use Rattle.std.proofs.Common.{◌++◌, ◌-◌, take, drop, get_or, length, flat_map, refl, sym, ap, ◌∙◌, codes, string_bytes}
use Rattle.meta_lists.proofs.Joined.{two}
use Rattle.meta_table_text.specs.GroupItems.{hex_text}
use Rattle.meta_table_text.proofs.GroupLists.{none_left}
use Rattle.meta_table_text.proofs.Lists.{all_is}
use Rattle.meta_table_text.proofs.Bytes.{comma_hex, no_bytes, bytes_written, byte_more}
use Rattle.meta_table_text.proofs.group_items.hex_bytes.Goals as goal

pub returns-in_default : goal.returns-in_default
returns-in_default c = c.new-text.ensures.bytes ∙ sym (no_bytes c.args.bytes.now c.in_default.len_below)

pub loop-byte-init : goal.loop-byte-init
loop-byte-init c = refl

pub loop-byte-preserved : goal.loop-byte-preserved
loop-byte-preserved c =
    let rest = take (length c.args.bytes.now - 1) (drop 1 c.args.bytes.now) in
    let text = string_bytes c.loop-byte.text in
    byte_more comma_hex rest c.loop-byte.byte-index (string_bytes c.push_hex.new.out ++ flat_map comma_hex rest) text
    (string_bytes c.push_hex-in-loop-byte.new.out) c.loop-byte-test.true
    (two text (codes ", ") (hex_text (get_or rest c.loop-byte.byte-index 0)) c.in_ok-push_str.ensures.bytes c.in_ok-push_hex-2.ensures)
    c.loop-byte.invariant

pub returns : goal.returns
returns c =
    let rest = take (length c.args.bytes.now - 1) (drop 1 c.args.bytes.now) in
    let first = string_bytes c.push_hex.new.out in
    all_is (first ++ flat_map comma_hex rest) (string_bytes c.loop-byte.text) (flat_map comma_hex (drop c.loop-byte.byte-index rest))
    c.loop-byte.invariant (ap (flat_map comma_hex) (none_left rest c.loop-byte.byte-index c.loop-byte-test.false))
    ∙ bytes_written c.args.bytes.now (string_bytes c.new-text.result) first c.in-len1-up.len_at_least c.new-text.ensures.bytes
    c.in_ok-push_hex.ensures
