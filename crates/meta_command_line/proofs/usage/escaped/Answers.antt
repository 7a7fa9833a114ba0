use Rattle.std.proofs.Common.{◌≡◌, ◌∙◌, ◌++◌, ℕ, List, codes, flat_map, string_bytes, append-nil, sym, ap}
use Rattle.std.proofs.lemmas.List.{drop_all}
use Rattle.std.specs.Char.Escape.{escape_ascii}
use Rattle.meta_command_line.proofs.Line.{escaped_plain}
use Rattle.meta_command_line.proofs.usage.escaped.Goals as goal

pub returns-clause-plain : goal.returns-clause-plain
returns-clause-plain c =
    let bytes = c.args.bytes.now in
    let before = string_bytes c.loop-byte.shown in
    let none = drop_all c.loop-byte.byte-index bytes c.loop-byte-test.false in
    let all : before ≡ codes "\"" ++ flat_map escape_ascii bytes =
    sym (append-nil before) ∙ ap (λ (left : List ℕ). before ++ flat_map escape_ascii left) (sym none) ∙ c.loop-byte.invariant in
    escaped_plain bytes (c.in_ok-push_str.ensures.bytes ∙ ap (λ (text : List ℕ). text ++ codes "\"") all)
