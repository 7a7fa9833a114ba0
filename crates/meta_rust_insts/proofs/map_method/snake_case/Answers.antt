use Rattle.std.proofs.Common.{◌||◌, Bool, string_bytes, ap, sym, ◌∙◌}
use Rattle.std.specs.Char.{is_ascii_uppercase, encode_utf8}
use Rattle.std.specs.Str.Iter.{chars_rest}
use Rattle.meta_rust_insts.specs.EntityWord.{snake_case}
use Rattle.meta_rust_insts.proofs.Letters.{snake_step, snake_end}
use Rattle.meta_rust_insts.proofs.map_method.snake_case.Goals as goal

pub loop-c-preserved : goal.loop-c-preserved
loop-c-preserved c =
    snake_step (string_bytes c.loop-c.word) (string_bytes c.push_letter.new.out) (snake_case c.args.name.now)
    (chars_rest c.loop-c.c-iterator) (chars_rest c.next.new.self) (encode_utf8 c.in-Some.c)
    c.loop-c.later c.is_ascii_uppercase-later.result (is_ascii_uppercase c.in-Some.c)
    c.loop-c.invariant c.in-Some.ensures.steps.0 c.in_ok-push_letter.ensures
    (c.is_ascii_uppercase-later.ensures.value ∙ ap (λ (b : Bool). b || is_ascii_uppercase c.in-Some.c) (sym c.if-later.false))

pub loop-c-preserved-then-later : goal.loop-c-preserved-then-later
loop-c-preserved-then-later c =
    snake_step (string_bytes c.loop-c.word) (string_bytes c.push_letter.new.out) (snake_case c.args.name.now)
    (chars_rest c.loop-c.c-iterator) (chars_rest c.next.new.self) (encode_utf8 c.in-Some.c)
    c.loop-c.later c.loop-c.later (is_ascii_uppercase c.in-Some.c)
    c.loop-c.invariant c.in-Some.ensures.steps.0 c.in_ok-push_letter.ensures
    (c.if-later.true ∙ ap (λ (b : Bool). b || is_ascii_uppercase c.in-Some.c) (sym c.if-later.true))

pub returns : goal.returns
returns c =
    snake_end (string_bytes c.loop-c.word) (snake_case c.args.name.now) (chars_rest c.loop-c.c-iterator) c.loop-c.later
    c.loop-c.invariant c.in-None.ensures.steps.0.0
