use Rattle.meta_program.specs.ShownPath.{shown_path}
use Rattle.meta_program.proofs.Texts.{one_declared, not_refused}
use Rattle.meta_program.proofs.OneMessage.{one_message}
use Rattle.meta_program.proofs.laws.a_text_declares_one_thing.Goals as goal

pub returns-clause-same : goal.returns-clause-same
returns-clause-same c = one_declared c.what_is_read.ensures.read c.one_declaration.ensures

pub returns-clause-refused : goal.returns-clause-refused
returns-clause-refused c = not_refused c.what_is_read.ensures.read c.one_declaration.ensures
    c.items_say_one_thing.ensures.right (λ d e. c.one_first_fault.ensures.valid d e)

pub returns-clause-message : goal.returns-clause-message
returns-clause-message c = λ path text. one_message c.what_is_read.ensures.read c.one_declaration.ensures
    c.items_say_one_thing.ensures.right c.items_say_one_thing.ensures.first (λ d e f. c.one_first_fault.ensures.same d e f)
    (shown_path path) text
