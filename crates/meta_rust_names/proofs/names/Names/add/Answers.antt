use Rattle.std.proofs.Common.{◌∙◌, ◌||◌, ap, string_bytes, true}
use Rattle.std.proofs.lemmas.Map.Text.{btree_set_updates_text}
use Rattle.meta_operands.specs.Texts.{same_text}
use Rattle.meta_rust_names.specs.Known.{known}
use Rattle.meta_rust_names.proofs.Truths.{true_or}
use Rattle.meta_rust_names.proofs.names.Names.add.Goals as goal

pub returns : goal.returns
returns c = λ text.
    btree_set_updates_text (string_bytes c.args.name) c.self.inside.texts _ true c.in_ok-insert.ensures.updates text
    ∙ true_or (same_text (string_bytes c.args.name) text) (known c.self.inside.texts text)
    ∙ ap (λ s. same_text (string_bytes c.args.name) text || known s text) c.self.view_is
