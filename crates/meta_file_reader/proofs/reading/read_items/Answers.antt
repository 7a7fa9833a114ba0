use Rattle.meta_file_reader.specs.declared.reading.ReadItems.{ReadItems}
use Rattle.meta_file_reader.proofs.Refusals.{is_found, is_fitting, is_utf8_text, is_only, is_refused}
use Rattle.meta_file_reader.proofs.reading.read_items.Goals as goal

pub returns-clause-found : goal.returns-clause-found
returns-clause-found c = is_found {X = ReadItems} (λ v. v.items.items) c.args.text.now c.read_text.result c.read_text.ensures.exact

pub returns-clause-fit : goal.returns-clause-fit
returns-clause-fit c = is_fitting {X = ReadItems} (λ v. v.items.items) c.args.text.now c.read_text.result c.read_text.ensures.exact

pub returns-clause-utf8 : goal.returns-clause-utf8
returns-clause-utf8 c = is_utf8_text {X = ReadItems} (λ v. v.items.items) c.args.text.now c.read_text.result c.read_text.ensures.exact

pub returns-clause-only : goal.returns-clause-only
returns-clause-only c = λ is fit e. is_only {X = ReadItems}
    (λ v. v.items.items) c.args.text.now c.read_text.result is c.read_text.ensures.exact fit e

pub returns-clause-refused : goal.returns-clause-refused
returns-clause-refused c = λ r e. is_refused {X = ReadItems}
    (λ v. v.items.items) c.args.text.now c.read_text.result r c.read_text.ensures.exact e
