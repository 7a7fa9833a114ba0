use Rattle.std.proofs.Common.{◌≡◌, false}
use Rattle.std.specs.Prelude.{is_some}
use Rattle.meta_file_declare.specs.FirstNumbers.{number_in}
use Rattle.meta_file_declare.proofs.FirstPlaces.{had_none}
use Rattle.meta_file_declare.proofs.open_group.add_first.Goals as goal

pub returns : goal.returns
returns g c =
    let none : is_some (number_in c.args.numbers.now c.args.name.now) ≡ false =
    let e = c.contains_key.ensures in
    let f = c.if-contains_key.false in cc in
    had_none c.args.numbers.now c.insert.new.self c.args.name.now c.args.number c.in_ok-key.key c.in_ok-key.ensures.items none
    c.in_ok-insert.ensures.updates
