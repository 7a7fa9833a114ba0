use Rattle.std.proofs.Common.{map, length, refl, sym, ◌∙◌, false}
use Rattle.std.proofs.lemmas.Option.{slice_get_read, get_or_from_slice_get}
use Rattle.meta_lists.proofs.Mapped.{get_map}
use Rattle.meta_gen.specs.Constraint.{number_constraint_of}
use Rattle.meta_asm.specs.Manners.{is_open}
use Rattle.meta_asm.proofs.manner.Manner.is_opened.Goals as goal

pub returns-in-Some : goal.returns-in-Some
returns-in-Some c =
    let xs = c.args.self.now.results.now in
    let x = c.in-Some.constraint.now in
    let (l, holds) = c.in-Some.ensures.lookup.3 in
    let at = slice_get_read xs (length xs) c.args.place x refl l (holds x) in
    c.is_open.ensures ∙ sym (get_or_from_slice_get (map is_open (map number_constraint_of xs)) c.args.place
    (is_open (number_constraint_of x)) false
    (get_map is_open (map number_constraint_of xs) c.args.place (number_constraint_of x)
    (get_map number_constraint_of xs c.args.place x at)))
