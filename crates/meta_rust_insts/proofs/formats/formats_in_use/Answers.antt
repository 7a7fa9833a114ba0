use Rattle.std.proofs.Common.{◌≡◌, ◌<◌, length, slice_get, Some, refl, sym, ap, ◌∙◌, subst, List, ℕ, drop, ◌∷◌, ◌+◌}
use Rattle.std.proofs.lemmas.Option.{slice_get_read}
use Rattle.meta_operands.specs.declared.format.InstructionFormat.{InstructionFormat}
use Rattle.meta_inst.specs.InstructionSet.{AreOfRegistries}
use Rattle.meta_build.specs.AllDeclared.{Declared}
use Rattle.meta_rust_insts.proofs.InTable.{used_within, left_there, one_found}
use Rattle.meta_rust_insts.proofs.formats.formats_in_use.Goals as goal

pub get-requires : goal.get-requires
get-requires c =
    let d = c.args.built.now.declared.set in
    let ids = c.args.built.now.formats in
    let declared = c.declarations-declarations.ensures.declarations in
    let fits : AreOfRegistries d.vars d.formats d.instructions =
    subst (λ (e : Declared). AreOfRegistries e.set.vars e.set.formats e.set.instructions) declared
    c.instructions-instructions.ensures.fits in
    let table : c.formats-table.result.now ≡ d.formats = c.formats-table.ensures.formats ∙ ap (λ (e : Declared). e.set.formats) declared in
    let at : slice_get ids c.loop-id.id-index ≡ Some c.id-item.result =
    ap (λ (xs : List ℕ). slice_get xs c.loop-id.id-index) (sym c.formats-id-items.ensures.formats)
    ∙ slice_get_read c.formats-id-items.result.now _ c.loop-id.id-index c.id-item.result refl c.loop-id-test.true c.id-item.is in
    subst (λ (fs : List InstructionFormat). c.id-item.result < length fs) (sym table)
    (used_within d ids c.formats-id-items.ensures.by_name fits c.loop-id.id-index c.id-item.result at)

pub loop-id-preserved : goal.loop-id-preserved
loop-id-preserved c =
    let d = c.args.built.now.declared.set in
    let ids = c.args.built.now.formats in
    let i = c.loop-id.id-index in
    let id = c.id-item.result in
    let held = c.formats-id-items.ensures.formats in
    let table : c.formats-table.result.now ≡ d.formats = c.formats-table.ensures.formats
    ∙ ap (λ (e : Declared). e.set.formats) c.declarations-declarations.ensures.declarations in
    let begins : drop i ids ≡ id ∷ drop (i + 1) ids =
    subst (λ (xs : List ℕ). drop i xs ≡ id ∷ drop (i + 1) xs) held
    (left_there c.formats-id-items.result.now i id c.loop-id-test.true c.id-item.is) in
    let found : slice_get d.formats id ≡ Some c.get.result.now =
    ap (λ (fs : List InstructionFormat). slice_get fs id) (sym table) ∙ c.get.ensures in
    one_found (slice_get d.formats) c.loop-id.formats.items c.push.new.self.items c.get.result id (drop i ids)
    (drop (i + 1) ids) _ begins found c.in_ok-push.ensures.items c.loop-id.invariant
