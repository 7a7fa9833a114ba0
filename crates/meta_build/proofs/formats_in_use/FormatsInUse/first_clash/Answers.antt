use Rattle.std.proofs.Common.{◌≡◌, ℕ, length, sym, refl, ap, ◌∙◌, arith, slice_get, Some, Bor, List}
use Rattle.std.proofs.lemmas.Option.{slice_get_read, same_Some}
use Rattle.meta_operands.specs.declared.format.InstructionFormat.{InstructionFormat}
use Rattle.meta_build.proofs.FormatPlaces.{none_clashes, first_within, first_clashes}
use Rattle.meta_build.proofs.formats_in_use.FormatsInUse.first_clash.Goals as goal

pub index-requires : goal.index-requires
index-requires c =
    let f = c.args.self.now in
    let t = c.requires.of_table in
    let name : Bor (List ℕ) = record { ref_ptr = c.get.result.ref_ptr; now = c.get.result.now.name } in
    let named = ap (λ (x : InstructionFormat). x.name) (same_Some c.get.result.now t.format (sym c.get.ensures ∙ t.at)) in
    let within = first_within f c.requires.indexed c.args.format.now t name named _ _ (c.copied-of_name.ensures
    ∙ c.get-2.ensures.value) (c.copied-of_structure.ensures ∙ c.get-3.ensures.value) c.in-Some.place c.in-Some.ensures.first in
    let len = f.used.ok.0 in
    omega arith

pub returns-in-Some-clause-some : goal.returns-in-Some-clause-some
returns-in-Some-clause-some c =
    let f = c.args.self.now in
    let t = c.requires.of_table in
    let name : Bor (List ℕ) = record { ref_ptr = c.get.result.ref_ptr; now = c.get.result.now.name } in
    let named = ap (λ (x : InstructionFormat). x.name) (same_Some c.get.result.now t.format (sym c.get.ensures ∙ t.at)) in
    let within = first_within f c.requires.indexed c.args.format.now t name named _ _ (c.copied-of_name.ensures
    ∙ c.get-2.ensures.value) (c.copied-of_structure.ensures ∙ c.get-3.ensures.value) c.in-Some.place c.in-Some.ensures.first in
    let at : slice_get f.used.items c.in-Some.place ≡ Some c.index.result.now =
    slice_get_read f.used.items (length f.used.items) c.in-Some.place c.index.result.now refl within c.index.ensures in
    first_clashes f c.requires.indexed c.args.format.now t name named _ _ (c.copied-of_name.ensures
    ∙ c.get-2.ensures.value) (c.copied-of_structure.ensures
    ∙ c.get-3.ensures.value) c.in-Some.place c.in-Some.ensures.first c.index.result.now at

pub returns-in-None-clause-none : goal.returns-in-None-clause-none
returns-in-None-clause-none c =
    let t = c.requires.of_table in
    let name : Bor (List ℕ) = record { ref_ptr = c.get.result.ref_ptr; now = c.get.result.now.name } in
    let named = ap (λ (x : InstructionFormat). x.name) (same_Some c.get.result.now t.format (sym c.get.ensures ∙ t.at)) in
    none_clashes c.args.self.now c.requires.indexed c.args.format.now t name named _ _ (c.copied-of_name.ensures
    ∙ c.get-2.ensures.value) (c.copied-of_structure.ensures ∙ c.get-3.ensures.value) c.in-None.ensures.none
