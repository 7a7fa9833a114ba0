use Rattle.std.proofs.Common.{◌≡◌, ◌∙◌, ◌≤◌, ◌+◌, ◌/◌, ◌++◌, length, ap, arith}
use Rattle.meta_settings.specs.GroupDeclaration.{GroupDeclaration, others_among, booleans_among, start_of}
use Rattle.meta_settings.specs.TurnedOn.{built_presets}
use Rattle.meta_settings.specs.LaidOut.{laid_out, in_bytes}
use Rattle.meta_settings.proofs.Valid.{few_booleans, few_bytes, all_met_below, start_length, sized, whole_group}
use Rattle.meta_settings.proofs.layout.laid_out_group.Goals as goal

pub in_bytes-requires : goal.in_bytes-requires
in_bytes-requires c =
    let declared = c.deref.ensures.value ∙ ap (λ (d : GroupDeclaration). d.settings) c.builder.view_is in
    let bytes = few_bytes c.args.builder.now c.requires in
    rw declared (let few : length (others_among c.args.builder.now.settings) ≤ 255 = omega arith in few)

pub overflow_cast-start : goal.overflow_cast-start
overflow_cast-start c =
    let d = c.args.builder.now in
    let declared = c.deref.ensures.value ∙ ap (λ (d : GroupDeclaration). d.settings) c.builder.view_is in
    let bytes = few_bytes d c.requires in
    let start : c.len-start.result ≡ start_of d = c.len-start.ensures ∙ c.in_ok-settings.settings.ok.0
    ∙ ap length (rw declared at c.in_ok-settings.ensures) ∙ start_length d c.requires in
    omega arith

pub in_bits-requires-clause-few : goal.in_bits-requires-clause-few
in_bits-requires-clause-few c =
    let declared = c.deref-2.ensures.value ∙ ap (λ (d : GroupDeclaration). d.settings) c.builder.view_is in
    rw declared (few_booleans c.args.builder.now c.requires)

pub in_bits-requires-clause-bytes : goal.in_bits-requires-clause-bytes
in_bits-requires-clause-bytes c =
    let d = c.args.builder.now in
    let declared = c.deref.ensures.value ∙ ap (λ (d : GroupDeclaration). d.settings) c.builder.view_is in
    let again = c.deref-2.ensures.value ∙ ap (λ (d : GroupDeclaration). d.settings) c.builder.view_is in
    let bytes = few_bytes d c.requires in
    let start : c.len-start.result ≡ start_of d = c.len-start.ensures ∙ c.in_ok-settings.settings.ok.0
    ∙ ap length (rw declared at c.in_ok-settings.ensures) ∙ start_length d c.requires in
    rw again (let few : c.len-start.result + (length (booleans_among d.settings) + 7) / 8 ≤ 255 = omega arith in few)

pub with_booleans-requires : goal.with_booleans-requires
with_booleans-requires c = rw (c.deref-3.ensures.value ∙ ap (λ (d : GroupDeclaration). d.presets) c.builder.view_is)
    (all_met_below c.args.builder.now c.requires)

pub overflow_cast-size : goal.overflow_cast-size
overflow_cast-size c = let bytes = few_bytes c.args.builder.now c.requires in let size = c.byte_count-size.ensures in omega arith

pub invariant_of-result : goal.invariant_of-result
invariant_of-result c =
    let d = c.args.builder.now in
    let declared = c.deref.ensures.value ∙ ap (λ (d : GroupDeclaration). d.settings) c.builder.view_is in
    let start : c.len-start.result ≡ start_of d = c.len-start.ensures ∙ c.in_ok-settings.settings.ok.0
    ∙ ap length (rw declared at c.in_ok-settings.ensures) ∙ start_length d c.requires in
    let again = c.deref-2.ensures.value ∙ ap (λ (d : GroupDeclaration). d.settings) c.builder.view_is in
    let settings : c.append.new.self.items ≡ laid_out d =
    c.in_ok-append.ensures.items ∙ ap (λ z. z ++ c.in_ok-booleans.booleans.items) (rw declared at c.in_ok-settings.ensures)
    ∙ ap (λ z. in_bytes 0 (others_among d.settings) ++ z) (rw (again, start) at c.in_ok-booleans.ensures) in
    rw (settings, start, c.byte_count-size.ensures) (sized d c.requires)

pub returns : goal.returns
returns c =
    let d = c.args.builder.now in
    let declared = c.deref.ensures.value ∙ ap (λ (d : GroupDeclaration). d.settings) c.builder.view_is in
    let start : c.len-start.result ≡ start_of d = c.len-start.ensures ∙ c.in_ok-settings.settings.ok.0
    ∙ ap length (rw declared at c.in_ok-settings.ensures) ∙ start_length d c.requires in
    let again = c.deref-2.ensures.value ∙ ap (λ (d : GroupDeclaration). d.settings) c.builder.view_is in
    let settings : c.append.new.self.items ≡ laid_out d =
    c.in_ok-append.ensures.items ∙ ap (λ z. z ++ c.in_ok-booleans.booleans.items) (rw declared at c.in_ok-settings.ensures)
    ∙ ap (λ z. in_bytes 0 (others_among d.settings) ++ z) (rw (again, start) at c.in_ok-booleans.ensures) in
    whole_group d _ (c.in_ok-copy.ensures ∙ ap (λ (d : GroupDeclaration). d.name) c.builder.view_is) settings start
    c.byte_count-size.ensures
    (c.in_ok-presets.ensures
    ∙ ap built_presets (c.deref-3.ensures.value ∙ ap (λ (d : GroupDeclaration). d.presets) c.builder.view_is))
