use Rattle.std.proofs.Common.{◌≡◌, ◌+◌, ◌-◌, ◌/◌, length, ◌∙◌, subst, arith}
use Rattle.meta_settings.specs.GroupDeclaration.{GroupDeclaration, byte_count}
use Rattle.meta_settings.proofs.Counting.{all_counted, bytes_counted}
use Rattle.meta_settings.proofs.builder.SettingGroupBuilder.byte_count.Goals as goal

pub overflow_sub-result : goal.overflow_sub-result
overflow_sub-result c =
    let counted = all_counted c.self.inside.settings.items in
    let all : c.len.result ≡ length c.self.inside.settings.items = c.len.ensures ∙ c.self.inside.settings.ok.0 in
    let booleans = c.from-booleans.ensures ∙ c.self.invariant.are_booleans in
    omega arith

pub returns : goal.returns
returns c =
    subst (λ (d : GroupDeclaration). c.len.result - c.from-booleans.result + (c.from-booleans.result + 7) / 8 ≡ byte_count d) c.self.view_is
    (bytes_counted c.self.inside.settings.items _ _ (c.len.ensures ∙ c.self.inside.settings.ok.0)
    (c.from-booleans.ensures ∙ c.self.invariant.are_booleans))
