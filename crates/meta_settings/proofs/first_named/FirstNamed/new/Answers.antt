use Rattle.std.proofs.Common.{◌∙◌, sym, ap, false}
use Rattle.std.proofs.lemmas.List.{get_or-replicate}
use Rattle.meta_settings.specs.Marked.{stands_in}
use Rattle.meta_settings.proofs.first_named.FirstNamed.new.Goals as goal

-- nothing is marked
pub invariant_of-result : goal.invariant_of-result
invariant_of-result c = λ n l. get_or-replicate 256 n false false l ∙ sym (ap (stands_in n) c.new.ensures.items)
