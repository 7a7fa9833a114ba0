use Rattle.meta_unique.proofs.Sizes.{table_size_is}
use Rattle.meta_unique.proofs.constant_hash.table_size.Goals as goal

pub returns : goal.returns
returns c = table_size_is c.args.count _ c.next_power_of_two.ensures.power c.next_power_of_two.ensures.lower_bound
    c.next_power_of_two.ensures.upper_bound
