use Rattle.std.proofs.Common.{rules, arith}
use Rattle.std.proofs.lemmas.Grind.{common_steps}
use Rattle.meta_types.proofs.name.is_name.Goals as goal

pub slice_bounds-rest-count : goal.slice_bounds-rest-count
slice_bounds-rest-count c = search rules

pub bounds-first-0 : goal.bounds-first-0
bounds-first-0 c = search rules

pub slice_bounds-rest-start : goal.slice_bounds-rest-start
slice_bounds-rest-start c = search rules

pub slice_bounds-rest-end : goal.slice_bounds-rest-end
slice_bounds-rest-end c = search rules

pub all-requires-clause-can : goal.all-requires-clause-can
all-requires-clause-can c = search rules

pub all-requires-clause-finite : goal.all-requires-clause-finite
all-requires-clause-finite c = search rules

pub all-requires-clause-callable : goal.all-requires-clause-callable
all-requires-clause-callable c = search rules

pub returns-in-empty : goal.returns-in-empty
returns-in-empty c = search rules

pub returns-else-is_ascii_alphabetic : goal.returns-else-is_ascii_alphabetic
returns-else-is_ascii_alphabetic c = search rules

pub returns-then-is_ascii_alphabetic : goal.returns-then-is_ascii_alphabetic
returns-then-is_ascii_alphabetic c = grind (arith, common_steps)
