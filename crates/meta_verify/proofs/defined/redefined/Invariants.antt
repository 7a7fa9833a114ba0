use Rattle.std.proofs.Common.{◌≡◌, ℕ, ◌||◌, is_some, map, take, drop}
use Rattle.std.specs.Ordering.{nat_cmp}
use Rattle.std.specs.BTreeSet.{contains}
use Rattle.meta_verify.specs.Environment.{with_values, first_redefined}
use Rattle.meta_verify.specs.Numbers.{typed_value_of}
use Rattle.meta_verify.specs.Defined.{environment_of}
use Rattle.meta_verify.proofs.defined.redefined.Given as goal

-- after the results so far, the values that were defined before and those that were seen are defined; the answer for all results is the
-- answer for those that are left
abbrev pub invariant-loop-r : goal.invariant-loop-r
invariant-loop-r l = record {
  seen : (v : ℕ) → is_some (with_values (environment_of l.types) (map typed_value_of (take l.r-index l.results)) v)
      ≡ (is_some (environment_of l.types v) || contains nat_cmp l.seen v);
  left : first_redefined (with_values (environment_of l.types) (map typed_value_of (take l.r-index l.results)))
      (map typed_value_of (drop l.r-index l.results)) ≡ first_redefined (environment_of l.types) (map typed_value_of l.results);
}
