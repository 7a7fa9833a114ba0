use Rattle.std.proofs.Common.{◌≡◌, ℕ, ◌∙◌, refl, arith}
use Rattle.meta_build.proofs.NamesSoFar.{read, shared_found, unshared_found, kept_more}
use Rattle.meta_build.proofs.instructions.add_name.Goals as goal

pub overflow_add-result : goal.overflow_add-result
overflow_add-result c =
    let at = read _ _ _ _ c.instructions.ensures.instructions c.get-builder.ensures in
    let shared = shared_found c.args.set.now c.args.place _ at _ c.name.ensures _ c.requires.kept _
    (rw c.in-Some.is at c.in_ok-earlier.ensures.shared) in
    let before = shared.before in
    let few = c.requires.few in
    let within = c.requires.within in
    omega arith

pub returns-in-Some-clause-refused : goal.returns-in-Some-clause-refused
returns-in-Some-clause-refused c = λ other.
    let at = read _ _ _ _ c.instructions.ensures.instructions c.get-builder.ensures in
    record {
      earlier = c.in-Some.earlier;
      duplicate = shared_found c.args.set.now c.args.place _ at _ c.name.ensures _ c.requires.kept c.in-Some.earlier
          (rw c.in-Some.is at c.in_ok-earlier.ensures.shared);
      tells = refl;
    }

pub returns-clause-kept : goal.returns-clause-kept
returns-clause-kept c =
    let at = read _ _ _ _ c.instructions.ensures.instructions c.get-builder.ensures in
    kept_more c.args.set.now c.args.place _ at _ c.name.ensures _ c.requires.kept _ (rw c.in_default.is at c.in_ok-earlier.ensures.added)

pub returns-clause-unshared : goal.returns-clause-unshared
returns-clause-unshared c =
    let at = read _ _ _ _ c.instructions.ensures.instructions c.get-builder.ensures in
    unshared_found c.args.set.now c.args.place _ at _ c.name.ensures _ c.requires.kept
    (rw c.in_default.is at c.in_ok-earlier.ensures.unshared)
