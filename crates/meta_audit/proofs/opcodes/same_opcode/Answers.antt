use Rattle.std.proofs.Common.{◌≡◌, ℕ, suc, ◌+◌, List, slice_get, Some, sym, ap, ◌∙◌, subst₂, arith}
use Rattle.std.specs.Cmp.Lexicographic.{bytes_decides}
use Rattle.std.proofs.lemmas.Bool.{not-false}
use Rattle.std.proofs.lemmas.Option.{same_Some}
use Rattle.meta_inst.specs.Tables.{OpcodeNumbers, at_opcode}
use Rattle.meta_gen.specs.Constraint.{entry_of}
use Rattle.meta_audit.specs.Comparison.{SameEntry}
use Rattle.meta_audit.proofs.opcodes.same_opcode.Goals as goal

-- opcode k + 1 has place k
at_next : {X : Type 0} (xs : List X) (k : ℕ) → at_opcode xs (k + 1) ≡ slice_get xs k
at_next xs k = let e : k + 1 ≡ suc k = omega arith in ap (at_opcode xs) e

pub returns : goal.returns
returns c =
    let k = c.args.place in
    let mine = sym (at_next c.args.own.now.names k) ∙ c.in-Some.ensures.name in
    let theirs = sym (at_next c.args.other.now.names k) ∙ c.in-Some-opcode_name.ensures.name in
    let at = sym (at_next c.args.own.now.entries k) ∙ c.in-Some-constraints.ensures.entry in
    let other_at = sym (at_next c.args.other.now.entries k) ∙ c.in-Some-constraints-2.ensures.entry in (
      λ t. record {
        name = theirs ∙ (ap Some ((bytes_decides _ _).0 (not-false _ (sym c.ne.ensures ∙ c.if-ne.false))) ∙ sym mine);
        entry = entry_of c.in-Some-constraints.entry;
        at = at;
        other_entry = entry_of c.in-Some-constraints-2.other_entry;
        other_at = other_at;
        same = c.same_entry.ensures.0 t;
      },
      λ s. c.same_entry.ensures.1 (subst₂ (λ (e f : OpcodeNumbers). SameEntry c.args.own.now c.args.other.now e f)
          (same_Some _ _ (sym s.at ∙ at)) (same_Some _ _ (sym s.other_at ∙ other_at)) s.same),
    )
