use Rattle.std.proofs.Common.{None, replicate, take, sym, subst, arith}
use Rattle.std.proofs.lemmas.List.{take-replicate}
use Rattle.meta_inst.specs.Tables.{Allows}
use Rattle.meta_query.proofs.counting.accepts_all.Goals as goal

pub returns : goal.returns
returns c =
    let t = c.args.tables.now.opcodes in
    let n = c.args.number in
    let r = take-replicate c.args.counts.0 7 n (omega (arith, c.requires.results)) in
    let v = take-replicate c.args.counts.1 7 n (omega (arith, c.requires.values)) in (
      λ e. subst (λ rs. Allows t c.args.opcode c.args.control None rs (replicate c.args.counts.1 n)) r
          (subst (λ vs. Allows t c.args.opcode c.args.control None (take c.args.counts.0 (replicate 7 n)) vs) v
          (c.accepts.ensures.decoding.0 e)),
      λ h. c.accepts.ensures.decoding.1
          (subst (λ vs. Allows t c.args.opcode c.args.control None (take c.args.counts.0 (replicate 7 n)) vs) (sym v)
          (subst (λ rs. Allows t c.args.opcode c.args.control None rs (replicate c.args.counts.1 n)) (sym r) h)),
    )
