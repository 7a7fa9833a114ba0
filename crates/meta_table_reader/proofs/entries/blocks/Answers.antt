use Rattle.std.proofs.Common.{◌≡◌, ℕ, suc, ◌+◌, ◌-◌, ◌<◌, ◌≤◌, [], ◌∷◌, ◌++◌, length, map, sym, ap, ◌∙◌, arith}
use Rattle.std.proofs.lemmas.List.{take_all, map-append}
use Rattle.meta_inst.specs.Tables.{TableContents, OpcodeNumbers}
use Rattle.meta_gen.specs.Constraint.{entry_of}
use Rattle.meta_table_text.specs.declared.version.Version.{Version}
use Rattle.meta_table_text.specs.OpcodeText.{flags_lines, entry_fields, entry_block, opcode_block}
use Rattle.meta_table_reader.proofs.ItemsRead.{one_within}
use Rattle.meta_table_reader.specs.Shown.{IsShownEntry, AreShownOpcodes}
use Rattle.meta_table_reader.proofs.EntryBlocks.{block_at}
use Rattle.meta_table_reader.proofs.ByOpcode.{opcodes_after, from_first, next_first, no_more, few_opcodes}
use Rattle.meta_table_reader.proofs.entries.blocks.Goals as goal

entry_some : (v : Version) (t : TableContents) (op : ℕ) (e : OpcodeNumbers) → 1 ≤ length (entry_block v t op e)
unfolding entry_block entry_fields flags_lines
entry_some v t op e = omega arith

block_some : (v : Version) (t : TableContents) → AreShownOpcodes v t → (i : ℕ) → i < length t.entries
    → 1 ≤ length (opcode_block v t (suc i))
block_some v t shown i within =
    let (e, at, is_shown) = one_within (IsShownEntry v) t.entries i shown.entries within in
    rw (block_at v t i e at.there) (entry_some v t (suc i) e)

pub loop-init : goal.loop-init
loop-init c = λ t rest shown count e.
    let all : c.args.count - 0 ≡ c.args.count = omega arith in
    let f = opcode_block c.args.version t in
    (ap (map entry_of) c.new-entries.ensures.items, e ∙ ap (λ w. w ++ rest) (from_first f c.args.count ∙ ap (opcodes_after f 0) (sym all)))

pub loop-preserved : goal.loop-preserved
loop-preserved c = λ t rest shown count e.
    let v = c.args.version in
    let i = c.loop.counter in
    let f = opcode_block v t in
    let so_far = c.loop.invariant t rest shown count e in
    let within : i < c.args.count = omega (arith, c.loop-test.true, c.min-end.ensures) in
    let (entry, at, is_shown) = one_within (IsShownEntry v) t.entries i shown.entries (omega (arith, within, count)) in
    let left = opcodes_after f (i + 1) (c.args.count - (i + 1)) ++ rest in
    let front = next_first f rest i c.args.count c.loop.cursor within so_far.1 ∙ ap (λ w. w ++ left) (block_at v t i entry at.there) in
    let (read, after) = c.entry.ensures t (suc i) entry left shown.named.names shown.lists.constraints is_shown front in (
      ap (map entry_of) c.in_ok-push.ensures.items ∙ map-append entry_of c.loop.entries.items (c.entry.result ∷ [])
          ∙ (λ k. so_far.0 k ++ read k ∷ []) ∙ sym at.taken,
      after,
    )

pub returns : goal.returns
returns c = λ t rest shown count e.
    let i = c.loop.counter in
    let f = opcode_block c.args.version t in
    let few = few_opcodes f rest 0 c.args.count (λ k within. block_some c.args.version t shown k (omega (arith, within, count))) in
    let past : c.args.count ≤ i = omega (
      arith,
      few,
      ap length (e ∙ ap (λ w. w ++ rest) (from_first f c.args.count)),
      c.loop-test.false,
      c.min-end.ensures,
      c.len.ensures,
    ) in
    let so_far = c.loop.invariant t rest shown count e in
    (so_far.0 ∙ take_all i t.entries (omega (arith, past, count)), no_more f rest i c.args.count c.loop.cursor past so_far.1)
