use Rattle.std.proofs.Common.{◌+◌, ◌-◌, ◌≡◌, ℕ, drop, sym, subst, arith}
use Rattle.std.specs.Prelude.{Ok}
use Rattle.std.proofs.lemmas.Option.{slice_get-get_or}
use Rattle.meta_file_types.specs.Words.{derived_from}
use Rattle.meta_file_types.proofs.Deriving.{IsAlong, along_next, along_fails}
use Rattle.meta_file_types.proofs.types.Types.derive_all.Goals as goal

pub loop-place-preserved : goal.loop-place-preserved
loop-place-preserved c =
    let k = c.loop-place.place - 1 in
    let next : k + 1 ≡ c.loop-place.place = omega (arith, c.loop-place-test.true) in
    record {
      within = omega (arith, c.loop-place.invariant.within);
      of = c.in-Ok.ensures.of;
      along = λ s m h.
          let a : IsAlong c.args.self.now c.loop-place.self s m (derived_from c.args.word.now (drop (k + 1) c.args.functions.now) (Ok m))
          c.loop-place.derived =
          subst (λ (j : ℕ). IsAlong c.args.self.now c.loop-place.self s m (derived_from c.args.word.now (drop j c.args.functions.now)
          (Ok m)) c.loop-place.derived) (sym next) (c.loop-place.invariant.along s m h) in
          along_next c.args.self.now c.loop-place.self s m k c.args.word.now c.args.functions.now c.split_at.result.1.now _
          (slice_get-get_or c.args.functions.now k _ (omega (arith, c.loop-place-test.true, c.loop-place.invariant.within)))
          c.split_at.ensures.back c.loop-place.derived a c.derive.new.self c.in-Ok.next
          (c.in-Ok.ensures.means s a.meaning a.mentioned) (c.in-Ok.ensures.extends s a.meaning a.mentioned);
    }

pub returns-in-Err-clause-means : goal.returns-in-Err-clause-means
returns-in-Err-clause-means c = λ s m h.
    let a = c.loop-place.invariant.along s m h in
    along_fails c.args.self.now c.loop-place.self s m c.loop-place.place (c.loop-place.place - 1) (omega (arith, c.loop-place-test.true))
    c.args.word.now c.args.functions.now c.split_at.result.1.now c.loop-place.derived a c.in-Err.error _
    (c.in-Err.ensures.means s a.meaning a.mentioned)
    (slice_get-get_or c.args.functions.now (c.loop-place.place - 1) _
    (omega (arith, c.loop-place-test.true, c.loop-place.invariant.within))) c.split_at.ensures.back
