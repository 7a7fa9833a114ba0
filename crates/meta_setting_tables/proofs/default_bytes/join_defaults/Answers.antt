use Rattle.std.proofs.Common.{◌<◌, length, get_or, refl, ◌∙◌, arith}
use Rattle.std.proofs.lemmas.Nat.{or_lt}
use Rattle.std.proofs.lemmas.List.Elements.{All-set}
use Rattle.std.proofs.lemmas.Option.{slice_get_read, get_or_from_slice_get}
use Rattle.std.proofs.lemmas.List.{length-set}
use Rattle.meta_setting_tables.proofs.Joining.{joined_more}
use Rattle.meta_setting_tables.proofs.default_bytes.join_defaults.Goals as goal

pub loop-setting-preserved : goal.loop-setting-preserved
loop-setting-preserved c =
    let k = c.loop-setting.setting-index in
    let items = c.args.settings.now in
    let at = slice_get_read items (length items) k c.setting-item.result refl c.loop-setting-test.true c.setting-item.is in
    record {
      fits =
          let inside = c.requires.within k c.setting-item.result at in
          let place = c.byte_offset.ensures in
          let long = c.loop-setting.auto.bytes in
          All-set (λ b. b < 256) c.loop-setting.bytes c.byte_offset.result _
          (or_lt 8 (get_or c.loop-setting.bytes c.byte_offset.result 0) c.default_byte.result
          (c.loop-setting.invariant.fits c.byte_offset.result 0 (omega (arith, inside, place, long))) c.default_byte.type_inv)
          c.loop-setting.invariant.fits;
      size = length-set c.loop-setting.bytes c.byte_offset.result _ ∙ c.loop-setting.invariant.size;
      joined = joined_more items k c.setting-item.result c.loop-setting.bytes (length c.args.bytes.now) at c.loop-setting.invariant.size
          (c.requires.within k c.setting-item.result at) c.byte_offset.ensures c.default_byte.ensures c.loop-setting.invariant.joined;
    }

pub loop-setting-init : goal.loop-setting-init
loop-setting-init c = record {
  fits = λ k d l. rw (get_or_from_slice_get c.args.bytes.now k 0 d (c.requires.zero k l)) (omega arith);
  size = refl;
  joined = c.requires.zero;
}
