use Rattle.std.proofs.Common.{◌∙◌, ◌+◌, ◌<◌, ◌/◌, ◌%◌, take, slice_index_or, subst, arith}
use Rattle.std.proofs.lemmas.List.{take_more, take_all}
use Rattle.meta_settings.specs.PresetLayout.{IsLayoutOn}
use Rattle.meta_settings.proofs.Bits.{turned_on_more, length-with_bit}
use Rattle.meta_settings.proofs.preset.turn_on_all.Goals as goal

pub loop-number-preserved : goal.loop-number-preserved
loop-number-preserved c =
    let numbers = c.args.numbers.now in
    let i = c.loop-number.number-index in
    let b = slice_index_or numbers i 0 in
    let start = c.args.start in
    record {
      size = length-with_bit c.loop-number.layout (start + b / 8) (b % 8) ∙ c.loop-number.invariant.size;
      so_far = λ size on.
          let before = c.loop-number.invariant.so_far size on in
          let within : start + b / 8 < size = let l = c.requires i 0 c.loop-number-test.true in let s = on.size_is in omega arith in
          rw (take_more numbers i 0 c.loop-number-test.true)
          (turned_on_more start (take i numbers) b size c.loop-number.layout within before);
    }

pub returns : goal.returns
returns c = λ size on. subst (λ numbers. IsLayoutOn c.args.start size numbers c.loop-number.layout)
    (take_all c.loop-number.number-index c.args.numbers.now c.loop-number-test.false) (c.loop-number.invariant.so_far size on)
