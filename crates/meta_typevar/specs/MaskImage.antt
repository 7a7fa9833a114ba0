-- The coded image of a set by its masks.
use Rattle.std.specs.Prelude.{◌≡◌}
use Rattle.meta_types.specs.Function.{Function}
use Rattle.meta_typevar.specs.MaskSets.{sets_in, AreMasks}
use Rattle.meta_typevar.specs.Image.{image_of}
use Rattle.meta_typevar.specs.declared.masks.Masks.{Masks}

-- the masks n stand for the image, under f, of the sets that the masks m stand for
pub record IsMaskImage (f : Function) (m n : Masks) : Type 0 where
  pub sets : sets_in n ≡ image_of f (sets_in m)
  pub masks : AreMasks n
