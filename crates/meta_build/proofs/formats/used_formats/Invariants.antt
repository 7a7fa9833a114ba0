use Rattle.std.proofs.Common.{◌≡◌, List}
use Rattle.meta_typevar.specs.declared.content.TypeVarContent.{TypeVarContent}
use Rattle.meta_build.specs.FormatsUsed.{AreUsedBefore, AreApart}
use Rattle.meta_build.specs.FormatsIndexed.{AreIndexed}
use Rattle.meta_inst.specs.Faults.{FormatNameRule, OfFormat}
use Rattle.meta_build.specs.Searched.{IsCleanBefore}
use Rattle.meta_build.proofs.FormatSearch.{declared}
use Rattle.meta_build.proofs.formats.used_formats.Given as goal

-- these formats are used so far, and no fault is in them, if there is none before
abbrev pub invariant-loop-place : goal.invariant-loop-place
invariant-loop-place l = record {
  table : l.used.formats.now ≡ l.formats;
  indexed : AreIndexed l.used;
  apart : AreApart l.formats l.used.used.items;
  used : (vars : List TypeVarContent) → AreUsedBefore (declared vars l.formats l.instructions) l.place l.used.used.items;
  clean : (vars : List TypeVarContent) → IsCleanBefore (declared vars l.formats l.instructions) (OfFormat 0 FormatNameRule)
      → IsCleanBefore (declared vars l.formats l.instructions) (OfFormat l.place FormatNameRule);
}
