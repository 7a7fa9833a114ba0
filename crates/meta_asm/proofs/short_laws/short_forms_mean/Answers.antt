use Rattle.meta_verify.proofs.Meaning.{statable_types}
use Rattle.meta_asm.proofs.MannersMean.{manner_means, manner_back}
use Rattle.meta_asm.proofs.Meaning.{short_means}
use Rattle.meta_asm.proofs.short_laws.short_forms_mean.Goals as goal

pub returns : goal.returns
returns c = record {
  manner = λ d tables made name m. (manner_means d tables made name m, manner_back d tables made name m);
  short = λ d tables made env named. short_means d tables made env
      (λ s can. c.mistakes_mean.ensures.right d tables made.valid made.tables_of made.acceptance env named s (statable_types s can));
}
