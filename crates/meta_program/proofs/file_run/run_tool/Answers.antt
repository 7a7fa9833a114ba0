use Rattle.std.proofs.Common.{◌≡◌, sym, ◌∙◌}
use Rattle.meta_program.specs.declared.tool.Tool.{Tool}
use Rattle.meta_program.proofs.FileRuns as lemma
use Rattle.meta_program.proofs.file_run.run_tool.Goals as goal

pub returns : goal.returns
returns g c = record {
  runs = lemma.runs g.F.Source.left g.F.Source.faults g.S.Source.left g.S.Source.faults g.K.Sink.taken g.K.Sink.faults
      (λ (asked : Tool). asked ≡ c.args.tool) _ _ _ _ _ _ _
      (λ d e. c.one_first_fault.ensures.valid d e) (λ d e f. c.one_first_fault.ensures.same d e f) (λ t u e f. e ∙ sym f)
      c.a_text_declares_one_thing.ensures.same c.a_text_declares_one_thing.ensures.refused _ c.run_read.ensures.did
      c.run_read.ensures.file_within c.run_read.ensures.file_else_no_fault c.run_read.ensures.file_counted;
}
