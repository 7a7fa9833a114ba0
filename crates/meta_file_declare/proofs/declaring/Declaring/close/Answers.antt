use Rattle.meta_file_declare.proofs.Fitting.{all_fit}
use Rattle.meta_file_declare.proofs.declaring.Declaring.close.Goals as goal

pub new-requires : goal.new-requires
new-requires c =
    all_fit c.requires.0 c.args.self.types c.args.self.insts c.into_vars-vars.result c.into_parts-formats.result.0
    c.into_parts-formats.result.1 c.requires.1 c.into_vars-vars.ensures c.into_parts-formats.ensures.formats
    c.into_parts-formats.ensures.instructions
