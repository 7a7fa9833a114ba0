use Rattle.meta_file_declare.proofs.declaring.Declaring.new.Goals as goal

pub returns-clause-set : goal.returns-clause-set
returns-clause-set c = record { types = c.new.ensures; insts = c.new-2.ensures _ }
