use Rattle.meta_inst.proofs.Members.{numbers_of_members}
use Rattle.meta_types.proofs.Numbers.{one_number}
use Rattle.meta_types.proofs.Names.{one_name}
use Rattle.meta_inst.proofs.meaning_laws.masks_contain_the_members.Goals as goal

pub returns-clause-members : goal.returns-clause-members
returns-clause-members c = numbers_of_members

pub returns-clause-numbers : goal.returns-clause-numbers
returns-clause-numbers c = one_number

pub returns-clause-names : goal.returns-clause-names
returns-clause-names c = one_name
