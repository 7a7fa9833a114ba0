use Rattle.meta_table_text.specs.TableText.{table_text}
use Rattle.meta_query.proofs.Unmarked.{is_cut_after, is_uncut}
use Rattle.meta_query.proofs.TableLines.{table_text_unmarked}
use Rattle.meta_query.proofs.laws.text_of_tables_stays_whole.Goals as goal

pub returns-clause-after : goal.returns-clause-after
returns-clause-after c v t queries well_formed = is_cut_after (table_text v t) queries (table_text_unmarked v t well_formed)

pub returns-clause-alone : goal.returns-clause-alone
returns-clause-alone c v t well_formed = is_uncut (table_text v t) (table_text_unmarked v t well_formed)
