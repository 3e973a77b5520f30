use Rattle.sdd_history_examples.proofs.WorkedTables.{is_bridge, is_crossing, is_one_class, is_one_reader, is_one_writer, is_second_class_list}
use Rattle.sdd_history_examples.proofs.tables.law_tables.Goals as goal

pub returns-clause-bridge : goal.returns-clause-bridge
returns-clause-bridge g = is_bridge

pub returns-clause-one_reader : goal.returns-clause-one_reader
returns-clause-one_reader g = is_one_reader

pub returns-clause-crossing : goal.returns-clause-crossing
returns-clause-crossing g = is_crossing

pub returns-clause-one_class : goal.returns-clause-one_class
returns-clause-one_class g = is_one_class

pub returns-clause-one_writer : goal.returns-clause-one_writer
returns-clause-one_writer g = is_one_writer

pub returns-clause-second_class_list : goal.returns-clause-second_class_list
returns-clause-second_class_list g = is_second_class_list
