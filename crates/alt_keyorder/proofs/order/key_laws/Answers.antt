-- The laws of keys.
use Rattle.alt_keyorder.proofs.PlaceLaws.{table_tell, table_lie, hash_begins, index_tell, index_lie}
use Rattle.alt_keyorder.proofs.order.key_laws.Goals as goal

pub returns-clause-table_tells : goal.returns-clause-table_tells
returns-clause-table_tells c = table_tell

pub returns-clause-table_lies : goal.returns-clause-table_lies
returns-clause-table_lies c = table_lie

pub returns-clause-hash_begins : goal.returns-clause-hash_begins
returns-clause-hash_begins c = hash_begins

pub returns-clause-index_tells : goal.returns-clause-index_tells
returns-clause-index_tells c = index_tell

pub returns-clause-index_lies : goal.returns-clause-index_lies
returns-clause-index_lies c = index_lie
