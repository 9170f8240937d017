-- What the list doesn't tell is searched.
use Rattle.alt_request.proofs.TablesLooking.{fails_then, only_then, ready_only}
use Rattle.alt_ttl.proofs.search.expiring.Goals as goal

pub searched-requires : goal.searched-requires
searched-requires g c = record {
  ready = ready_only c.foreseen.ensures.only c.requires.ready;
}

pub returns-in-Ok-None-clause-only : goal.returns-in-Ok-None-clause-only
returns-in-Ok-None-clause-only g c = only_then c.foreseen.ensures.only c.searched.ensures.only

pub returns-in-Ok-None-clause-fails : goal.returns-in-Ok-None-clause-fails
returns-in-Ok-None-clause-fails g c = fails_then c.foreseen.ensures.only c.searched.ensures.fails
