-- Nothing stands there, or the item has expired, or it is noted when it will have.
use Rattle.std.proofs.Common.{◌≡◌, sym, ap, subst, ◌∙◌}
use Rattle.std.proofs.lemmas.Option.{same_Some}
use Rattle.std.specs.FinMap as map
use Rattle.alt_schema.specs.declared.schema.TableSchema.{TableSchema}
use Rattle.alt_request.specs.TablesForeseen.{ForeseesItem}
use Rattle.alt_request.specs.TablesStands.{catalog_of}
use Rattle.alt_ttl.proofs.settling.settle.Goals as goal

pub returns-in_default-item-clause-ripe : goal.returns-in_default-item-clause-ripe
returns-in_default-item-clause-ripe c = c.drop_ready.ensures.ripe c.args.moment

pub returns-clause-settles : goal.returns-clause-settles
returns-clause-settles c d at =
    let same : c.in-Some.schema.now ≡ d = same_Some _ _ (c.in-Some.ensures.table
    ∙ ap (map.get (catalog_of c.args.tables.now)) c.as_str.ensures.same ∙ at) in
    record {
      others = λ m other apart knows. c.defer.ensures.deferred.keeps m other
          (c.drop_ready-2.ensures.keeps m other apart knows);
      own = λ since i is knows.
          subst (λ (e : TableSchema). ForeseesItem e c.args.spot.now.table c.args.spot.now.place
          c.defer.new.due i) same
          (subst (ForeseesItem c.in-Some.schema.now c.args.spot.now.table c.args.spot.now.place
          c.defer.new.due) (same_Some _ _ (sym c.in-Some-item.is ∙ is))
          (c.defer.ensures.deferred.own (c.drop_ready-2.ensures.since ∙ since)
          (sym c.if-is_expired.ensures)));
    }

pub returns-clause-ripe : goal.returns-clause-ripe
returns-clause-ripe c ripe = c.defer.ensures.ripe (c.drop_ready-2.ensures.ripe c.args.moment ripe)
