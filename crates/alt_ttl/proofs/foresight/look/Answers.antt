-- The table has no time to live, or what stands there is read.
use Rattle.std.proofs.Common.{◌≡◌, false, true, sym, ap, ◌∙◌, ℕ, Bool, List, is_some}
use Rattle.std.specs.FinMap as map
use Rattle.std.specs.Option.{option_map_or}
use Rattle.alt_machine.specs.State.{Texts}
use Rattle.alt_schema.specs.declared.schema.TableSchema.{TableSchema}
use Rattle.alt_request.specs.TablesStands.{catalog_of}
use Rattle.alt_request.proofs.TablesStanding.{known}
use Rattle.alt_ttl.proofs.Foretelling.{foresees_dropped, foresees_settled, may_there, over_there, stale_untimed}
use Rattle.alt_ttl.proofs.Searching.{IsThere, is_there}
use Rattle.alt_ttl.proofs.foresight.look.Goals as goal

pub returns-then-not-may_expire-clause-over : goal.returns-then-not-may_expire-clause-over
returns-then-not-may_expire-clause-over g c s stands =
    sym (stale_untimed s (catalog_of c.args.tables.now) stands.catalog c.args.spot.now
    (ap (λ q. option_map_or (λ (d : TableSchema). is_some d.ttl)
    (map.get (catalog_of c.args.tables.now) q) false) (sym c.as_str.ensures.same)
    ∙ sym c.may_expire.ensures ∙ c.if-not-may_expire.true) c.args.moment)

pub returns-then-not-may_expire-clause-known : goal.returns-then-not-may_expire-clause-known
returns-then-not-may_expire-clause-known g c s stands knows =
    foresees_dropped s (catalog_of c.args.tables.now) stands.catalog c.args.spot.now
    (ap (λ q. option_map_or (λ (d : TableSchema). is_some d.ttl)
    (map.get (catalog_of c.args.tables.now) q) false) (sym c.as_str.ensures.same)
    ∙ sym c.may_expire.ensures ∙ c.if-not-may_expire.true) c.args.due.now c.drop_ready.new.self
    c.drop_ready.ensures.keeps knows

pub returns-then-not-may_expire-clause-ripe : goal.returns-then-not-may_expire-clause-ripe
returns-then-not-may_expire-clause-ripe g c ripe = c.drop_ready.ensures.ripe c.args.moment ripe

pub find-requires-clause-there : goal.find-requires-clause-there
find-requires-clause-there g c =
    ap (map.contains_key (catalog_of c.args.tables.now)) c.as_str-2.ensures.same
    ∙ may_there (map.get (catalog_of c.args.tables.now) c.args.spot.now.table)
    (ap (λ q. option_map_or (λ (d : TableSchema). is_some d.ttl)
    (map.get (catalog_of c.args.tables.now) q) false) (sym c.as_str.ensures.same)
    ∙ sym c.may_expire.ensures ∙ c.if-not-may_expire.false)

-- the table is there
may : (catalog : Texts TableSchema) (own name : List ℕ) (r : Bool) → own ≡ name
    → r ≡ option_map_or (λ (d : TableSchema). is_some d.ttl) (map.get catalog own) false → r ≡ true
    → map.contains_key catalog name ≡ true
may catalog own name r same is so = may_there (map.get catalog name)
    (ap (λ q. option_map_or (λ (d : TableSchema). is_some d.ttl) (map.get catalog q) false)
    (sym same) ∙ sym is ∙ so)

pub returns-clause-over : goal.returns-clause-over
returns-clause-over g c s stands =
    let t : IsThere s c.args.moment c.args.spot.now.table =
    is_there s c.args.moment c.args.spot.now.table (catalog_of c.args.tables.now) stands.catalog
    (may (catalog_of c.args.tables.now) c.as_str.result.now c.args.spot.now.table
    c.may_expire.result c.as_str.ensures.same c.may_expire.ensures c.if-not-may_expire.false) in
    let described = known (g.D.Disk.state c.args.disk.now) c.args.tables.now s
    c.args.spot.now.table t.table stands t.there in
    c.settle.ensures.over t.table.description
    (ap (λ (k : Texts TableSchema). map.get k c.args.spot.now.table) c.in-Ok.ensures.only.catalog.catalog
    ∙ described)
    ∙ over_there s c.args.moment c.args.spot.now t.table c.in-Ok.found.item t.there
    (c.in-Ok.ensures.item s stands t.table
    (ap (map.get s.tables) c.as_str-2.ensures.same ∙ t.there)
    ∙ ap (map.get t.table.items) (c.in-Ok.ensures.place ∙ c.in_ok-place.ensures.copied
    ∙ c.as_slice.ensures.same))

pub returns-clause-known : goal.returns-clause-known
returns-clause-known g c s stands knows =
    let t : IsThere s c.args.moment c.args.spot.now.table =
    is_there s c.args.moment c.args.spot.now.table (catalog_of c.args.tables.now) stands.catalog
    (may (catalog_of c.args.tables.now) c.as_str.result.now c.args.spot.now.table
    c.may_expire.result c.as_str.ensures.same c.may_expire.ensures c.if-not-may_expire.false) in
    let described = known (g.D.Disk.state c.args.disk.now) c.args.tables.now s
    c.args.spot.now.table t.table stands t.there in
    foresees_settled s t.table c.args.spot.now c.args.moment c.in-Ok.found.item c.args.due.now
    c.settle.new.due t.there
    (c.in-Ok.ensures.item s stands t.table
    (ap (map.get s.tables) c.as_str-2.ensures.same ∙ t.there)
    ∙ ap (map.get t.table.items) (c.in-Ok.ensures.place ∙ c.in_ok-place.ensures.copied
    ∙ c.as_slice.ensures.same))
    (c.settle.ensures.settles t.table.description
    (ap (λ (k : Texts TableSchema). map.get k c.args.spot.now.table) c.in-Ok.ensures.only.catalog.catalog
    ∙ described))
    c.requires.since knows

pub returns-clause-named : goal.returns-clause-named
returns-clause-named g c over = may (catalog_of c.args.tables.now) c.as_str.result.now
    c.args.spot.now.table c.may_expire.result c.as_str.ensures.same c.may_expire.ensures
    c.if-not-may_expire.false
