-- One more is placed.
use Rattle.std.proofs.Common.{◌≡◌, ◌<◌, ◌+◌, sym, ap, subst, ◌∙◌, ℕ, List, [], ◌∷◌, length, drop, map as each, append-nil, arith}
use Rattle.std.proofs.lemmas.List.{drop_all, drop_more}
use Rattle.alt_machine.specs.State.{Texts}
use Rattle.alt_schema.specs.declared.schema.TableSchema.{TableSchema}
use Rattle.alt_tables.specs.Several.{Every, MayWriteKey, written_at}
use Rattle.alt_tables.specs.Stands.{catalog_of}
use Rattle.alt_tables.specs.declared.by_keys.ItemWrite.{ItemWrite}
use Rattle.alt_tables.proofs.ByKeys.{ArePlaced, placed_all, placed_more, placed_none}
use Rattle.alt_tables.proofs.tables.Tables.placed_all.Goals as goal

pub loop-write-init : goal.loop-write-init
loop-write-init c = placed_none (catalog_of c.args.self.now) c.args.writes.now _
    c.in_ok-changes.ensures.items c.requires.may

pub placed-requires : goal.placed-requires
placed-requires c =
    let catalog : Texts TableSchema = catalog_of c.args.self.now in
    let writes : List ItemWrite = c.args.writes.now in
    let i : ℕ = c.loop-write.write-index in
    let w : ItemWrite = c.write-item.result in
    let less : i < length writes = omega (arith, c.loop-write-test.true) in
    let front : drop i writes ≡ w ∷ drop (i + 1) writes = drop_more writes i w less
    ∙ ap (λ (x : ItemWrite). x ∷ drop (i + 1) writes) (sym c.write-item.is) in
    record { may = (subst (Every (MayWriteKey catalog)) front c.loop-write.invariant.may).0 }

pub loop-write-preserved : goal.loop-write-preserved
loop-write-preserved c =
    let catalog : Texts TableSchema = catalog_of c.args.self.now in
    let writes : List ItemWrite = c.args.writes.now in
    let i : ℕ = c.loop-write.write-index in
    let w : ItemWrite = c.write-item.result in
    let less : i < length writes = omega (arith, c.loop-write-test.true) in
    let front : drop i writes ≡ w ∷ drop (i + 1) writes = drop_more writes i w less
    ∙ ap (λ (x : ItemWrite). x ∷ drop (i + 1) writes) (sym c.write-item.is) in
    placed_more catalog writes (drop (i + 1) writes) (drop i writes) w c.loop-write.changes.items _
    c.in-Ok.change front c.in_ok-push-in-Ok.ensures.items c.loop-write.invariant c.in-Ok.ensures.written
    c.in-Ok.ensures.found

pub returns-clause-written : goal.returns-clause-written
returns-clause-written c =
    let catalog : Texts TableSchema = catalog_of c.args.self.now in
    let writes : List ItemWrite = c.args.writes.now in
    let i : ℕ = c.loop-write.write-index in
    let so : ArePlaced catalog writes [] c.loop-write.changes.items =
    placed_all catalog writes (drop i writes) c.loop-write.changes.items
    (drop_all i writes (omega (arith, c.loop-write-test.false))) c.loop-write.invariant in
    sym (append-nil (each written_at c.loop-write.changes.items)) ∙ so.written

pub returns-clause-found : goal.returns-clause-found
returns-clause-found c s same were =
    let catalog : Texts TableSchema = catalog_of c.args.self.now in
    let writes : List ItemWrite = c.args.writes.now in
    let i : ℕ = c.loop-write.write-index in
    let so : ArePlaced catalog writes [] c.loop-write.changes.items =
    placed_all catalog writes (drop i writes) c.loop-write.changes.items
    (drop_all i writes (omega (arith, c.loop-write-test.false))) c.loop-write.invariant in
    (so.found s same were).0

pub returns-clause-count : goal.returns-clause-count
returns-clause-count c =
    let catalog : Texts TableSchema = catalog_of c.args.self.now in
    let writes : List ItemWrite = c.args.writes.now in
    let i : ℕ = c.loop-write.write-index in
    let so : ArePlaced catalog writes [] c.loop-write.changes.items =
    placed_all catalog writes (drop i writes) c.loop-write.changes.items
    (drop_all i writes (omega (arith, c.loop-write-test.false))) c.loop-write.invariant in
    let count = so.count in
    omega (arith, count)
