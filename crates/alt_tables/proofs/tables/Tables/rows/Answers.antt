-- An index that is asked is one of the table's.
use Rattle.std.proofs.Common.{◌≡◌, ◌<◌, ◌≤◌, ◌+◌, ◌++◌, None, IfSome, IfOk, OnOk, length, take, sym, ap, subst, ◌∙◌}
use Rattle.std.specs.List.{last_or}
use Rattle.alt_base.proofs.Lists.{get-within}
use Rattle.alt_machine.specs.Sources.{index_at}
use Rattle.alt_machine.specs.Walks.{items_between}
use Rattle.alt_schema.specs.Indexes.{indexes}
use Rattle.alt_tables.proofs.Standing.{known}
use Rattle.alt_tables.specs.Reading.{HasRowFiles, family_read, places_between, most_walk_reads}
use Rattle.alt_views.specs.Readable.{CanRead}
use Rattle.alt_tables.proofs.tables.Tables.rows.Goals as goal

pub index_rows-requires-clause-index : goal.index_rows-requires-clause-index
index_rows-requires-clause-index g c d at =
    subst (λ o. IfSome o (λ number. CanRead d number)) c.in-Some.is (c.requires.index d at)

pub returns-in-Some-clause-rows : goal.returns-in-Some-clause-rows
returns-in-Some-clause-rows g c s t stands at =
    let within : c.in-Some.number < length (indexes t.description) =
    (subst (λ o. IfSome o (λ number. CanRead t.description number)) c.in-Some.is
    (c.requires.index t.description (known (g.D.Disk.state c.args.disk.now) c.args.self.now s
    c.args.table.now t stands at))).0 in
    let (i, is) = get-within (indexes t.description) c.in-Some.number within in
    subst (λ o. OnOk c.index_rows.result (c.index_rows.new.out.items ≡ c.args.out.now.items
    ++ take c.args.most (items_between t o c.args.range.now.from c.args.range.now.to
    c.args.forward))) (sym is ∙ ap (index_at t.description) (sym c.in-Some.is))
    (c.index_rows.ensures.rows s t i stands at is)

pub returns-in-None-clause-rows : goal.returns-in-None-clause-rows
returns-in-None-clause-rows g c s t stands at =
    subst (λ o. OnOk c.table_rows.result (c.table_rows.new.out.items ≡ c.args.out.now.items
    ++ take c.args.most (items_between t o c.args.range.now.from c.args.range.now.to
    c.args.forward))) (ap (index_at t.description) (sym c.in-None.is))
    (c.table_rows.ensures.rows s t stands at)

pub returns-in-Some-clause-last : goal.returns-in-Some-clause-last
returns-in-Some-clause-last g c s t stands at =
    let within : c.in-Some.number < length (indexes t.description) =
    (subst (λ o. IfSome o (λ number. CanRead t.description number)) c.in-Some.is
    (c.requires.index t.description (known (g.D.Disk.state c.args.disk.now) c.args.self.now s
    c.args.table.now t stands at))).0 in
    let (i, is) = get-within (indexes t.description) c.in-Some.number within in
    subst (λ o. IfOk c.index_rows.result (λ last. last ≡ last_or None (take c.args.most
    (places_between t o c.args.range.now.from c.args.range.now.to c.args.forward))))
    (sym is ∙ ap (index_at t.description) (sym c.in-Some.is))
    (c.index_rows.ensures.last s t i stands at is)

pub returns-in-None-clause-last : goal.returns-in-None-clause-last
returns-in-None-clause-last g c s t stands at =
    subst (λ o. IfOk c.table_rows.result (λ last. last ≡ last_or None (take c.args.most
    (places_between t o c.args.range.now.from c.args.range.now.to c.args.forward))))
    (ap (index_at t.description) (sym c.in-None.is)) (c.table_rows.ensures.last s t stands at)

pub returns-in-Some-clause-reads : goal.returns-in-Some-clause-reads
returns-in-Some-clause-reads g c s t maps stands at =
    let a = g.D.Disk.state c.args.disk.now in
    let b = g.D.Disk.state c.index_rows.new.disk in
    let within : c.in-Some.number < length (indexes t.description) =
    (subst (λ o. IfSome o (λ number. CanRead t.description number)) c.in-Some.is
    (c.requires.index t.description (known a c.args.self.now s c.args.table.now t stands at))).0 in
    let (i, is) = get-within (indexes t.description) c.in-Some.number within in
    subst (λ o. HasRowFiles a.file (family_read t.description o) maps
    → OnOk c.index_rows.result (b.reads ≤ a.reads
    + most_walk_reads c.args.forward c.args.range.now.from c.args.range.now.to c.args.most
    (places_between t o c.args.range.now.from c.args.range.now.to c.args.forward) maps))
    (sym is ∙ ap (index_at t.description) (sym c.in-Some.is))
    (c.index_rows.ensures.reads s t i maps stands at is)

pub returns-in-None-clause-reads : goal.returns-in-None-clause-reads
returns-in-None-clause-reads g c s t maps stands at =
    let a = g.D.Disk.state c.args.disk.now in
    let b = g.D.Disk.state c.table_rows.new.disk in
    subst (λ o. HasRowFiles a.file (family_read t.description o) maps
    → OnOk c.table_rows.result (b.reads ≤ a.reads
    + most_walk_reads c.args.forward c.args.range.now.from c.args.range.now.to c.args.most
    (places_between t o c.args.range.now.from c.args.range.now.to c.args.forward) maps))
    (ap (index_at t.description) (sym c.in-None.is))
    (c.table_rows.ensures.reads s t maps stands at)
