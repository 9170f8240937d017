-- The table is put at its place.
use Rattle.std.proofs.Common.{◌≡◌, Some, sym, subst, ◌∙◌}
use Rattle.alt_readahead.specs.Batch.{SayTables}
use Rattle.alt_readahead.specs.Batches.{place_among}
use Rattle.alt_readahead.proofs.Batches.{table_put}
use Rattle.alt_readahead.proofs.batch.put_table.Goals as goal

pub returns-in_ok-insert-in-Some : goal.returns-in_ok-insert-in-Some
returns-in_ok-insert-in-Some c =
    let ts = c.args.tables.now.items in
    let there : place_among c.args.table.table ts ≡ Some c.in-Some.at =
    (λ i. place_among (sym c.as_str.ensures.same i) (sym c.deref.ensures.value i))
    ∙ sym c.in-Some.ensures.place in
    record {
      put = λ ms name d say says. subst (SayTables _) (sym c.in_ok-insert-in-Some.ensures.items)
          (table_put c.args.table ts c.in-Some.at ms name d there say says);
    }
