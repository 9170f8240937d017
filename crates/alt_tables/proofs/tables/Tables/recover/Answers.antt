-- The store that was opened stands for the state, and so do the tables that are made of it.
use Rattle.std.proofs.Common.{◌≡◌, ◌∙◌, sym, ap, Some, None}
use Rattle.std.proofs.lemmas.Bool.{false≢true}
use Rattle.alt_rowchanges.specs.Fronts.{front_at}
use Rattle.alt_tables.proofs.Foreseen.{foresees_nothing}
use Rattle.alt_tables.proofs.Left.{whole_on}
use Rattle.alt_tables.proofs.tables.Tables.recover.Goals as goal

pub returns-in-Ok-live-clause-stands : goal.returns-in-Ok-live-clause-stands
returns-in-Ok-live-clause-stands g c trusted s stood =
    let opens = c.in-Ok.ensures.stands trusted s stood in record {
      catalog = opens.catalog;
      number = opens.number;
      family = opens.family;
      live = c.in-Ok-live.ensures.live;
      trimmed = opens.trimmed;
      rows = opens.rows;
      fronts = λ l rows name f told. absurd (let no : None ≡ Some f =
          sym (ap (front_at name) c.new.ensures.items) ∙ told in let e : ⊥ = cc no in e);
      builds = λ is. absurd (false≢true (sym is));
      due = foresees_nothing s.tables c.new-in-Ok-live.result c.new-in-Ok-live.ensures.none;
      sized = opens.sized;
      valid = opens.valid;
    }

pub returns-in-Err-clause-whole : goal.returns-in-Err-clause-whole
returns-in-Err-clause-whole g c tells whole = whole_on (g.D.Disk.state c.args.disk.now)
    (g.D.Disk.state c.open_store.new.disk) c.in-Err.ensures.goes c.in-Err.ensures.any_moment tells whole

pub returns-in-Ok-live-clause-whole : goal.returns-in-Ok-live-clause-whole
returns-in-Ok-live-clause-whole g c tells whole = whole_on (g.D.Disk.state c.args.disk.now)
    (g.D.Disk.state c.open_store.new.disk) c.in-Ok.ensures.goes c.in-Ok.ensures.any_moment tells whole

pub returns-in-Err-live-clause-whole : goal.returns-in-Err-live-clause-whole
returns-in-Err-live-clause-whole g c tells whole = whole_on (g.D.Disk.state c.args.disk.now)
    (g.D.Disk.state c.open_store.new.disk) c.in-Ok.ensures.goes c.in-Ok.ensures.any_moment tells whole
