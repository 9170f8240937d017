-- The last of the notes are known.
use Rattle.std.proofs.Common.{◌≡◌, length}
use Rattle.alt_tables.specs.Stands.{catalog_of, fronts_of, trimmed_of}
use Rattle.alt_tables.proofs.Noting.{AreLastKnown}
use Rattle.alt_tables.proofs.tables.Tables.know_all.Given as goal

abbrev pub invariant-loop-note : goal.invariant-loop-note
invariant-loop-note l = record {
  known : AreLastKnown (catalog_of l.fn.self) l.fn.moment l.fn.notes.items l.notes.items
      (trimmed_of l.fn.self) (trimmed_of l.self) (fronts_of l.fn.self) (fronts_of l.self);
  kept : (l.self.engine ≡ l.fn.self.engine) × (l.self.catalog ≡ l.fn.self.catalog)
      × (l.self.live ≡ l.fn.self.live) × (l.self.family ≡ l.fn.self.family)
      × (l.self.due ≡ l.fn.self.due) × (l.self.builds ≡ l.fn.self.builds)
      × (l.self.largest ≡ l.fn.self.largest);
}

abbrev pub decreases-loop-note : goal.decreases-loop-note
decreases-loop-note l = length l.notes.items
