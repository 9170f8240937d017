-- One more is known.
use Rattle.std.proofs.Common.{ℕ, ◌≡◌, refl, sym, ap, subst, ◌∙◌, List, [], ◌∷◌, ◌++◌, length, true, length-append, arith}
use Rattle.std.specs.FinMap as map
use Rattle.alt_machine.specs.State.{Texts}
use Rattle.alt_rowchanges.specs.OpeningTrimmed.{IsRenumbered}
use Rattle.alt_schema.specs.declared.schema.TableSchema.{TableSchema}
use Rattle.alt_tables.specs.Stands.{catalog_of, fronts_of, next_write_of_tables, trimmed_of}
use Rattle.alt_tables.specs.declared.several.Noted.{Noted}
use Rattle.alt_tables.specs.private.Staging.{AreNotes}
use Rattle.alt_rowchanges.specs.Trims.{IsNoted}
use Rattle.alt_tables.proofs.Noting.{every_back, every_front, last_all, last_more, last_none}
use Rattle.alt_tables.proofs.Staged.{described_by}
use Rattle.alt_tables.proofs.tables.Tables.know_all.Goals as goal

pub loop-note-init : goal.loop-note-init
loop-note-init c = record {
  known = last_none (catalog_of c.args.self.now) c.args.moment c.args.notes.items
      (trimmed_of c.args.self.now) (fronts_of c.args.self.now);
  kept = (refl, refl, refl, refl, refl, refl, refl);
}

-- the table of one that is taken is there
there : (catalog : Texts TableSchema) (next : ℕ) (all left back : List Noted) (before : List Noted)
    (x : Noted) → AreNotes catalog next all → all ≡ before ++ back → before ≡ left ++ x ∷ []
    → map.contains_key catalog x.table ≡ true
there catalog next all left back before x notes whole taken =
    let so : AreNotes catalog next (before ++ back) = subst (AreNotes catalog next) whole notes in
    let front : AreNotes catalog next before = every_front _ before back so in
    (every_back _ left (x ∷ []) (subst (AreNotes catalog next) taken front)).0.0

pub know-requires : goal.know-requires
know-requires c =
    let known = c.loop-note.invariant.known in
    record {
      there = ap (λ (k : Texts TableSchema). map.contains_key k c.as_str.result.now)
          c.loop-note.invariant.kept.1
          ∙ ap (map.contains_key (catalog_of c.args.self.now)) c.as_str.ensures.same
          ∙ there (catalog_of c.args.self.now) (next_write_of_tables c.args.self.now) c.args.notes.items
          c.pop.new.self.items known.back c.loop-note.notes.items c.in-Some.note c.requires.notes
          known.whole c.in-Some.ensures.items;
    }

pub returns-in_err-know-clause-kept : goal.returns-in_err-know-clause-kept
returns-in_err-know-clause-kept c = (
  c.know.ensures.kept.0 ∙ c.loop-note.invariant.kept.0,
  c.know.ensures.kept.1 ∙ c.loop-note.invariant.kept.1,
  c.know.ensures.kept.2 ∙ c.loop-note.invariant.kept.2,
  c.know.ensures.kept.3 ∙ c.loop-note.invariant.kept.3,
  c.know.ensures.kept.4 ∙ c.loop-note.invariant.kept.4,
  c.know.ensures.kept.5 ∙ c.loop-note.invariant.kept.5,
  c.know.ensures.kept.6 ∙ c.loop-note.invariant.kept.6,
)

pub loop-note-smaller : goal.loop-note-smaller
loop-note-smaller c =
    let fewer = ap length c.in-Some.ensures.items in
    omega (arith, fewer, length-append c.pop.new.self.items (c.in-Some.note ∷ []))

pub loop-note-preserved : goal.loop-note-preserved
loop-note-preserved c =
    let known = c.loop-note.invariant.known in
    let catalog : Texts TableSchema = catalog_of c.args.self.now in
    let x : Noted = c.in-Some.note in
    let (d, at) = described_by catalog x.table (there catalog (next_write_of_tables c.args.self.now)
    c.args.notes.items c.pop.new.self.items known.back c.loop-note.notes.items x c.requires.notes
    known.whole c.in-Some.ensures.items) in
    record {
      known = last_more catalog c.args.moment c.args.notes.items c.pop.new.self.items
          c.loop-note.notes.items x (trimmed_of c.args.self.now) (trimmed_of c.loop-note.self)
          (trimmed_of c.know.new.self) (fronts_of c.args.self.now) (fronts_of c.loop-note.self)
          (fronts_of c.know.new.self) c.in-Some.ensures.items known
          (subst (λ n. IsRenumbered n x.trim.number (trimmed_of c.loop-note.self)
          (trimmed_of c.know.new.self)) c.as_str.ensures.same c.in_ok-know.ensures.trimmed) d at
          (subst (λ n. IsNoted d n c.args.moment x.trim (fronts_of c.loop-note.self)
          (fronts_of c.know.new.self)) c.as_str.ensures.same
          (c.in_ok-know.ensures.fronts d
          (ap (λ (k : Texts TableSchema). map.get k c.as_str.result.now)
          c.loop-note.invariant.kept.1
          ∙ ap (map.get catalog) c.as_str.ensures.same ∙ at)));
      kept = (
        c.know.ensures.kept.0 ∙ c.loop-note.invariant.kept.0,
        c.know.ensures.kept.1 ∙ c.loop-note.invariant.kept.1,
        c.know.ensures.kept.2 ∙ c.loop-note.invariant.kept.2,
        c.know.ensures.kept.3 ∙ c.loop-note.invariant.kept.3,
        c.know.ensures.kept.4 ∙ c.loop-note.invariant.kept.4,
        c.know.ensures.kept.5 ∙ c.loop-note.invariant.kept.5,
        c.know.ensures.kept.6 ∙ c.loop-note.invariant.kept.6,
      );
    }

pub returns-clause-known : goal.returns-clause-known
returns-clause-known c = last_all (catalog_of c.args.self.now) c.args.moment c.args.notes.items
    c.loop-note.notes.items (trimmed_of c.args.self.now) (trimmed_of c.loop-note.self)
    (fronts_of c.args.self.now) (fronts_of c.loop-note.self)
    (none_left c.loop-note.notes.items
    (sym c.loop-note.notes.ok.0 ∙ c.in_default.ensures.cases.0))
    c.loop-note.invariant.known
  where
    none_left : (ns : List Noted) → length ns ≡ 0 → ns ≡ []
    none_left [] e = refl
    none_left (n ∷ ns) e = absurd (omega (arith, e))

pub returns-clause-kept : goal.returns-clause-kept
returns-clause-kept c = c.loop-note.invariant.kept
