-- Calls that only read: none at all, one after another, and one that reads rows of the engine; and when they fail.
use Rattle.std.proofs.Common.{◌≡◌, refl, sym, ap, subst, ◌∙◌, Result, Err, IfErr, IsTrue, arith}
use Rattle.std.proofs.Math.Nat.{le_refl}
use Rattle.std.specs.Result.{IsErrOf}
use Rattle.alt_base.specs.Counts.{Rose}
use Rattle.alt_disk.specs.Disk.{DiskState, Goes}
use Rattle.alt_disk.specs.Runs.{Quiet}
use Rattle.alt_disk.proofs.Runs.{tells_of}
use Rattle.alt_faults.specs.Faults as view
use Rattle.alt_layout.specs.Layout.{Layout}
use Rattle.alt_machine.specs.State.{State}
use Rattle.alt_rowchanges.specs.Faults.{IsReadFault, TableFaultIsUnspent, told_by_tables}
use Rattle.alt_rowchanges.specs.OpeningEngineDeclaredEngine.{Engine}
use Rattle.alt_rowchanges.specs.OpeningEngineInHand.{ReadsLayout as EngineReads, bounds_of_engine as engine_bounds, next_write_of_engine}
use Rattle.alt_rowchanges.specs.OpeningEngineOpened.{StaysOn}
use Rattle.alt_rowchanges.specs.OpeningHandDeclaredEngineFault.{EngineFault}
use Rattle.alt_rowchanges.specs.OpeningHandDeclaredEngineFault.TheVariants as engine
use Rattle.alt_rowchanges.specs.OpeningHandFaults.{told_by_engine}
use Rattle.alt_rowchanges.specs.OpeningHandOpened.{EngineFaultIsUndamaged, EngineFaultIsUnspent as EngineIsUnspent}
use Rattle.alt_rowchanges.specs.declared.faults.TableFault.{TableFault}
use Rattle.alt_rowchanges.specs.declared.faults.TableFault.TheVariants.{Failed}
use Rattle.alt_tables.specs.Looking.{FailsReading, OnlyReads}
use Rattle.alt_tables.specs.Stands.{AreReady, KeepsTables, KeepsCatalog, Stands}
use Rattle.alt_tables.specs.declared.tables.Tables.{Tables}
use Rattle.alt_tables.proofs.Left.{reads_nothing, reads_then, ready_on}
use Rattle.alt_tables.proofs.Pages.{engine_fault, find_fault}
use Rattle.alt_tables.proofs.Standing.{stays_kept}

-- ---- the catalog

-- what is known without the disk stays where nothing is done
pub catalog_nothing : (t : Tables) → KeepsCatalog t t
catalog_nothing t = record { catalog = refl; number = refl; family = refl; limits = refl }

-- and from one call to the next
pub catalog_then : {t u v : Tables} → KeepsCatalog t u → KeepsCatalog u v → KeepsCatalog t v
catalog_then first then = record {
  catalog = then.catalog ∙ first.catalog;
  number = then.number ∙ first.number;
  family = then.family ∙ first.family;
  limits = then.limits ∙ first.limits;
}

-- ---- calls

-- no call at all only reads
pub only_nothing : (a : DiskState) (t : Tables) → OnlyReads a a t t
only_nothing a t = record {
  stays = λ s. (λ stands. stands, λ stands. stands);
  catalog = catalog_nothing t;
  disk = reads_nothing a;
}

-- one after another
pub only_then : {a b c : DiskState} {t u v : Tables} → OnlyReads a b t u → OnlyReads b c u v
    → OnlyReads a c t v
only_then {a} {b} {c} {t} {u} {v} first then = record {
  stays = λ s. (
    λ stands. (then.stays s).0 ((first.stays s).0 stands),
    λ stands. (first.stays s).1 ((then.stays s).1 stands),
  );
  catalog = catalog_then first.catalog then.catalog;
  disk = reads_then a b c first.disk then.disk;
}

-- the tables are ready behind it where they were before
pub ready_only : {a b : DiskState} {t u : Tables} → OnlyReads a b t u → AreReady a t → AreReady b u
ready_only {a} {b} {t} {u} only = ready_on a b t u only.disk.goes only.stays

-- ---- what is known stays

-- a call that leaves what is known of the tables, and the rows beneath them, only reads
pub only_kept : {a b : DiskState} {t u : Tables} → KeepsTables a b t u → AreReady a t → OnlyReads a b t u
only_kept {a} {b} {t} {u} keeps ready = record {
  stays = stays_kept a b t u keeps ready;
  catalog = record {
    catalog = keeps.catalog;
    number = keeps.number;
    family = keeps.family;
    limits = keeps.limits;
  };
  disk = keeps.reads;
}

-- so does one that reads rows of the engine alone
pub only_rows : (a b : DiskState) (t : Tables) (e : Engine) → Goes a b
    → (IsTrue a.tells → Quiet a b) → (IsTrue a.tells → StaysOn a b t.engine e)
    → next_write_of_engine e ≡ next_write_of_engine t.engine → engine_bounds e ≡ engine_bounds t.engine → AreReady a t
    → OnlyReads a b t (record t { engine = e })
only_rows a b t e goes quiet same next bounds = only_kept (record {
  catalog = refl;
  live = refl;
  family = refl;
  trimmed = refl;
  fronts = refl;
  due = λ moment spot knows. knows;
  largest = le_refl t.largest;
  builds = refl;
  limits = bounds;
  number = next;
  reads = record { goes = goes; quiet = quiet };
  same = same;
})

-- ---- when and how they fail

-- a count of faults rose that rose later on
pub rose_on : (a b c : DiskState) → Goes a b → Rose b.faults c.faults → Rose a.faults c.faults
rose_on a b c goes rose = grind (arith, goes.faults, rose)

-- a call fails as it does behind others that leave for which state the tables stand
pub fails_behind : {A : Type 0} {a b c : DiskState} {t u : Tables} {r : Result A TableFault}
    → Goes a b → ((s : State) → Stands a t s → Stands b u s) → FailsReading b c u r
    → FailsReading a c t r
fails_behind {A} {a} {b} {c} goes stands fails = record {
  unspent = fails.unspent;
  fault = λ s stood. fails.fault s (stands s stood);
  cause = λ failed. rose_on a b c goes (fails.cause failed);
}

-- so it does behind calls that only read
pub fails_then : {A : Type 0} {a b c : DiskState} {t u : Tables} {r : Result A TableFault}
    → OnlyReads a b t u → FailsReading b c u r → FailsReading a c t r
fails_then only = fails_behind only.disk.goes (λ s. (only.stays s).0)

-- the engine failed where that is what is told
engine_failed : (given : EngineFault) → view.failed ≡ told_by_engine given
    → given ≡ engine.Failed
engine_failed (engine.Spent n) e = absurd (let g : ⊥ = cc in g)
engine_failed (engine.Damaged file at) e = absurd (let g : ⊥ = cc in g)
engine_failed engine.Failed e = refl
engine_failed engine.NoMemory e = absurd (let g : ⊥ = cc in g)

-- a fault of the engine that reads is passed on
pub fails_engine : {A : Type 0} (a b : DiskState) (t : Tables) (given : EngineFault)
    (fault : TableFault) → told_by_tables fault ≡ told_by_engine given → EngineIsUnspent given
    → (IsTrue a.tells → (l : Layout) → EngineReads a t.engine l → EngineFaultIsUndamaged given)
    → (given ≡ engine.Failed → Rose a.faults b.faults) → FailsReading {A = A} a b t (Err fault)
fails_engine a b t given fault same unspent whole cause = record {
  unspent = subst view.IsUnspent (sym same) unspent;
  fault = λ s stands. engine_fault given fault same unspent
      (whole (tells_of a stands.rows.trusted) stands.rows.layout stands.rows.is.hand.reads);
  cause = λ failed.
      let is : fault ≡ Failed = cc in
      cause (engine_failed given (sym (ap told_by_tables is) ∙ same));
}

-- what was read is read on without the disk
pub fails_page : {A : Type 0} (a b : DiskState) (t : Tables) (r : Result A TableFault)
    → IfErr r TableFaultIsUnspent → ((s : State) → Stands a t s → IfErr r IsReadFault)
    → (IsErrOf r Failed → ⊥) → FailsReading a b t r
fails_page a b t r unspent fault unfailed = record {
  unspent = unspent;
  fault = λ s stands. find_fault r (fault s stands);
  cause = λ failed. absurd (unfailed failed);
}

-- a fault that one of these told is told by another
pub fails_told : {A B : Type 0} {a b : DiskState} {t : Tables} {r : Result B TableFault}
    {f : TableFault} → r ≡ Err f → FailsReading {A = A} a b t (Err f) → FailsReading a b t r
fails_told {A} {B} {a} {b} {t} {r} {f} same fails = subst (λ q. FailsReading a b t q) (sym same) (record {
  unspent = fails.unspent;
  fault = fails.fault;
  cause = λ failed. let is : f ≡ Failed = cc in fails.cause (ap (λ e. Err e) is);
})
