-- One more place that is ready was looked at; and the tables have another list of the items that are due next.
use Rattle.std.proofs.Common.{◌≡◌, ◌<◌, ◌≤◌, ◌^◌, refl, sym, ap, subst, ◌∙◌, ℕ, Bool, true, false, List, [], ◌∷◌, ◌++◌, Option, Some, None, length, take, append_assoc, is_some, IfSome, arith}
use Rattle.std.specs.FinMap as map
use Rattle.std.proofs.lemmas.List.{length-append}
use Rattle.alt_disk.specs.Disk.{DiskState}
use Rattle.alt_disk.proofs.Runs.{trusted_back}
use Rattle.alt_due.specs.Due.{FindsNext, IsRipe, NoneDue}
use Rattle.alt_due.specs.declared.due.Due.{Due}
use Rattle.alt_due.specs.declared.spot.Spot.{Spot}
use Rattle.alt_machine.specs.declared.Standing.{Standing}
use Rattle.alt_machine.specs.declared.TheConstants.{MOST_EXPIRED}
use Rattle.alt_machine.specs.Expiry.{all_expired, expiring}
use Rattle.alt_machine.specs.State.{State, Texts}
use Rattle.alt_schema.specs.declared.schema.TableSchema.{TableSchema}
use Rattle.alt_request.specs.TablesForeseen.{Foresees}
use Rattle.alt_request.specs.TablesLooking.{OnlyReads}
use Rattle.alt_request.specs.TablesStands.{AreReady, KeepsCatalog, Stands}
use Rattle.alt_request.specs.TablesDeclaredTables.{Tables}
use Rattle.alt_request.proofs.TablesLooking.{catalog_then}
use Rattle.alt_request.proofs.TablesStanding.{one_stands}
use Rattle.alt_ttl.specs.private.Foresight.{PutsOver, ListSuffices, is_over_at, spot_at}
use Rattle.alt_ttl.specs.private.Searched.{StandingTablesAreThere}
use Rattle.alt_ttl.proofs.Foretelling.{left_nothing, left_over, left_stale, none_over}
use Rattle.alt_ttl.proofs.Founds.{every_both}
use Rattle.alt_ttl.proofs.Fronts.{take_full, take_whole}
use Rattle.alt_ttl.proofs.LeftBehind.{left_behind}

-- ---- one more place

module _ (s : State) (due : Due) (moment : ℕ) (fits : moment < 2 ^ 64)
    (knows : Foresees s.tables due) (ripe : IsRipe moment due) (enough : ListSuffices due moment)
    (after : Option Spot) (out : List Standing)
    (so : out ++ left_behind after (all_expired s moment) ≡ all_expired s moment) where
  -- an item there has expired
  pub ripe_over : (y : Spot) → FindsNext due after (Some y) → (e : Standing) → spot_at e ≡ y
      → is_over_at s moment y ≡ true
      → (out ++ e ∷ []) ++ left_behind (Some y) (all_expired s moment) ≡ all_expired s moment
  ripe_over y next e same over =
      append_assoc out (e ∷ []) (left_behind (Some y) (all_expired s moment))
      ∙ (λ i. out ++ record { table = (same i).table; place = (same i).place }
      ∷ left_behind (Some y) (all_expired s moment))
      ∙ ap (λ l. out ++ l) (sym (left_over s due moment fits knows ripe enough after y next over))
      ∙ so

  -- or hasn't
  pub ripe_stale : (y : Spot) → FindsNext due after (Some y) → is_over_at s moment y ≡ false
      → out ++ left_behind (Some y) (all_expired s moment) ≡ all_expired s moment
  ripe_stale y next stale = ap (λ l. out ++ l)
      (sym (left_stale s due moment fits knows ripe enough after y next stale)) ∙ so

  -- in one
  pub ripe_step : (y : Spot) → FindsNext due after (Some y) → (new : List Standing) (over : Bool)
      → over ≡ is_over_at s moment y → PutsOver over y out new
      → new ++ left_behind (Some y) (all_expired s moment) ≡ all_expired s moment
  ripe_step y next new true is put =
      ap (λ l. l ++ left_behind (Some y) (all_expired s moment)) put.2
      ∙ ripe_over y next put.0 put.1 (sym is)
  ripe_step y next new false is put =
      ap (λ l. l ++ left_behind (Some y) (all_expired s moment)) put ∙ ripe_stale y next (sym is)

  -- where none is ready any more, all were found
  pub ripe_all : FindsNext due after None → is_some due.end ≡ false → length out ≤ MOST_EXPIRED
      → out ≡ expiring s moment
  ripe_all next endless few = sym (take_whole MOST_EXPIRED out few)
      ∙ ap (λ l. take MOST_EXPIRED (out ++ l))
      (sym (left_nothing s due moment fits knows ripe enough after next endless))
      ∙ ap (take MOST_EXPIRED) so

-- there are no more then than one more
pub put_few : (y : Spot) (out new : List Standing) → length out < MOST_EXPIRED → (over : Bool)
    → PutsOver over y out new → length new ≤ MOST_EXPIRED
put_few y out new few true put =
    omega (arith, few, ap length put.2, length-append out (put.0 ∷ []))
put_few y out new few false put = omega (arith, few, ap length put)

-- in tables that are there
pub put_named : (catalog : Texts TableSchema) (y : Spot) (out new : List Standing)
    → StandingTablesAreThere catalog out → (over : Bool)
    → (over ≡ true → map.contains_key catalog y.table ≡ true) → PutsOver over y out new
    → StandingTablesAreThere catalog new
put_named catalog y out new named true there put =
    subst (StandingTablesAreThere catalog) (sym put.2)
    (every_both (λ (e : Standing). map.contains_key catalog e.table ≡ true) out (put.0 ∷ []) named (
      ap (λ (x : Spot). map.contains_key catalog x.table) put.1 ∙ there refl,
      tt,
    ))
put_named catalog y out new named false there put = subst (StandingTablesAreThere catalog) (sym put) named

-- as many as an ExpireItems deletes are those that it deletes
pub ripe_full : (s : State) (moment : ℕ) (after : Option Spot) (out : List Standing)
    → out ++ left_behind after (all_expired s moment) ≡ all_expired s moment
    → length out ≤ MOST_EXPIRED → MOST_EXPIRED ≤ length out → out ≡ expiring s moment
ripe_full s moment after out so few many =
    sym (take_full MOST_EXPIRED out (left_behind after (all_expired s moment)) few many)
    ∙ ap (take MOST_EXPIRED) so

-- where the list tells that nothing is due, nothing is to be deleted
pub none_expiring : (s : State) (due : Due) (moment : ℕ) → moment < 2 ^ 64 → Foresees s.tables due
    → NoneDue due moment → expiring s moment ≡ []
none_expiring s due moment fits knows none =
    ap (take MOST_EXPIRED) (none_over s due moment fits knows none)

-- ---- values that are there

-- what holds of an option's value holds of it by name
pub some_of : {V : Type 0} (o : Option V) (v : V) → o ≡ Some v → (P : V → Type 0) → IfSome o P → P v
some_of None v is P h = absurd (let no : None ≡ Some v = is in let f : ⊥ = cc no in f)
some_of (Some u) v is P h = subst P (let same : u ≡ v = cc is in same) h

-- and what follows from it does too
pub some_then : {V : Type 0} (o : Option V) (P Q : V → Type 0) → IfSome o P
    → ((v : V) → P v → Q v) → IfSome o Q
some_then None P Q h leads = tt
some_then (Some v) P Q h leads = leads v h

-- ---- another list

-- Behind calls that only read the tables may have another list, where that one knows of each item too.
pub exchanged : {a b : DiskState} {t u v : Tables} (due : Due) → AreReady a t
    → OnlyReads a b t u → KeepsCatalog u v
    → ((disk : DiskState) (s : State) → Stands disk u s → Foresees s.tables due → Stands disk v s)
    → ((s : State) → Stands a t s → Foresees s.tables due) → OnlyReads a b t v
exchanged {a} {b} {t} {u} {v} due ready only keeps other knows = record {
  stays = λ s. (on s, back s);
  catalog = catalog_then only.catalog keeps;
  disk = only.disk;
}
  where
    on : (s : State) → Stands a t s → Stands b v s
    on s stands = other b s ((only.stays s).0 stands) (knows s stands)

    back : (s : State) → Stands b v s → Stands a t s
    back s stands =
        let (r, before) = ready (trusted_back a b only.disk.goes stands.rows.trusted) in
        subst (Stands a t) (one_stands b v r s (on r before) stands) before
