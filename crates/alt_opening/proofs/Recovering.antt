-- What is known of a store that is opened.
use Rattle.std.proofs.Common.{◌≡◌, ◌≤◌, ◌+◌, inl, inr, sym, ap, subst, ◌∙◌, ℕ, List, [], ◌∷◌, Option, max, arith}
use Rattle.std.specs.Prelude.{⊤}
use Rattle.std.specs.FinMap as map
use Rattle.alt_disk.specs.Disk.{DiskState, IsTrusted}
use Rattle.alt_disk.specs.Runs.{Quiet, Spans}
use Rattle.alt_disk.proofs.Runs.{trusted_on, tells_of, quiet_spans, spans_on, spans_weaker}
use Rattle.alt_writes.specs.Bytes.{AllHeld}
use Rattle.alt_layout.specs.Families.{next_after}
use Rattle.alt_layout.specs.Files.{IsLayout, all_of}
use Rattle.alt_engine.specs.InHand.{ReadsLayout, StandsForLayout as EngineStands}
use Rattle.alt_manifest.specs.InHand.{version_of}
use Rattle.alt_layout.specs.Layout.{Layout}
use Rattle.alt_writes.specs.Writes.{Write}
use Rattle.alt_engine.specs.HandFaults.{told_by_recovery}
use Rattle.alt_engine.specs.HandRecovery.{ExplainsStore, HasNoLayout, IsBadFileAt, IsBadDigest, LeftLike}
use Rattle.alt_engine.specs.declared.engine.Engine.{Engine}
use Rattle.alt_engine.specs.HandDeclaredRecoverFault.{RecoverFault}
use Rattle.alt_layout.proofs.OneLayout.{one_layout}
use Rattle.alt_machine.specs.declared.TheConstants.{NUMBERS_END}
use Rattle.alt_machine.specs.State.{State}
use Rattle.alt_machine.specs.Valid.{IsValid}
use Rattle.alt_opening.specs.Images.{StandsFor}
use Rattle.alt_opening.specs.private.Opening.{Assembled, IsRowFault}
use Rattle.alt_faults.specs.Faults.{Damage, bad_bytes, bad_digest, bad_row, FileWhere, OnlyDamaged, RowWhere}
use Rattle.alt_faults.proofs.Telling.{tells-more}
use Rattle.alt_opening.specs.Faults.{told_by_opening}
use Rattle.alt_opening.specs.Recovery.{IsFirstWrong, RowIsUpTo, IsExplained, IsOfFiles, HasNoState, WasLeft}
use Rattle.alt_opening.specs.Scans.{Walked}
use Rattle.alt_opening.specs.StateRows.{Shows, IsHeldWhole}
use Rattle.alt_opening.specs.Opened.{OpensAs}
use Rattle.alt_opening.specs.declared.faults.OpenFault.{OpenFault}
use Rattle.alt_opening.specs.declared.recover.Store.{Store}
use Rattle.alt_opening.proofs.OneState.{agrees_all, agrees_whole, one_agrees, one_state_of_image}
use Rattle.alt_opening.proofs.Scanning.{stands_on}
use Rattle.alt_opening.proofs.StreamState.{none_wrong_stream}

-- ---- the number

-- the number behind writes is one that a state may have
number_after : (next : ℕ) (ws : List Write) → AllHeld ws
    → (1 ≤ next) × (next ≤ NUMBERS_END)
    → (1 ≤ next_after next ws) × (next_after next ws ≤ NUMBERS_END)
number_after next [] held within = within
number_after next (w ∷ ws) held within = number_after (max next (w.number + 1)) ws held.1
    (omega (arith, within.0), let high = held.0.number in omega (arith, high, within.1))

-- the next number of a layout that reads lies between 1 and the end of all numbers
pub number_within : (s : DiskState) (e : Engine) (l : Layout) → ReadsLayout s e l
    → (1 ≤ l.next_number) × (l.next_number ≤ NUMBERS_END)
number_within s e l reads =
    let first = reads.versions.is.next_number in
    subst (λ (m : Layout). (1 ≤ m.next_number) × (m.next_number ≤ NUMBERS_END)) (sym reads.is)
    (number_after (version_of e.hand.manifest).next_number (all_of reads.parts) reads.stored.writes
    (omega (arith, first.0), omega (arith, first.1)))

-- ---- a stop on the way

-- what has the layout of what a stop might have left before stands for its state
left_like : (a : DiskState) (t : ℕ) (image : ℕ → Option (List ℕ)) → LeftLike a t image
    → WasLeft a t image
left_like a t image like = record {
  before = like.before;
  left = like.left;
  same = λ s stands. record {
    layout = stands.layout;
    is = like.same stands.layout stands.is;
    shows = stands.shows;
    valid = stands.valid;
    held = stands.held;
  };
}

-- so of all that a stop leaves
pub left_at_once : (a b : DiskState) → Spans a b (λ _. ⊤) (LeftLike a)
    → Spans a b (λ _. ⊤) (WasLeft a)
left_at_once a b spans = spans_weaker a b (λ _. ⊤) (λ _. ⊤) (WasLeft a) (LeftLike a) spans
    (λ g is. is) (left_like a)

-- also behind the calls, while others leave every file
pub left_before : (a b c : DiskState) → Spans a b (λ _. ⊤) (LeftLike a) → Quiet b c
    → Spans a c (λ _. ⊤) (WasLeft a)
left_before a b c spans quiet = spans_on a b c (λ _. ⊤) (WasLeft a) (left_at_once a b spans)
    (quiet_spans b c (λ _. ⊤) (WasLeft a) quiet (λ t image is. left_like a b.moment image
    (spans.each b.moment image spans.later (omega arith) is)))

-- ---- the files as they read

-- files with the layouts of others stand for their state
pub stands_like : (files image : ℕ → Option (List ℕ))
    → ((l : Layout) → IsLayout files l → IsLayout image l) → (s : State) → StandsFor files s
    → StandsFor image s
stands_like files image same s stands = record {
  layout = stands.layout;
  is = same stands.layout stands.is;
  shows = stands.shows;
  valid = stands.valid;
  held = stands.held;
}

-- also behind calls that leave every file
pub stands_behind : (a b c : DiskState) → ((l : Layout) → IsLayout a.file l → IsLayout b.file l)
    → Quiet b c → (s : State) → StandsFor a.file s → StandsFor c.file s
stands_behind a b c same quiet s stands =
    subst (λ (image : ℕ → Option (List ℕ)). StandsFor image s) (λ i f. sym (quiet.file f) i)
    (stands_like a.file b.file same s stands)

-- ---- a state was read

module _ (old mid new : DiskState) (e f : Engine) (l : Layout) (is : IsLayout old.file l)
    (reads : ReadsLayout mid e l) (walked : Walked mid new e f) (t : Store) (known : t.engine ≡ f)
    (s : State) (made : Assembled l t.family t.catalog t.largest t.trimmed.items s) where
  -- the files stand for it
  pub read_state : StandsFor old.file s
  read_state = record {
    layout = l;
    is = is;
    shows = made.shows;
    valid = made.valid;
    held = made.held;
  }

  -- and so does the store
  stands_there : IsTrusted mid → EngineStands mid e l → OpensAs new t s
  stands_there trusted stands =
      let here : EngineStands new f l = stands_on mid new e f l walked (tells_of mid trusted) stands
      in
      let there : EngineStands new t.engine l =
      subst (λ x. EngineStands new x l) (sym known) here in
      record {
        catalog = sym made.catalog;
        number = there.hand.reads.next ∙ made.shows.number;
        family = sym made.family;
        trimmed = made.trimmed_known;
        sized = made.sized;
        rows = record {
          trusted = trusted_on mid new walked.goes trusted;
          layout = l;
          is = there;
          shows = made.shows;
          held = made.held;
        };
        valid = made.valid;
      }

  -- which is the one for which the files stand
  pub stands_then : IsTrusted mid → EngineStands mid e l → (r : State) → StandsFor old.file r
      → OpensAs new t r
  stands_then trusted stands r is_r = subst (OpensAs new t)
      (one_state_of_image old.file s r read_state is_r) (stands_there trusted stands)

-- ---- no state was read

-- rows that a state shows have no first wrong one
pub none_wrong : (l : Layout) (family : ℕ) (key : List ℕ) → IsFirstWrong l family key → (s : State)
    → Shows l s → IsValid s → IsHeldWhole s → ⊥
none_wrong l family key (inl first) s shows valid held = first.none s
    (agrees_all (λ f k. RowIsUpTo f k family key) l s shows valid held)
none_wrong l family key (inr (inl first)) s shows valid held =
    none_wrong_stream l s (agrees_whole l s shows valid held) family key first
none_wrong l family key (inr (inr first)) s shows valid held =
    let one : first.state ≡ s = one_agrees l first.state s first.agrees
    (agrees_whole l s shows valid held) in
    first.wrong (shows.indexes first.name first.table first.number first.index
    (ap (λ (r : State). map.get r.tables first.name) (sym one) ∙ first.there) first.at key)

module _ (files : ℕ → Option (List ℕ)) where
  -- a fault of the rows of the files
  pub rows_explain : (l : Layout) → IsLayout files l → (fault : OpenFault) → IsRowFault l fault
      → IsExplained files fault
  rows_explain l is fault = tells-more (λ n. ⊥) (λ n. ⊥) (RowWhere (IsFirstWrong l))
      (IsOfFiles files) (λ n no. no) by (told_by_opening fault)
    where
      by : (damage : Damage) → RowWhere (IsFirstWrong l) damage → IsOfFiles files damage
      by (bad_bytes file place) wrong = absurd wrong
      by (bad_digest file kept found) wrong = absurd wrong
      by (bad_row family key) wrong = record { layout = l; is = is; wrong = wrong }

  -- where a row is wrong the files stand for no state
  pub rows_no_state : (l : Layout) → IsLayout files l → (fault : OpenFault) → IsRowFault l fault
      → HasNoState files fault
  rows_no_state l is fault = tells-more (λ n. ⊥) (λ n. ⊥) (RowWhere (IsFirstWrong l))
      (λ damage. (s : State) → StandsFor files s → ⊥) (λ n no. no) by (told_by_opening fault)
    where
      by : (damage : Damage) → RowWhere (IsFirstWrong l) damage → (s : State)
          → StandsFor files s → ⊥
      by (bad_bytes file place) wrong = absurd wrong
      by (bad_digest file kept found) wrong = absurd wrong
      by (bad_row family key) wrong = λ s stands. none_wrong l family key wrong s
          (subst (λ m. Shows m s) (one_layout files stands.layout l stands.is is) stands.shows)
          stands.valid stands.held

  -- damage of the files themselves
  of_files : (damage : Damage) → FileWhere (IsBadFileAt files) (IsBadDigest files) damage
      → IsOfFiles files damage
  of_files (bad_bytes file place) bad = bad
  of_files (bad_digest file kept found) bad = bad
  of_files (bad_row family key) bad = absurd bad

  -- and a fault that tells it
  pub files_explain : (given : RecoverFault) (fault : OpenFault)
      → told_by_opening fault ≡ told_by_recovery given → ExplainsStore files given
      → IsExplained files fault
  files_explain given fault same bad = subst (OnlyDamaged (IsOfFiles files)) (sym same)
      (tells-more (λ n. ⊥) (λ n. ⊥) (FileWhere (IsBadFileAt files) (IsBadDigest files))
      (IsOfFiles files) (λ n no. no) of_files (told_by_recovery given) bad)

  -- where the files are no store's they stand for no state
  pub files_no_state : (given : RecoverFault) (fault : OpenFault)
      → told_by_opening fault ≡ told_by_recovery given → HasNoLayout files given
      → HasNoState files fault
  files_no_state given fault same none =
      subst (OnlyDamaged (λ damage. (s : State) → StandsFor files s → ⊥)) (sym same)
      (tells-more (λ n. ⊥) (λ n. ⊥) (λ damage. (l : Layout) → IsLayout files l → ⊥)
      (λ damage. (s : State) → StandsFor files s → ⊥) (λ n no. no)
      (λ damage no_layout s stands. no_layout stands.layout stands.is)
      (told_by_recovery given) none)
