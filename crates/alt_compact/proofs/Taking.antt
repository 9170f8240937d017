-- Calls on the source and on the writer of a merge that is under way.
use Rattle.std.proofs.Common.{◌≡◌, ℕ, Bool, true, false, IsTrue, T, List, [], ◌∷◌, ◌++◌, Some, None, refl, sym, ap, subst, ◌∙◌, append_assoc, take, drop, suc, ◌≤◌}
use Rattle.std.specs.FinMap.{entries_sorted}
use Rattle.std.specs.FinMap.Entries.{is_sorted}
use Rattle.alt_disk.specs.Disk.{DiskState, IsTrusted, Goes}
use Rattle.alt_disk.specs.Runs.{Quiet}
use Rattle.alt_disk.proofs.Calls.{goes_on}
use Rattle.alt_disk.proofs.Runs.{trusted_on, tells_of, quiet_spans, spans_on}
use Rattle.alt_cells.specs.declared.row.RowCells.{RowCells}
use Rattle.alt_cells.specs.Keys.{key_cmp}
use Rattle.alt_cells.specs.Compacted.{compacted}
use Rattle.alt_cells.specs.Walks.{RowMap, RowList, Gives, KeepsSource, SameFiles, Anything}
use Rattle.alt_cells.proofs.Rising.{sorted_front}
use Rattle.alt_cells.proofs.CellLaws.{key_total}
use Rattle.alt_compact.specs.declared.job.Job.{Job}
use Rattle.alt_compact.specs.Jobs.{IsUnderWay, TakesRows, Took, MovesOnlyTouched}
use Rattle.alt_compact.proofs.Lists.{last_key_pushed, taken_all, taken_more}

-- ---- what calls move

-- a call that leaves all files
pub moves_quiet : (touched : ℕ → Bool) (a b : DiskState) → Goes a b
    → (IsTrue a.tells → Quiet a b) → MovesOnlyTouched touched a b
moves_quiet touched a b goes quiet = record {
  goes = goes;
  others = λ t. quiet_spans a b (λ f. IsTrue (touched f)) Anything (quiet (tells_of a t))
      (λ t image fits. tt);
}

-- two calls, of which the second touches the same files
pub moves_on : (touched then_touched : ℕ → Bool) (a b c : DiskState) → then_touched ≡ touched
    → MovesOnlyTouched touched a b → MovesOnlyTouched then_touched b c → MovesOnlyTouched touched a c
moves_on touched then_touched a b c same first then =
    let rest = subst (λ w. MovesOnlyTouched w b c) same then in
    record {
      goes = goes_on a b c first.goes rest.goes;
      others = λ t. spans_on a b c (λ f. IsTrue (touched f)) Anything (first.others t)
          (rest.others (trusted_on a b first.goes t));
    }

-- ---- what is under way

-- the row that is given is the first of those that are left
given_first : (After : RowList → Type 0) (left : RowList) (given : List ℕ × RowCells)
    → Gives After left (Some given)
    → (rest : RowList) × (left ≡ given ∷ rest) × After rest
given_first After [] given gives = absurd gives
given_first After (e ∷ left) given gives = (left, ap (λ x. x ∷ left) (sym gives.0), gives.1)

given_none : (After : RowList → Type 0) (left : RowList) → Gives After left None
    → (left ≡ []) × After []
given_none After [] gives = (refl, gives)
given_none After (e ∷ left) gives = absurd gives

module _ {S W : Type 0} (Holds : DiskState → S → RowMap → Type 0) (reads : S → ℕ → Bool)
    (Left : DiskState → S → RowList → Type 0) (Written : DiskState → W → RowList → Type 0)
    (writes : W → ℕ → Bool)
    (holds_on : (a b : DiskState) (x : S) (rows : RowMap) → SameFiles (reads x) a b
    → Holds a x rows → Holds b x rows)
    (left_on : (a b : DiskState) (x : S) (rows : RowList) → SameFiles (reads x) a b
    → Left a x rows → Left b x rows)
    (written_on : (a b : DiskState) (w : W) (rows : RowList) → SameFiles (writes w) a b
    → Written a w rows → Written b w rows) where
  -- the files that the source reads stay where only those that the writer writes change
  same_read : (a b : DiskState) (x : S) (w : W)
      → ((f : ℕ) → IsTrue (reads x f) → IsTrue (writes w f) → ⊥) → IsTrusted a
      → MovesOnlyTouched (writes w) a b → SameFiles (reads x) a b
  same_read a b x w apart t moves f r = (moves.others t).file f (λ h. apart f r h)

  -- a call on the source leaves a merge under way as it is
  pub under_read : (a b : DiskState) (job : Job) (x y : S) (w : W) (taken left : RowList)
      → IsTrue a.tells → KeepsSource Holds reads a b x y
      → IsUnderWay Holds reads Written writes a job x w taken left
      → IsUnderWay Holds reads Written writes b job y w taken left
  under_read a b job x y w taken left t keeps under = record {
    rows = under.rows;
    holds = keeps.holds t under.rows under.holds;
    are = under.are;
    at = under.at;
    written = written_on a b w (compacted job.purge taken) (λ f r. (keeps.quiet t).file f)
        under.written;
    apart = λ f r h. under.apart f (subst (λ p. IsTrue (p f)) keeps.reads r) h;
  }

  -- the rows that were taken rise with the next one
  rising_next : (s : DiskState) (job : Job) (x : S) (w : W) (taken rest : RowList)
      (e : List ℕ × RowCells) → IsUnderWay Holds reads Written writes s job x w taken (e ∷ rest)
      → T (is_sorted key_cmp (taken ++ e ∷ []))
  rising_next s job x w taken rest e under =
      sorted_front key_cmp key_total (taken ++ e ∷ []) rest
      (subst (λ es. T (is_sorted key_cmp es))
      (under.are ∙ sym (append_assoc taken (e ∷ []) rest)) (entries_sorted under.rows))

  -- what a write of the row that was given asks
  pub ready : (a b : DiskState) (job : Job) (x y : S) (w : W) (taken left : RowList)
      (given : List ℕ × RowCells) → IsTrue a.tells
      → TakesRows Holds reads Left Written writes a job x w taken left
      → KeepsSource Holds reads a b x y → Gives (Left b y) left (Some given)
      → Written b w (compacted job.purge taken) × T (is_sorted key_cmp (taken ++ given ∷ []))
  ready a b job x y w taken left given t takes keeps gives =
      let first = given_first (Left b y) left given gives in (
        (under_read a b job x y w taken left t keeps takes.under).written,
        rising_next a job x w taken first.0 given
            (subst (λ l. IsUnderWay Holds reads Written writes a job x w taken l) first.1
            takes.under),
      )

  -- a row that was given and written is taken
  pub took_some : (a b c : DiskState) (job later : Job) (x y : S) (w v : W) (taken left : RowList)
      (given : List ℕ × RowCells) → IsTrusted a
      → TakesRows Holds reads Left Written writes a job x w taken left
      → KeepsSource Holds reads a b x y → Gives (Left b y) left (Some given)
      → MovesOnlyTouched (writes w) b c → writes v ≡ writes w → later.last ≡ Some given.0
      → later.purge ≡ job.purge
      → (Written b w (compacted job.purge taken) → T (is_sorted key_cmp (taken ++ given ∷ []))
      → Written c v (compacted job.purge (taken ++ given ∷ [])))
      → Took (TakesRows Holds reads Left Written writes c later y v) taken left true
  took_some a b c job later x y w v taken left given t takes keeps gives moves files at purge wrote =
      let tells = tells_of a t in
      let first = given_first (Left b y) left given gives in
      let under = under_read a b job x y w taken left tells keeps takes.under in
      let same = same_read b c y w under.apart (trusted_on a b keeps.goes t) moves in
      let asked = ready a b job x y w taken left given tells takes keeps gives in
      subst (λ l. Took (TakesRows Holds reads Left Written writes c later y v) taken l true)
      (sym first.1)
      (record {
        under = record {
          rows = under.rows;
          holds = holds_on b c y under.rows same under.holds;
          are = under.are ∙ ap (λ l. taken ++ l) first.1
              ∙ sym (append_assoc taken (given ∷ []) first.0);
          at = at ∙ sym (last_key_pushed taken given);
          written = subst (λ p. Written c v (compacted p (taken ++ given ∷ []))) (sym purge)
              (wrote asked.0 asked.1);
          apart = λ f r h. under.apart f r (subst (λ p. IsTrue (p f)) files h);
        };
        next = left_on b c y first.0 same first.2;
      })

  -- the end is taken
  pub took_none : (a b : DiskState) (job : Job) (x y : S) (w : W) (taken left : RowList)
      → IsTrusted a → TakesRows Holds reads Left Written writes a job x w taken left
      → KeepsSource Holds reads a b x y → Gives (Left b y) left None
      → Took (TakesRows Holds reads Left Written writes b job y w) taken left false
  took_none a b job x y w taken left t takes keeps gives =
      let none = given_none (Left b y) left gives in
      let under = under_read a b job x y w taken left (tells_of a t) keeps takes.under in
      subst (λ l. Took (TakesRows Holds reads Left Written writes b job y w) taken l false)
      (sym none.0)
      (record {
        under = subst (λ l. IsUnderWay Holds reads Written writes b job y w taken l) none.0 under;
        next = none.1;
      })

  -- ---- a step: after i rows of those that were left

  -- one more
  pub step_more : (c : DiskState) (job : Job) (y : S) (v : W) (taken left : RowList) (i : ℕ)
      → Took (TakesRows Holds reads Left Written writes c job y v) (taken ++ take i left) (drop i left)
      true
      → TakesRows Holds reads Left Written writes c job y v (taken ++ take (suc i) left)
      (drop (suc i) left)
  step_more c job y v taken left i took = at (drop i left) refl took
    where
      at : (l : RowList) → drop i left ≡ l
          → Took (TakesRows Holds reads Left Written writes c job y v) (taken ++ take i left) l true
          → TakesRows Holds reads Left Written writes c job y v (taken ++ take (suc i) left)
          (drop (suc i) left)
      at [] is took = absurd took
      at (e ∷ rest) is took =
          let more = taken_more i taken left e rest is in
          subst (λ l. TakesRows Holds reads Left Written writes c job y v l (drop (suc i) left)) more.0
          (subst (λ l. TakesRows Holds reads Left Written writes c job y v
          ((taken ++ take i left) ++ e ∷ []) l) more.1 took)

  -- no more
  pub step_end : (c : DiskState) (job : Job) (y : S) (v : W) (taken left : RowList) (i n : ℕ)
      → i ≤ n
      → Took (TakesRows Holds reads Left Written writes c job y v) (taken ++ take i left) (drop i left)
      false
      → IsUnderWay Holds reads Written writes c job y v (taken ++ take n left) (drop n left)
      × (drop n left ≡ [])
  step_end c job y v taken left i n le took = at (drop i left) refl took
    where
      at : (l : RowList) → drop i left ≡ l
          → Took (TakesRows Holds reads Left Written writes c job y v) (taken ++ take i left) l false
          → IsUnderWay Holds reads Written writes c job y v (taken ++ take n left) (drop n left)
          × (drop n left ≡ [])
      at (e ∷ rest) is took = absurd took
      at [] is took =
          let all = taken_all i n left le is in (
            subst (λ l. IsUnderWay Holds reads Written writes c job y v (taken ++ l) (drop n left))
                (sym all.0)
                (subst (λ l. IsUnderWay Holds reads Written writes c job y v (taken ++ take i left) l)
                (sym all.1) took.under),
            all.1,
          )
