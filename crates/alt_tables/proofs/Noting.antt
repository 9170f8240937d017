-- What is known of streams behind several writes: what each of them noted, and else what was.
use Rattle.std.proofs.Common.{append-nil, append_assoc, ◌≡◌, ◌≤◌, ◌+◌, refl, sym, ap, subst, ◌∙◌, ℕ, Bool, true, false, cond, List, [], ◌∷◌, ◌++◌, Option, Some, None, IsSome, All, ◌<◌, arith}
use Rattle.std.proofs.lemmas.Bool.{false≢true}
use Rattle.std.proofs.lemmas.Slice.Eq.{bytes_eq-Decides}
use Rattle.std.proofs.lemmas.Option.{same_Some}
use Rattle.std.specs.FinMap as map
use Rattle.std.specs.Option.{option_map_or}
use Rattle.std.specs.Prelude.{◌-◌, if◌then◌else◌, is_some}
use Rattle.std.specs.Str.{bytes_eq}
use Rattle.alt_changes.specs.ChangeRows.{row_key}
use Rattle.alt_layout.specs.Layout.{Layout, shown}
use Rattle.alt_machine.specs.State.{Table, Texts}
use Rattle.alt_machine.specs.Valid.{AreChanges}
use Rattle.alt_rowchanges.specs.OpeningTrimmed.{AreTrimmedOf, IsRenumbered, number_at}
use Rattle.alt_rowchanges.specs.OpeningDeclaredTrimmed.{Trimmed}
use Rattle.alt_schema.specs.declared.schema.TableSchema.{TableSchema}
use Rattle.alt_rowchanges.specs.Fronts.{AreFronts, IsFront, first_moment, front_at}
use Rattle.alt_rowchanges.specs.Leftovers.{leftovers}
use Rattle.alt_tables.specs.Several.{Every}
use Rattle.alt_rowchanges.specs.declared.fronts.Front.{Front}
use Rattle.alt_tables.specs.declared.several.Noted.{Noted}
use Rattle.alt_tables.specs.private.Staging.{AreKnown, AreNotes, IsFrontKnown, IsTableAhead, IsTouched, note_at, oldest_by}
use Rattle.alt_rowchanges.specs.Trims.{IsNoted, leftovers_from}
use Rattle.alt_rowchanges.proofs.FrontLaws.{front_alike}
use Rattle.alt_rowchanges.proofs.Rising.{filter_rising, rising_least}

-- ---- the notes

-- what holds of each element of two lists holds of those of each
pub every_front : {A : Type 0} (P : A → Type 0) (xs ys : List A) → Every P (xs ++ ys) → Every P xs
every_front P [] ys h = tt
every_front P (x ∷ xs) ys h = (h.0, every_front P xs ys h.1)

pub every_back : {A : Type 0} (P : A → Type 0) (xs ys : List A) → Every P (xs ++ ys) → Every P ys
every_back P [] ys h = h
every_back P (x ∷ xs) ys h = every_back P xs ys h.1

-- the note of a name is one of them, and of a table of that name
pub note_is : (catalog : Texts TableSchema) (next : ℕ) (name : List ℕ) (notes : List Noted)
    (e : Noted) → AreNotes catalog next notes → note_at name notes ≡ Some e
    → (e.table ≡ name) × ((d : TableSchema) → map.get catalog name ≡ Some d → IsSome d.stream_family
    → e.trim.number < next)
note_is catalog next name [] e all is = absurd (let no : None ≡ Some e = is in let f : ⊥ = cc no in f)
note_is catalog next name (x ∷ xs) e all is =
    by (bytes_eq x.table name) refl is (note_is catalog next name xs e all.1)
  where
    by : (b : Bool) → bytes_eq x.table name ≡ b → cond b (Some x) (note_at name xs) ≡ Some e
        → (note_at name xs ≡ Some e → (e.table ≡ name) × ((d : TableSchema)
        → map.get catalog name ≡ Some d → IsSome d.stream_family → e.trim.number < next))
        → (e.table ≡ name) × ((d : TableSchema) → map.get catalog name ≡ Some d
        → IsSome d.stream_family → e.trim.number < next)
    by true same is rest =
        let one : x ≡ e = same_Some x e is in
        let named : x.table ≡ name = (bytes_eq-Decides x.table name).0 same in (
          ap (λ (n : Noted). n.table) (sym one) ∙ named,
          λ d at stream. subst (λ (n : Noted). n.trim.number < next) one
              (all.0.1 d (ap (map.get catalog) named ∙ at) stream),
        )
    by false same is rest = rest is

-- ---- one note more is known

-- none changes nothing
pub none_known : (catalog : Texts TableSchema) (moment : ℕ) (trimmed : List Trimmed)
    (fronts : List Front) → AreKnown catalog moment [] trimmed trimmed fronts fronts
none_known catalog moment trimmed fronts = record { trimmed = λ q. refl; fronts = λ q. refl }

module _ (catalog : Texts TableSchema) (moment : ℕ) (x : Noted) (notes : List Noted)
    (old_trimmed mid_trimmed new_trimmed : List Trimmed) (old mid new : List Front)
    (so : AreKnown catalog moment notes old_trimmed mid_trimmed old mid)
    (renumbered : IsRenumbered x.table x.trim.number mid_trimmed new_trimmed) (d : TableSchema)
    (at : map.get catalog x.table ≡ Some d)
    (noted : IsNoted d x.table moment x.trim mid new) where
  -- of another name is known what was
  other_fronts : (q : List ℕ) → bytes_eq x.table q ≡ false → front_at q new ≡ front_at q mid
  other_fronts q apart = by d.stream_family refl
    where
      by : (o : Option ℕ) → d.stream_family ≡ o → front_at q new ≡ front_at q mid
      by None e = ap (front_at q) (noted.none e)
      by (Some family) e = (noted.stream family e).others q apart

  -- so it is of a table without a stream
  still_front : (q : List ℕ) → map.get catalog q ≡ Some d → d.stream_family ≡ None
      → front_at q mid ≡ front_at q old
  still_front q there none = by (note_at q notes) (so.fronts q)
    where
      by : (o : Option Noted) → IsFrontKnown catalog moment q o old mid
          → front_at q mid ≡ front_at q old
      by None h = h
      by (Some e) h = h.1 d there none

  of_its_table : (q : List ℕ) → x.table ≡ q → IsFrontKnown catalog moment q (Some x) old new
  of_its_table q same = (
    λ f told c there stream. by f told c.stream_family
        (ap (λ (y : TableSchema). y.stream_family)
        (same_Some d c (sym (ap (map.get catalog) (sym same) ∙ at) ∙ there))) stream,
    λ c there none.
        let one : c ≡ d = same_Some c d (sym there ∙ ap (map.get catalog) (sym same) ∙ at) in
        let bare : d.stream_family ≡ None =
        ap (λ (y : TableSchema). y.stream_family) (sym one) ∙ none in
        ap (front_at q) (noted.none bare)
        ∙ still_front q (ap (map.get catalog) (sym same) ∙ at) bare,
  )
    where
      by : (f : Front) → front_at q new ≡ Some f → (o : Option ℕ) → d.stream_family ≡ o → IsSome o
          → (f.oldest ≡ oldest_by moment x.trim) × (f.from ≡ x.trim.from)
      by f told None e has = absurd (false≢true has)
      by f told (Some family) e has = (noted.stream family e).own f
          (ap (λ n. front_at n new) same ∙ told)

  -- One more is.
  pub one_known : AreKnown catalog moment (x ∷ notes) old_trimmed new_trimmed old new
  one_known = record {
    trimmed = λ q. renumbered q ∙ number q (bytes_eq x.table q);
    fronts = λ q. front q (bytes_eq x.table q) refl;
  }
    where
      number : (q : List ℕ) (b : Bool)
          → (if b then x.trim.number else number_at q mid_trimmed)
          ≡ option_map_or (λ (e : Noted). e.trim.number) (cond b (Some x) (note_at q notes))
          (number_at q old_trimmed)
      number q true = refl
      number q false = so.trimmed q

      moved : (q : List ℕ) → front_at q new ≡ front_at q mid → (o : Option Noted)
          → IsFrontKnown catalog moment q o old mid → IsFrontKnown catalog moment q o old new
      moved q same None h = same ∙ h
      moved q same (Some e) h = (
        λ f told. h.0 f (sym same ∙ told),
        λ c there none. same ∙ h.1 c there none,
      )

      front : (q : List ℕ) (b : Bool) → bytes_eq x.table q ≡ b
          → IsFrontKnown catalog moment q (cond (bytes_eq x.table q) (Some x) (note_at q notes))
          old new
      front q true e = subst (λ (b : Bool). IsFrontKnown catalog moment q
          (cond b (Some x) (note_at q notes)) old new) (sym e)
          (of_its_table q ((bytes_eq-Decides x.table q).0 e))
      front q false e = subst (λ (b : Bool). IsFrontKnown catalog moment q
          (cond b (Some x) (note_at q notes)) old new) (sym e)
          (moved q (other_fronts q e) (note_at q notes) (so.fronts q))

-- The last of the notes are known, and those that are left stand before them.
pub record AreLastKnown (catalog : Texts TableSchema) (moment : ℕ) (all left : List Noted)
    (old_trimmed now_trimmed : List Trimmed) (old now : List Front) : Type 0 where
  pub back : List Noted
  pub whole : all ≡ left ++ back
  pub known : AreKnown catalog moment back old_trimmed now_trimmed old now

-- before the first none is
pub last_none : (catalog : Texts TableSchema) (moment : ℕ) (all : List Noted)
    (trimmed : List Trimmed) (fronts : List Front)
    → AreLastKnown catalog moment all all trimmed trimmed fronts fronts
last_none catalog moment all trimmed fronts = record {
  back = [];
  whole = sym (append-nil all);
  known = none_known catalog moment trimmed fronts;
}

-- one more is
pub last_more : (catalog : Texts TableSchema) (moment : ℕ) (all left before : List Noted) (x : Noted)
    (old_trimmed mid_trimmed new_trimmed : List Trimmed) (old mid new : List Front)
    → before ≡ left ++ x ∷ []
    → AreLastKnown catalog moment all before old_trimmed mid_trimmed old mid
    → IsRenumbered x.table x.trim.number mid_trimmed new_trimmed → (d : TableSchema)
    → map.get catalog x.table ≡ Some d → IsNoted d x.table moment x.trim mid new
    → AreLastKnown catalog moment all left old_trimmed new_trimmed old new
last_more catalog moment all left before x old_trimmed mid_trimmed new_trimmed old mid new taken so
    renumbered d at noted = record {
      back = x ∷ so.back;
      whole = so.whole ∙ ap (λ ns. ns ++ so.back) taken ∙ append_assoc left (x ∷ []) so.back;
      known = one_known catalog moment x so.back old_trimmed mid_trimmed new_trimmed old mid new so.known
          renumbered d at noted;
    }

-- at the end all are
pub last_all : (catalog : Texts TableSchema) (moment : ℕ) (all left : List Noted)
    (old_trimmed now_trimmed : List Trimmed) (old now : List Front) → left ≡ []
    → AreLastKnown catalog moment all left old_trimmed now_trimmed old now
    → AreKnown catalog moment all old_trimmed now_trimmed old now
last_all catalog moment all left old_trimmed now_trimmed old now none so =
    subst (λ ns. AreKnown catalog moment ns old_trimmed now_trimmed old now)
    (sym (so.whole ∙ ap (λ ns. ns ++ so.back) none)) so.known

-- ---- all of them

module _ (l m : Layout) (moment : ℕ) (was now : Texts Table) (notes : List Noted)
    (tables : (q : List ℕ) → IsTableAhead l m moment (map.get was q) (map.get now q)
    (note_at q notes)) (catalog : Texts TableSchema)
    (described : (q : List ℕ) (t : Table) → map.get now q ≡ Some t
    → map.get catalog q ≡ Some t.description)
    (described_before : (q : List ℕ) (t : Table) → map.get was q ≡ Some t
    → map.get catalog q ≡ Some t.description) (old_trimmed new_trimmed : List Trimmed)
    (old new : List Front)
    (so : AreKnown catalog moment notes old_trimmed new_trimmed old new) where
  -- What was trimmed is known.
  pub trimmed_all : AreTrimmedOf was old_trimmed → AreTrimmedOf now new_trimmed
  trimmed_all are q = so.trimmed q ∙ by (note_at q notes) (tables q)
    where
      by : (o : Option Noted) → IsTableAhead l m moment (map.get was q) (map.get now q) o
          → option_map_or (λ (e : Noted). e.trim.number) o (number_at q old_trimmed)
          ≡ option_map_or (λ (t : Table). t.trimmed) (map.get now q) 0
      by None h = are q ∙ ap (λ o. option_map_or (λ (t : Table). t.trimmed) o 0) (sym h.same)
      by (Some e) h = sym h.2.trimmed
          ∙ ap (λ o. option_map_or (λ (t : Table). t.trimmed) o 0) (sym h.1)

  -- a front of a table without a stream is one of any such table
  bare_front : (t u : Table) (n : ℕ) → AreChanges t.description n t.trimmed t.changes → (k : ℕ)
      → AreChanges u.description k u.trimmed u.changes → t.description.stream_family ≡ None
      → u.description.stream_family ≡ None → (f : Front) → IsFront l t f → IsFront m u f
  bare_front t u n of_t k of_u none_t none_u f front =
      let t_has = of_t.none none_t in
      let u_has = of_u.none none_u in
      record {
        oldest = front.oldest ∙ ap first_moment (t_has.0 ∙ sym u_has.0);
        low = (
          front.low.0,
          subst (λ i. f.from ≤ i + 1) (t_has.1 ∙ sym u_has.1) front.low.1,
        );
        above = λ g of. absurd (let no : None ≡ Some g = sym none_u ∙ of in
            let e : ⊥ = cc no in e);
      }

  -- And the fronts are.
  pub fronts_all : ((q : List ℕ) (t : Table) → map.get now q ≡ Some t
      → (k : ℕ) × AreChanges t.description k t.trimmed t.changes)
      → ((q : List ℕ) (t : Table) → map.get was q ≡ Some t
      → (k : ℕ) × AreChanges t.description k t.trimmed t.changes)
      → AreFronts l was old → AreFronts m now new
  fronts_all valid valid_before are q f told = by (note_at q notes) (tables q) (so.fronts q)
    where
      touched_front : (e : Noted) (t : Table) → map.get now q ≡ Some t
          → IsTouched l m moment e.trim t → IsFrontKnown catalog moment q (Some e) old new
          → (o : Option ℕ) → t.description.stream_family ≡ o → IsFront m t f
      touched_front e t at touched known (Some family) stream =
          let is = known.0 f told t.description (described q t at)
          (subst IsSome (sym stream) refl) in
          record {
            oldest = is.0 ∙ sym (touched.oldest family stream);
            low = (
              subst (λ n. 1 ≤ n) (sym is.1) touched.low.0,
              subst (λ n. f.from ≤ n + 1) (sym touched.trimmed)
                  (subst (λ n. n ≤ e.trim.number + 1) (sym is.1) touched.low.1),
            );
            above = λ g of. subst (λ n. All (λ k. n ≤ k) (leftovers m g t.trimmed)) (sym is.1)
                (subst (λ ns. All (λ k. e.trim.from ≤ k) ns)
                (sym (ap (leftovers m g) touched.trimmed ∙ touched.left g of))
                (rising_least e.trim.from (e.trim.from + (e.trim.number + 1 - e.trim.from))
                (leftovers_from l g e.trim.from e.trim.number)
                (filter_rising (λ n. is_some (shown l g (row_key n))) e.trim.from
                (e.trim.number + 1 - e.trim.from)
                (e.trim.from + (e.trim.number + 1 - e.trim.from)) (omega arith))));
          }
      touched_front e t at touched known None stream =
          let (u, at_u, front) = are q f
          (sym (known.1 t.description (described q t at) stream) ∙ told) in
          let same : t.description ≡ u.description = same_Some _ _
          (sym (described q t at) ∙ described_before q u at_u) in
          let of_u = valid_before q u at_u in
          let of_t = valid q t at in
          bare_front u t of_u.0 of_u.1 of_t.0 of_t.1
          (ap (λ (y : TableSchema). y.stream_family) (sym same) ∙ stream) stream f front

      by : (o : Option Noted) → IsTableAhead l m moment (map.get was q) (map.get now q) o
          → IsFrontKnown catalog moment q o old new
          → (t : Table) × (map.get now q ≡ Some t) × IsFront m t f
      by None h known =
          let (t, at, front) = are q f (sym known ∙ told) in
          (t, h.same ∙ at, front_alike l m t f (λ family stream. h.rows t family at stream) front)
      by (Some e) h known = (
        h.0,
        h.1,
        touched_front e h.0 h.1 h.2 known h.0.description.stream_family refl,
      )
