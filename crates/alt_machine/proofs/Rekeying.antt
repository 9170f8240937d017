-- What is found under other keys, before and after an entry changes.
use Rattle.std.proofs.Common.{◌≡◌, ◌⊎◌, inl, inr, ⊎_elim, ℕ, Bool, true, false, cond, T, List, [], ◌∷◌, Option, Some, None, refl, sym, ap, ◌∙◌}
use Rattle.std.proofs.lemmas.Bool.{false≢true}
use Rattle.std.proofs.lemmas.Option.{same_Some}
use Rattle.std.specs.Prelude.{if◌then◌else◌, option_and_then}
use Rattle.std.specs.Ordering.{eq_by_cmp, is_eq}
use Rattle.std.specs.FinMap.{entries, entries_sorted, get, get-entries, get-from_entries, get-insert, get-remove}
use Rattle.std.specs.FinMap.Entries.{find, is_sorted, below_all}
use Rattle.alt_base.proofs.Bools.{first_holds, second_holds}
use Rattle.alt_base.proofs.Orderings.{is_lt-holds}
use Rattle.alt_value.specs.Members.{text_order}
use Rattle.alt_value.proofs.Texts.{text_total}
use Rattle.alt_machine.specs.Rekeyed.{before_those, rekeyed_entries, rekeyed}
use Rattle.alt_machine.specs.State.{Texts}
use Rattle.alt_machine.specs.Writes.{with_item}
use Rattle.alt_value.specs.Tree.{Pair}
use Rattle.alt_value.proofs.TextTies.{text_itself, one_text}

-- no two values of a map have one key
abbrev pub AreApart : {X Y : Type 0} → (X → Option (List ℕ × Y)) → Texts X → Type 0
AreApart {X = X} {Y = Y} g m = (p q : List ℕ) (x y : X) (key : List ℕ) (v w : Y)
    → get m p ≡ Some x → get m q ≡ Some y → g x ≡ Some (key, v) → g y ≡ Some (key, w) → p ≡ q

-- nothing at the key of an entry, and else what was there
abbrev pub unless_at : {Y : Type 0} → List ℕ → Option (List ℕ × Y) → Option Y → Option Y
unless_at key None before = before
unless_at key (Some e) before = if eq_by_cmp text_order key e.0 then None else before

-- what stands at a key after one entry left and another came
abbrev pub moved : {Y : Type 0} → List ℕ → Option (List ℕ × Y) → Option (List ℕ × Y) → Option Y
    → Option Y
moved key old None before = unless_at key old before
moved key old (Some e) before =
    if eq_by_cmp text_order key e.0 then Some e.1 else unless_at key old before

-- a key below all isn't found
find_below : {X : Type 0} (q : List ℕ) (es : List (List ℕ × X)) → T (below_all text_order q es)
    → find text_order q es ≡ None
find_below q [] h = refl
find_below q (e ∷ es) h =
    ap (λ r. cond (is_eq r) (Some e.1) (find text_order q es)) (is_lt-holds _ (first_holds _ _ h))
    ∙ find_below q es (second_holds _ _ h)

-- two options with the same values
same_values : {A : Type 0} (o p : Option A) → ((a : A) → o ≡ Some a → p ≡ Some a)
    → ((a : A) → p ≡ Some a → o ≡ Some a) → o ≡ p
same_values None None h k = refl
same_values None (Some b) h k = k b refl
same_values (Some a) p h k = sym (h a refl)

module _ {X Y : Type 0} (g : X → Option (List ℕ × Y)) where
  -- an entry that gives this key this value
  abbrev Gives : (List ℕ → Option X) → List ℕ → Y → Type 0
  Gives at key v = (p : List ℕ) × ((x : X) × ((at p ≡ Some x) × (g x ≡ Some (key, v))))

  -- whatever is found under a key is given by an entry
  found_from : (key : List ℕ) (v : Y) (es : List (List ℕ × X)) → T (is_sorted text_order es)
      → find text_order key (rekeyed_entries g es) ≡ Some v
      → Gives (λ p. find text_order p es) key v
  found_from key v [] sorted found = let no : None ≡ Some v = found in cc no
  found_from key v (e ∷ es) sorted found =
      by_entry (λ there. found_from key v es (second_holds _ _ sorted) there) (g e.1) refl found
    where
      later : Gives (λ p. find text_order p es) key v
          → Gives (λ p. find text_order p (e ∷ es)) key v
      later given =
          (given.0, (given.1.0, (by_place (eq_by_cmp text_order given.0 e.0) refl, given.1.1.1)))
        where
          by_place : (b : Bool) → eq_by_cmp text_order given.0 e.0 ≡ b
              → cond b (Some e.1) (find text_order given.0 es) ≡ Some given.1.0
          by_place true same = let no : None ≡ Some given.1.0 = sym
              (find_below e.0 es (first_holds _ _ sorted))
              ∙ ap (λ k. find text_order k es) (sym (one_text given.0 e.0 same))
              ∙ given.1.1.0 in cc no
          by_place false other = given.1.1.0

      by_key : (find text_order key (rekeyed_entries g es) ≡ Some v
          → Gives (λ p. find text_order p es) key v) → (f : List ℕ × Y) (b : Bool)
          → eq_by_cmp text_order key f.0 ≡ b → g e.1 ≡ Some f
          → cond b (Some f.1) (find text_order key (rekeyed_entries g es)) ≡ Some v
          → Gives (λ p. find text_order p (e ∷ es)) key v
      by_key behind f true same is there = (e.0, (e.1, (ap (λ b. cond b (Some e.1) (find text_order e.0 es)) (text_itself e.0), is ∙ ap (λ x. Some x) (λ i. (sym (one_text key f.0 same) i, same_Some _ _ there i)))))
      by_key behind f false other is there = later (behind there)

      by_entry : (find text_order key (rekeyed_entries g es) ≡ Some v
          → Gives (λ p. find text_order p es) key v) → (o : Option (List ℕ × Y)) → g e.1 ≡ o
          → find text_order key (before_those o (rekeyed_entries g es)) ≡ Some v
          → Gives (λ p. find text_order p (e ∷ es)) key v
      by_entry behind None is there = later (behind there)
      by_entry behind (Some f) is there =
          by_key behind f (eq_by_cmp text_order key f.0) refl is there

  -- and what an entry gives a key, the key has something
  not_missed : (key : List ℕ) (v : Y) (p : List ℕ) (x : X) (es : List (List ℕ × X))
      → find text_order p es ≡ Some x → g x ≡ Some (key, v)
      → find text_order key (rekeyed_entries g es) ≡ None → ⊥
  not_missed key v p x [] at is none = let no : None ≡ Some x = at in cc no
  not_missed key v p x (e ∷ es) at is none =
      by_place (λ at none. not_missed key v p x es at is none) (eq_by_cmp text_order p e.0) at none
    where
      behind_none : (o : Option (List ℕ × Y))
          → find text_order key (before_those o (rekeyed_entries g es)) ≡ None
          → find text_order key (rekeyed_entries g es) ≡ None
      behind_none None none = none
      behind_none (Some f) none = by_key (eq_by_cmp text_order key f.0) none
        where
          by_key : (b : Bool) → cond b (Some f.1) (find text_order key (rekeyed_entries g es))
              ≡ None → find text_order key (rekeyed_entries g es) ≡ None
          by_key true none = let no : Some f.1 ≡ None = none in cc no
          by_key false none = none

      by_place : (find text_order p es ≡ Some x → find text_order key (rekeyed_entries g es) ≡ None
          → ⊥) → (b : Bool) → cond b (Some e.1) (find text_order p es) ≡ Some x
          → find text_order key (before_those (g e.1) (rekeyed_entries g es)) ≡ None → ⊥
      by_place behind true at none =
          let here : g e.1 ≡ Some (key, v) = ap g (same_Some _ _ at) ∙ is in
          let no : Some v
          ≡ None = ap (λ b. cond b (Some v) (find text_order key (rekeyed_entries g es)))
          (sym (text_itself key))
          ∙ ap (λ o. find text_order key (before_those o (rekeyed_entries g es))) (sym here)
          ∙ none in cc no
      by_place behind false at none = behind at (behind_none (g e.1) none)

  module _ (m : Texts X) where
    pub given_by : (key : List ℕ) (v : Y) → get (rekeyed g m) key ≡ Some v → Gives (get m) key v
    given_by key v found =
        let given = found_from key v (entries m) (entries_sorted m)
        (sym (get-from_entries text_total (rekeyed_entries g (entries m)) key) ∙ found) in
        (given.0, (given.1.0, (get-entries m given.0 ∙ given.1.1.0, given.1.1.1)))

    pub gives : AreApart g m → (key : List ℕ) (v : Y) → Gives (get m) key v
        → get (rekeyed g m) key ≡ Some v
    gives apart key v given = by_value (get (rekeyed g m) key) refl
      where
        by_value : (o : Option Y) → get (rekeyed g m) key ≡ o → o ≡ Some v
        by_value None is =
            absurd (not_missed key v given.0 given.1.0 (entries m)
            (sym (get-entries m given.0) ∙ given.1.1.0) given.1.1.1
            (sym (get-from_entries text_total (rekeyed_entries g (entries m)) key) ∙ is))
        by_value (Some w) is =
            let other = given_by key w is in
            let one : other.0 ≡ given.0 = apart other.0 given.0 other.1.0 given.1.0 key w v
            other.1.1.0 given.1.1.0 other.1.1.1 given.1.1.1 in
            let same : other.1.0 ≡ given.1.0 =
            same_Some _ _ (sym other.1.1.0 ∙ ap (get m) one ∙ given.1.1.0) in
            let entry : (key, w) ≡ (key, v) =
            same_Some _ _ (sym other.1.1.1 ∙ ap g same ∙ given.1.1.1) in
            ap (λ (e : List ℕ × Y). Some e.1) entry

-- ---- an entry that changes

module _ {Y : Type 0} (g : List Pair → Option (List ℕ × Y)) where
  abbrev IsOther : List ℕ → Option (List ℕ × Y) → Type 0
  IsOther key o = (e : List ℕ × Y) → o ≡ Some e → eq_by_cmp text_order key e.0 ≡ false

  moved_here : (key : List ℕ) (v : Y) (o : Option (List ℕ × Y)) (before : Option Y)
      → moved key o (Some (key, v)) before ≡ Some v
  moved_here key v o before =
      ap (λ b. if b then Some v else unless_at key o before) (text_itself key)

  unless_stays : (key : List ℕ) (o : Option (List ℕ × Y)) (before : Option Y) → IsOther key o
      → unless_at key o before ≡ before
  unless_stays key None before other = refl
  unless_stays key (Some e) before other = ap (λ b. if b then None else before) (other e refl)

  moved_stays : (key : List ℕ) (o n : Option (List ℕ × Y)) (before : Option Y) → IsOther key o
      → IsOther key n → moved key o n before ≡ before
  moved_stays key o None before other other_n = unless_stays key o before other
  moved_stays key o (Some e) before other other_n =
      ap (λ b. if b then Some e.1 else unless_at key o before) (other_n e refl)
      ∙ unless_stays key o before other

  unless_is : (key : List ℕ) (v : Y) (o : Option (List ℕ × Y)) (before : Option Y)
      → unless_at key o before ≡ Some v → (before ≡ Some v) × IsOther key o
  unless_is key v None before is = (is, λ e no. absurd (let n : None ≡ Some e = no in cc n))
  unless_is key v (Some f) before is = by_key (eq_by_cmp text_order key f.0) refl is
    where
      by_key : (b : Bool) → eq_by_cmp text_order key f.0 ≡ b → (if b then None else before) ≡ Some v
          → (before ≡ Some v) × IsOther key (Some f)
      by_key true same is = absurd (let n : None ≡ Some v = is in cc n)
      by_key false other is = (
        is,
        λ e same. ap (λ (k : List ℕ × Y). eq_by_cmp text_order key k.0)
            (sym (same_Some _ _ same)) ∙ other,
      )

  moved_is : (key : List ℕ) (v : Y) (o n : Option (List ℕ × Y)) (before : Option Y)
      → moved key o n before ≡ Some v → (n ≡ Some (key, v)) ⊎ ((before ≡ Some v) × IsOther key o)
  moved_is key v o None before is = inr (unless_is key v o before is)
  moved_is key v o (Some f) before is = by_key (eq_by_cmp text_order key f.0) refl is
    where
      by_key : (b : Bool) → eq_by_cmp text_order key f.0 ≡ b
          → (if b then Some f.1 else unless_at key o before) ≡ Some v
          → (Some f ≡ Some (key, v)) ⊎ ((before ≡ Some v) × IsOther key o)
      by_key true same is =
          inl (ap (λ x. Some x) (λ i. (sym (one_text key f.0 same) i, same_Some _ _ is i)))
      by_key false other is = inr (unless_is key v o before is)

  entry_of : (o : Option (List Pair)) (e : List ℕ × Y) → option_and_then g o ≡ Some e
      → (x : List Pair) × ((o ≡ Some x) × (g x ≡ Some e))
  entry_of None e is = absurd (let n : None ≡ Some e = is in cc n)
  entry_of (Some x) e is = (x, (refl, is))

  -- what is found where an entry was put, or taken out
  get-with_item : (m : Texts (List Pair)) (p : List ℕ) (new : Option (List Pair)) (q : List ℕ)
      → get (with_item m p new) q ≡ cond (eq_by_cmp text_order q p) new (get m q)
  get-with_item m p None q = get-remove text_total m p q
  get-with_item m p (Some x) q = get-insert text_total m p x q

  module _ (m : Texts (List Pair)) (p : List ℕ) (new : Option (List Pair)) (apart : AreApart g m)
      (apart_after : AreApart g (with_item m p new)) where
    at_place : get (with_item m p new) p ≡ new
    at_place = get-with_item m p new p ∙ ap (λ b. cond b new (get m p)) (text_itself p)

    elsewhere : (q : List ℕ) → eq_by_cmp text_order q p ≡ false
        → get (with_item m p new) q ≡ get m q
    elsewhere q other = get-with_item m p new q ∙ ap (λ b. cond b new (get m q)) other

    contradicts : (q : List ℕ) → eq_by_cmp text_order q p ≡ false → q ≡ p → ⊥
    contradicts q other same =
        false≢true (sym other ∙ ap (λ k. eq_by_cmp text_order k p) same ∙ text_itself p)

    -- a key that another place gives is neither the one that left nor the one that came
    other_old : (key : List ℕ) (v : Y) (q : List ℕ) (x : List Pair)
        → eq_by_cmp text_order q p ≡ false → get m q ≡ Some x → g x ≡ Some (key, v)
        → IsOther key (option_and_then g (get m p))
    other_old key v q x other at is e old = by_key (eq_by_cmp text_order key e.0) refl
      where
        by_key : (b : Bool) → eq_by_cmp text_order key e.0 ≡ b → b ≡ false
        by_key false is_other = refl
        by_key true same =
            let y = entry_of (get m p) e old in
            let entry : g y.0 ≡ Some (key, e.1) = y.1.1
            ∙ ap (λ x. Some x) (λ i. (sym (one_text key e.0 same) i, e.1)) in
            absurd (contradicts q other (apart q p x y.0 key v e.1 at y.1.0 is entry))

    other_new : (key : List ℕ) (v : Y) (q : List ℕ) (x : List Pair)
        → eq_by_cmp text_order q p ≡ false → get m q ≡ Some x → g x ≡ Some (key, v)
        → IsOther key (option_and_then g new)
    other_new key v q x other at is e new_is = by_key (eq_by_cmp text_order key e.0) refl
      where
        by_key : (b : Bool) → eq_by_cmp text_order key e.0 ≡ b → b ≡ false
        by_key false is_other = refl
        by_key true same =
            let y = entry_of new e new_is in
            let entry : g y.0 ≡ Some (key, e.1) = y.1.1
            ∙ ap (λ x. Some x) (λ i. (sym (one_text key e.0 same) i, e.1)) in
            absurd (contradicts q other
            (apart_after q p x y.0 key v e.1 (elsewhere q other ∙ at)
            (at_place ∙ y.1.0) is entry))

    forth : (key : List ℕ) (v : Y) → get (rekeyed g (with_item m p new)) key ≡ Some v
        → moved key (option_and_then g (get m p)) (option_and_then g new)
        (get (rekeyed g m) key) ≡ Some v
    forth key v found = by_place (given_by g (with_item m p new) key v found)
        (eq_by_cmp text_order (given_by g (with_item m p new) key v found).0 p) refl
      where
        by_place : (given : Gives g (get (with_item m p new)) key v) (b : Bool)
            → eq_by_cmp text_order given.0 p ≡ b
            → moved key (option_and_then g (get m p)) (option_and_then g new)
            (get (rekeyed g m) key) ≡ Some v
        by_place given true e =
            let new_is : new ≡ Some given.1.0 = sym at_place
            ∙ ap (get (with_item m p new)) (sym (one_text given.0 p e)) ∙ given.1.1.0 in
            let came : option_and_then g new ≡ Some (key, v) = ap (option_and_then g) new_is
            ∙ given.1.1.1 in
            ap (λ n. moved key (option_and_then g (get m p)) n (get (rekeyed g m) key)) came
            ∙ moved_here key v (option_and_then g (get m p)) (get (rekeyed g m) key)
        by_place given false e =
            let at : get m given.0 ≡ Some given.1.0 = sym (elsewhere given.0 e) ∙ given.1.1.0 in
            moved_stays key (option_and_then g (get m p)) (option_and_then g new)
            (get (rekeyed g m) key) (other_old key v given.0 given.1.0 e at given.1.1.1)
            (other_new key v given.0 given.1.0 e at given.1.1.1)
            ∙ gives g m apart key v (given.0, (given.1.0, (at, given.1.1.1)))

    back : (key : List ℕ) (v : Y) → moved key (option_and_then g (get m p)) (option_and_then g new)
        (get (rekeyed g m) key) ≡ Some v → get (rekeyed g (with_item m p new)) key ≡ Some v
    back key v is = ⊎_elim
        (λ (came : option_and_then g new ≡ Some (key, v)). let y = entry_of new (key, v) came in
        gives g (with_item m p new) apart_after key v (p, (y.0, (at_place ∙ y.1.0, y.1.1))))
        (λ (stayed : (get (rekeyed g m) key ≡ Some v) × IsOther key (option_and_then g (get m p))).
        let given = given_by g m key v stayed.0 in
        gives g (with_item m p new) apart_after key v (given.0, (given.1.0, (elsewhere given.0 (apart_from key v given.0 given.1.0 given.1.1.0 given.1.1.1 stayed.1 (eq_by_cmp text_order given.0 p) refl) ∙ given.1.1.0, given.1.1.1))))
        (moved_is key v (option_and_then g (get m p)) (option_and_then g new)
        (get (rekeyed g m) key) is)
      where
        apart_from : (key : List ℕ) (v : Y) (q : List ℕ) (x : List Pair) → get m q ≡ Some x
            → g x ≡ Some (key, v) → IsOther key (option_and_then g (get m p)) → (b : Bool)
            → eq_by_cmp text_order q p ≡ b → eq_by_cmp text_order q p ≡ false
        apart_from key v q x at is other false e = e
        apart_from key v q x at is other true e =
            absurd (false≢true
            (sym (other (key, v) (ap (option_and_then g) (ap (get m) (sym (one_text q p e)) ∙ at)
            ∙ is)) ∙ text_itself key))

    -- What stands at each key after the entry at a place changed: what came, not what left, and else what stood there.
    pub get-rekeyed-with_item : (key : List ℕ)
        → get (rekeyed g (with_item m p new)) key
        ≡ moved key (option_and_then g (get m p)) (option_and_then g new) (get (rekeyed g m) key)
    get-rekeyed-with_item key = same_values _ _ (forth key) (back key)
