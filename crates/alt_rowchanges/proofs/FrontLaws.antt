-- What is known of the fronts of streams when a table comes, goes or is written.
use Rattle.std.proofs.Common.{◌≡◌, ◌≤◌, refl, sym, ap, subst, ◌∙◌, ℕ, Bool, true, false, cond, List, [], ◌∷◌, Some, None, All}
use Rattle.std.proofs.lemmas.Bool.{false≢true}
use Rattle.std.proofs.lemmas.Slice.Eq.{bytes_eq-Decides}
use Rattle.std.specs.FinMap as map
use Rattle.std.specs.List.{find, range_with_len}
use Rattle.std.specs.Ordering.{eq_by_cmp}
use Rattle.std.specs.Prelude.{filter, if◌then◌else◌, is_some, not}
use Rattle.std.specs.Str.{bytes_eq}
use Rattle.alt_cells.proofs.SameKeys.{key_itself, one_key as tied}
use Rattle.alt_changes.specs.ChangeRows.{row_key}
use Rattle.alt_layout.specs.Layout.{Layout, shown}
use Rattle.alt_machine.specs.State.{Table, Texts}
use Rattle.alt_rowchanges.specs.Fronts.{AreFronts, IsFront, KnowsFront, front_at, without_front}
use Rattle.alt_rowchanges.specs.Leftovers.{leftovers}
use Rattle.alt_rowchanges.specs.declared.fronts.Front.{Front}
use Rattle.alt_value.specs.Members.{text_order}
use Rattle.alt_value.proofs.Texts.{text_total}

-- ---- the list of them

-- what is known of a name by the first entry, where it is of that name, and by the others where it isn't
front-here : (e : Front) (es : List Front) (q : List ℕ) (b : Bool) → bytes_eq e.table q ≡ b
    → front_at q (e ∷ es) ≡ (if b then Some e else front_at q es)
front-here e es q b is =
    ap (λ (c : Bool). cond c (Some e) (find (λ (x : Front). bytes_eq x.table q) es)) is ∙ by b
  where
    by : (b : Bool) → cond b (Some e) (find (λ (x : Front). bytes_eq x.table q) es)
        ≡ (if b then Some e else front_at q es)
    by true = refl
    by false = refl

-- of a name that is taken out nothing is known, and of all others what was
pub front-without : (name : List ℕ) (known : List Front) (q : List ℕ)
    → front_at q (without_front name known) ≡ (if bytes_eq name q then None else front_at q known)
front-without name [] q = by (bytes_eq name q)
  where
    by : (b : Bool) → front_at q [] ≡ (if b then None else front_at q [])
    by true = refl
    by false = refl
front-without name (e ∷ es) q =
    by (bytes_eq e.table name) (bytes_eq e.table q) (bytes_eq name q) refl refl refl
    (front-without name es q)
  where
    by : (a b c : Bool) → bytes_eq e.table name ≡ a → bytes_eq e.table q ≡ b
        → bytes_eq name q ≡ c
        → front_at q (without_front name es)
        ≡ (if bytes_eq name q then None else front_at q es)
        → front_at q (cond (not a) (e ∷ without_front name es) (without_front name es))
        ≡ (if bytes_eq name q then None else front_at q (e ∷ es))
    by true b true ea eb ec rest = rest ∙ ap (λ x. if x then None else front_at q es) ec
        ∙ sym (ap (λ x. if x then None else front_at q (e ∷ es)) ec)
    by true b false ea eb ec rest = rest ∙ ap (λ o. if bytes_eq name q then None else o)
        (sym (front-here e es q false
        (ap (λ n. bytes_eq n q) ((bytes_eq-Decides e.table name).0 ea) ∙ ec)))
    by false true true ea eb ec rest = absurd (false≢true (sym ea
        ∙ (bytes_eq-Decides e.table name).1 ((bytes_eq-Decides e.table q).0 eb
        ∙ sym ((bytes_eq-Decides name q).0 ec))))
    by false true false ea eb ec rest = front-here e (without_front name es) q true eb
        ∙ sym (front-here e es q true eb)
        ∙ sym (ap (λ x. if x then None else front_at q (e ∷ es)) ec)
    by false false c ea eb ec rest = front-here e (without_front name es) q false eb ∙ rest
        ∙ ap (λ o. if bytes_eq name q then None else o) (sym (front-here e es q false eb))

-- two equal options tell of one
some_front : (f g : Front) → Some f ≡ Some g → f ≡ g
some_front f g e = cc

-- with another one in front of those of other names
pub front-known : (e : Front) (known : List Front)
    → KnowsFront e.table e.oldest e.from known (e ∷ without_front e.table known)
front-known e known = record {
  own = λ f is.
      let same : e ≡ f = some_front e f
      (sym (front-here e (without_front e.table known) e.table true
      ((bytes_eq-Decides e.table e.table).1 refl)) ∙ is) in (
        ap (λ (x : Front). x.oldest) (sym same),
        ap (λ (x : Front). x.from) (sym same),
      );
  others = λ q other. front-here e (without_front e.table known) q false other
      ∙ front-without e.table known q
      ∙ ap (λ b. if b then None else front_at q known) other;
}

-- ---- rows

-- where a family shows what it showed, the same is left over
pub leftovers_alike : (l m : Layout) (family trimmed : ℕ)
    → ((key : List ℕ) → shown m family key ≡ shown l family key)
    → leftovers m family trimmed ≡ leftovers l family trimmed
leftovers_alike l m family trimmed alike i =
    filter (λ n. is_some (alike (row_key n) i)) (range_with_len 1 trimmed)

-- so a front stays
pub front_alike : (l m : Layout) (t : Table) (f : Front)
    → ((family : ℕ) → t.description.stream_family ≡ Some family → (key : List ℕ)
    → shown m family key ≡ shown l family key) → IsFront l t f → IsFront m t f
front_alike l m t f alike front = record {
  oldest = front.oldest;
  low = front.low;
  above = λ family stream. subst (λ ns. All (λ n. f.from ≤ n) ns)
      (sym (leftovers_alike l m family t.trimmed (alike family stream)))
      (front.above family stream);
}

-- and so do all
pub fronts_alike : (l m : Layout) (tables : Texts Table) (known : List Front)
    → ((name : List ℕ) (t : Table) (family : ℕ) → map.get tables name ≡ Some t
    → t.description.stream_family ≡ Some family → (key : List ℕ)
    → shown m family key ≡ shown l family key)
    → AreFronts l tables known → AreFronts m tables known
fronts_alike l m tables known alike are name f is =
    let (t, there, front) = are name f is in
    (t, there, front_alike l m t f (λ family. alike name t family there) front)

-- ---- the tables of a state

-- names that tie are one
name_tied : (q name : List ℕ) → eq_by_cmp text_order q name ≡ true → bytes_eq name q ≡ true
name_tied q name e = (bytes_eq-Decides name q).1 (sym (tied q name e))

-- and others don't
name_apart : (q name : List ℕ) → bytes_eq name q ≡ false → eq_by_cmp text_order q name ≡ false
name_apart q name differ = by (eq_by_cmp text_order q name) refl
  where
    by : (b : Bool) → eq_by_cmp text_order q name ≡ b → b ≡ false
    by true e = absurd (false≢true (sym differ ∙ name_tied q name e))
    by false e = refl

module _ (l : Layout) (tables : Texts Table) (name : List ℕ) (known : List Front)
    (are : AreFronts l tables known) where
  -- a table more
  pub fronts_new : (u : Table) → map.get tables name ≡ None
      → AreFronts l (map.insert tables name u) known
  fronts_new u free q f is =
      let (t, there, front) = are q f is in (
        t,
        map.get-insert text_total tables name u q
            ∙ by t there (eq_by_cmp text_order q name) refl,
        front,
      )
    where
      by : (t : Table) → map.get tables q ≡ Some t → (b : Bool)
          → eq_by_cmp text_order q name ≡ b → cond b (Some u) (map.get tables q) ≡ Some t
      by t there true e = absurd (let no : None ≡ Some t =
          sym free ∙ ap (map.get tables) (sym (tied q name e)) ∙ there in let f : ⊥ = cc no in f)
      by t there false e = there

  -- a table less
  pub fronts_gone : AreFronts l (map.remove tables name) (without_front name known)
  fronts_gone q f is = by (bytes_eq name q) refl (sym (front-without name known q) ∙ is)
    where
      by : (b : Bool) → bytes_eq name q ≡ b → (if b then None else front_at q known) ≡ Some f
          → (t : Table) × (map.get (map.remove tables name) q ≡ Some t) × IsFront l t f
      by true e is = absurd (let no : None ≡ Some f = is in let g : ⊥ = cc no in g)
      by false e is =
          let (t, there, front) = are q f is in (
            t,
            map.get-remove text_total tables name q
                ∙ ap (λ b. cond b None (map.get tables q)) (name_apart q name e) ∙ there,
            front,
          )

  -- another table in the place of one
  pub fronts_put : (m : Layout) (u : Table) (new : List Front)
      → ((f : Front) → front_at name new ≡ Some f → IsFront m u f)
      → ((q : List ℕ) → bytes_eq name q ≡ false → front_at q new ≡ front_at q known)
      → ((q : List ℕ) (v : Table) (family : ℕ) → bytes_eq name q ≡ false
      → map.get tables q ≡ Some v → v.description.stream_family ≡ Some family → (key : List ℕ)
      → shown m family key ≡ shown l family key)
      → AreFronts m (map.insert tables name u) new
  fronts_put m u new own others alike q f is = by (bytes_eq name q) refl
    where
      by : (b : Bool) → bytes_eq name q ≡ b
          → (t : Table) × (map.get (map.insert tables name u) q ≡ Some t) × IsFront m t f
      by true e =
          let same : name ≡ q = (bytes_eq-Decides name q).0 e in (
            u,
            map.get-insert text_total tables name u q
                ∙ ap (λ b. cond b (Some u) (map.get tables q))
                (ap (eq_by_cmp text_order q) same ∙ key_itself q),
            own f (ap (λ n. front_at n new) same ∙ is),
          )
      by false e =
          let (t, there, front) = are q f (sym (others q e) ∙ is) in (
            t,
            map.get-insert text_total tables name u q
                ∙ ap (λ b. cond b (Some u) (map.get tables q)) (name_apart q name e) ∙ there,
            front_alike l m t f (λ family. alike q t family e there) front,
          )
