-- What is known of trimmed changes when a table comes or goes.
use Rattle.std.proofs.Common.{◌≡◌, refl, sym, ap, ◌∙◌, ℕ, Bool, true, false, List, [], ◌∷◌, Some, None, cond}
use Rattle.std.proofs.lemmas.Bool.{eqb-true, false≢true}
use Rattle.std.proofs.lemmas.Slice.Eq.{bytes_eq-Decides}
use Rattle.std.specs.FinMap as map
use Rattle.std.specs.List.{find}
use Rattle.std.specs.Option.{option_map_or}
use Rattle.std.specs.Ordering.{eq_by_cmp}
use Rattle.std.specs.Prelude.{◌==◌, if◌then◌else◌, not}
use Rattle.std.specs.Str.{bytes_eq}
use Rattle.alt_cells.proofs.SameKeys.{key_itself, one_key}
use Rattle.alt_machine.specs.State.{Table, Texts}
use Rattle.alt_opening.specs.Trimmed.{AreTrimmedOf, IsRenumbered, number_at, with_number, without_table_number}
use Rattle.alt_opening.specs.declared.trimmed.Trimmed.{Trimmed}
use Rattle.alt_value.specs.Members.{text_order}
use Rattle.alt_value.proofs.Texts.{text_total}

-- a number more of a name of which nothing was known
pub number-with : (name : List ℕ) (number : ℕ) (known : List Trimmed) → number_at name known ≡ 0
    → (q : List ℕ) → number_at q (with_number name number known)
    ≡ (if bytes_eq name q then number else number_at q known)
number-with name number known nothing q = by (number == 0) (bytes_eq name q) refl refl
  where
    by : (a b : Bool) → (number == 0) ≡ a → bytes_eq name q ≡ b
        → number_at q (if a then known else record { table = name; number = number } ∷ known)
        ≡ (if b then number else number_at q known)
    by true true e f = ap (λ n. number_at n known) (sym ((bytes_eq-Decides name q).0 f)) ∙ nothing
        ∙ sym (eqb-true number 0 e)
    by true false e f = refl
    by false b e f = ap (λ (c : Bool). option_map_or (λ (x : Trimmed). x.number)
        (cond c (Some (record { table = name; number = number }))
        (find (λ (x : Trimmed). bytes_eq x.table q) known)) 0) f ∙ here b
      where
        here : (b : Bool) → option_map_or (λ (x : Trimmed). x.number)
            (cond b (Some (record { table = name; number = number }))
            (find (λ (x : Trimmed). bytes_eq x.table q) known)) 0
            ≡ (if b then number else number_at q known)
        here true = refl
        here false = refl

-- what is known of a name by the first entry, where it is of that name, and by the others where it isn't
number-here : (e : Trimmed) (es : List Trimmed) (q : List ℕ) (b : Bool) → bytes_eq e.table q ≡ b
    → number_at q (e ∷ es) ≡ (if b then e.number else number_at q es)
number-here e es q b is = ap (λ (c : Bool). option_map_or (λ (x : Trimmed). x.number)
    (cond c (Some e) (find (λ (x : Trimmed). bytes_eq x.table q) es)) 0) is ∙ by b
  where
    by : (b : Bool) → option_map_or (λ (x : Trimmed). x.number)
        (cond b (Some e) (find (λ (x : Trimmed). bytes_eq x.table q) es)) 0
        ≡ (if b then e.number else number_at q es)
    by true = refl
    by false = refl

-- of a name that is taken out nothing is known, and of all others what was
pub number-without : (name : List ℕ) (known : List Trimmed) (q : List ℕ)
    → number_at q (without_table_number name known) ≡ (if bytes_eq name q then 0 else number_at q known)
number-without name [] q = by (bytes_eq name q)
  where
    by : (b : Bool) → number_at q [] ≡ (if b then 0 else number_at q [])
    by true = refl
    by false = refl
number-without name (e ∷ es) q =
    by (bytes_eq e.table name) (bytes_eq e.table q) (bytes_eq name q) refl refl refl
    (number-without name es q)
  where
    by : (a b c : Bool) → bytes_eq e.table name ≡ a → bytes_eq e.table q ≡ b
        → bytes_eq name q ≡ c
        → number_at q (without_table_number name es) ≡ (if bytes_eq name q then 0 else number_at q es)
        → number_at q (cond (not a) (e ∷ without_table_number name es) (without_table_number name es))
        ≡ (if bytes_eq name q then 0 else number_at q (e ∷ es))
    by true b true ea eb ec rest = rest ∙ ap (λ x. if x then 0 else number_at q es) ec
        ∙ sym (ap (λ x. if x then 0 else number_at q (e ∷ es)) ec)
    by true b false ea eb ec rest = rest ∙ ap (λ n. if bytes_eq name q then 0 else n)
        (sym (number-here e es q false
        (ap (λ n. bytes_eq n q) ((bytes_eq-Decides e.table name).0 ea) ∙ ec)))
    by false true true ea eb ec rest = absurd (false≢true (sym ea
        ∙ (bytes_eq-Decides e.table name).1 ((bytes_eq-Decides e.table q).0 eb
        ∙ sym ((bytes_eq-Decides name q).0 ec))))
    by false true false ea eb ec rest = number-here e (without_table_number name es) q true eb
        ∙ sym (number-here e es q true eb)
        ∙ sym (ap (λ x. if x then 0 else number_at q (e ∷ es)) ec)
    by false false c ea eb ec rest = number-here e (without_table_number name es) q false eb ∙ rest
        ∙ ap (λ n. if bytes_eq name q then 0 else n) (sym (number-here e es q false eb))

-- where that of a name is known already
pub number-same : (name : List ℕ) (number : ℕ) (known : List Trimmed)
    → number_at name known ≡ number → IsRenumbered name number known known
number-same name number known is q = by (bytes_eq name q) refl
  where
    by : (b : Bool) → bytes_eq name q ≡ b
        → number_at q known ≡ (if b then number else number_at q known)
    by true e = ap (λ n. number_at n known) (sym ((bytes_eq-Decides name q).0 e)) ∙ is
    by false e = refl

-- and where it comes in the place of what was
pub number-instead : (name : List ℕ) (number : ℕ) (known : List Trimmed)
    → IsRenumbered name number known (with_number name number (without_table_number name known))
number-instead name number known q = number-with name number (without_table_number name known)
    (number-without name known name ∙ ap (λ b. if b then 0 else number_at name known)
    ((bytes_eq-Decides name name).1 refl)) q
    ∙ by (bytes_eq name q) refl
  where
    by : (b : Bool) → bytes_eq name q ≡ b
        → (if b then number else number_at q (without_table_number name known))
        ≡ (if b then number else number_at q known)
    by true e = refl
    by false e = number-without name known q
        ∙ ap (λ b. if b then 0 else number_at q known) e

-- ---- the tables of a state

-- a table at its name
abbrev at : Texts Table → List ℕ → ℕ
at tables q = option_map_or (λ (t : Table). t.trimmed) (map.get tables q) 0

module _ (tables : Texts Table) (name : List ℕ) (known : List Trimmed)
    (are : AreTrimmedOf tables known) where
  -- with one more or another one at a name
  with_one : (u : Table) (q : List ℕ) (b : Bool) → eq_by_cmp text_order q name ≡ b
      → at (map.insert tables name u) q ≡ (if b then u.trimmed else at tables q)
  with_one u q b e = ap (λ o. option_map_or (λ (t : Table). t.trimmed) o 0)
      (map.get-insert text_total tables name u q
      ∙ ap (λ c. cond c (Some u) (map.get tables q)) e) ∙ by b
    where
      by : (b : Bool) → option_map_or (λ (t : Table). t.trimmed)
          (cond b (Some u) (map.get tables q)) 0 ≡ (if b then u.trimmed else at tables q)
      by true = refl
      by false = refl

  -- another table of which as much was trimmed
  pub trimmed-stay : (t u : Table) → map.get tables name ≡ Some t → u.trimmed ≡ t.trimmed
      → AreTrimmedOf (map.insert tables name u) known
  trimmed-stay t u there same q = are q ∙ by (eq_by_cmp text_order q name) refl
    where
      by : (b : Bool) → eq_by_cmp text_order q name ≡ b
          → at tables q ≡ at (map.insert tables name u) q
      by true e = ap (at tables) (one_key q name e)
          ∙ ap (λ o. option_map_or (λ (t : Table). t.trimmed) o 0) there ∙ sym same
          ∙ sym (with_one u q true e)
      by false e = sym (with_one u q false e)

  -- another table, and its number
  pub trimmed-put : (u : Table) (new : List Trimmed) → IsRenumbered name u.trimmed known new
      → AreTrimmedOf (map.insert tables name u) new
  trimmed-put u new is q = is q ∙ by (bytes_eq name q) refl (eq_by_cmp text_order q name) refl
    where
      by : (b : Bool) → bytes_eq name q ≡ b → (c : Bool) → eq_by_cmp text_order q name ≡ c
          → (if b then u.trimmed else number_at q known) ≡ at (map.insert tables name u) q
      by true e true f = sym (with_one u q true f)
      by false e false f = are q ∙ sym (with_one u q false f)
      by true e false f = absurd (false≢true (sym f
          ∙ ap (λ n. eq_by_cmp text_order q n) ((bytes_eq-Decides name q).0 e) ∙ key_itself q))
      by false e true f = absurd (false≢true (sym e
          ∙ (bytes_eq-Decides name q).1 (sym (one_key q name f))))

  -- a new one, of which nothing was
  pub trimmed-new : (u : Table) → map.get tables name ≡ None → u.trimmed ≡ 0
      → AreTrimmedOf (map.insert tables name u) known
  trimmed-new u free none q = are q ∙ by (eq_by_cmp text_order q name) refl
    where
      by : (b : Bool) → eq_by_cmp text_order q name ≡ b
          → at tables q ≡ at (map.insert tables name u) q
      by true e = ap (at tables) (one_key q name e)
          ∙ ap (λ o. option_map_or (λ (t : Table). t.trimmed) o 0) free ∙ sym none
          ∙ sym (with_one u q true e)
      by false e = sym (with_one u q false e)

  -- and one that goes
  pub trimmed-remove : AreTrimmedOf (map.remove tables name) (without_table_number name known)
  trimmed-remove q = number-without name known q ∙ by (bytes_eq name q) refl
    where
      gone : (b : Bool) → eq_by_cmp text_order q name ≡ b
          → at (map.remove tables name) q ≡ (if b then 0 else at tables q)
      gone b e = ap (λ o. option_map_or (λ (t : Table). t.trimmed) o 0)
          (map.get-remove text_total tables name q
          ∙ ap (λ c. cond c None (map.get tables q)) e) ∙ there b
        where
          there : (b : Bool) → option_map_or (λ (t : Table). t.trimmed)
              (cond b None (map.get tables q)) 0 ≡ (if b then 0 else at tables q)
          there true = refl
          there false = refl

      other : bytes_eq name q ≡ false → (b : Bool) → eq_by_cmp text_order q name ≡ b → b ≡ false
      other differ true e = absurd (false≢true (sym differ
          ∙ (bytes_eq-Decides name q).1 (sym (one_key q name e))))
      other differ false e = refl

      by : (b : Bool) → bytes_eq name q ≡ b
          → (if b then 0 else number_at q known) ≡ at (map.remove tables name) q
      by true e = sym (gone true (ap (λ n. eq_by_cmp text_order q n)
          ((bytes_eq-Decides name q).0 e) ∙ key_itself q))
      by false e = are q ∙ sym (gone false (other e (eq_by_cmp text_order q name) refl))
