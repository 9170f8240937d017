-- The expired items that are left behind a place: all behind none, none where none is behind it, and those behind the next one.
use Rattle.std.proofs.Common.{◌≡◌, refl, sym, ap, subst, ◌∙◌, cond, Bool, true, false, List, [], ◌∷◌, inl, inr, Option, Some, None}
use Rattle.std.specs.List.{filter}
use Rattle.alt_due.specs.Due.{is_behind}
use Rattle.alt_due.specs.declared.spot.Spot.{Spot}
use Rattle.alt_machine.specs.declared.Standing.{Standing}
use Rattle.alt_request.specs.TablesSeveral.{Every}
use Rattle.alt_ttl.specs.private.Foresight.{spot_at}
use Rattle.alt_ttl.proofs.Ordered.{is_less, less_trans, lies_before, lies_there, lies_behind, lies, not_itself, Before, Rise, Has}

abbrev pub left_behind : Option Spot → List Standing → List Standing
left_behind after es = filter (λ e. is_behind after (spot_at e)) es

-- behind none all are
pub left_first : (es : List Standing) → left_behind None es ≡ es
left_first [] = refl
left_first (e ∷ es) = ap (λ l. e ∷ l) (left_first es)

-- none is where none is behind it
pub left_none : (after : Option Spot) (es : List Standing)
    → Every (λ e. is_behind after (spot_at e) ≡ false) es → left_behind after es ≡ []
left_none after [] none = refl
left_none after (e ∷ es) none =
    ap (λ b. cond b (e ∷ left_behind after es) (left_behind after es)) none.0
    ∙ left_none after es none.1

module _ (after : Option Spot) (y : Spot) (behind_it : is_behind after y ≡ true) where
  -- none lies between the two
  abbrev pub NoneBetween : Standing → Type 0
  NoneBetween e = is_behind after (spot_at e) ≡ true → is_less (spot_at e) y ≡ false

  -- those behind the one are behind the other
  behind_too : (o : Option Spot) → is_behind o y ≡ true → (x : Spot) → is_less y x ≡ true
      → is_behind o x ≡ true
  behind_too None h x more = refl
  behind_too (Some a) h x more = less_trans a y x h more

  -- but for that one itself
  alike : (e : Standing) → NoneBetween e → (spot_at e ≡ y → ⊥)
      → is_behind after (spot_at e) ≡ is_behind (Some y) (spot_at e)
  alike e none other = elim (lies (spot_at e) y) [
    | lies_before low high ↦ by low high (is_behind after (spot_at e)) refl
    | lies_there is ↦ absurd (other is)
    | lies_behind more ↦ behind_too after behind_it (spot_at e) more ∙ sym more
  ]
    where
      by : is_less (spot_at e) y ≡ true → is_less y (spot_at e) ≡ false → (b : Bool)
          → is_behind after (spot_at e) ≡ b
          → is_behind after (spot_at e) ≡ is_behind (Some y) (spot_at e)
      by low high true is = absurd (let no : false ≡ true = sym (none is) ∙ low in
          let f : ⊥ = cc no in f)
      by low high false is = is ∙ sym high

  -- where that one isn't among them, as many are left
  pub left_other : (es : List Standing) → Every NoneBetween es
      → Every (λ e. spot_at e ≡ y → ⊥) es → left_behind after es ≡ left_behind (Some y) es
  left_other [] none others = refl
  left_other (e ∷ es) none others = λ i. cond (alike e none.0 others.0 i)
      (e ∷ left_other es none.1 others.1 i) (left_other es none.1 others.1 i)

  -- those behind it are others
  others_behind : (e : Standing) → spot_at e ≡ y → (es : List Standing) → Every (Before e) es
      → Every (λ f. spot_at f ≡ y → ⊥) es
  others_behind e is [] rise = tt
  others_behind e is (f ∷ fs) rise = (
    λ same. let no : false ≡ true = sym (not_itself (spot_at e))
        ∙ ap (λ x. is_less (spot_at e) x) (is ∙ sym same) ∙ rise.0 in
        let g : ⊥ = cc no in g,
    others_behind e is fs rise.1,
  )

  -- one before all is before it
  before_it : (e : Standing) (es : List Standing) → Every (Before e) es → Has y es
      → is_less (spot_at e) y ≡ true
  before_it e [] rise h = absurd h
  before_it e (f ∷ fs) rise (inl same) = subst (λ x. is_less (spot_at e) x ≡ true) same rise.0
  before_it e (f ∷ fs) rise (inr rest) = before_it e fs rise.1 rest

  -- where it is, it is the first of them
  pub left_own : (es : List Standing) → Rise es → Every NoneBetween es → Has y es
      → left_behind after es
      ≡ record { table = y.table; place = y.place } ∷ left_behind (Some y) es
  left_own [] rise none h = absurd h
  left_own (e ∷ es) rise none (inl same) =
      ap (λ b. cond b (e ∷ left_behind after es) (left_behind after es))
      (ap (is_behind after) same ∙ behind_it)
      ∙ (λ i. record { table = (same i).table; place = (same i).place }
      ∷ left_other es none.1 (others_behind e same es rise.0) i)
      ∙ ap (λ b. record { table = y.table; place = y.place } ∷ cond b (e ∷ left_behind (Some y) es)
      (left_behind (Some y) es)) (sym (ap (is_less y) same ∙ not_itself y))
  left_own (e ∷ es) rise none (inr rest) =
      ap (λ b. cond b (e ∷ left_behind after es) (left_behind after es))
      (passed (is_behind after (spot_at e)) refl)
      ∙ left_own es rise.1 none.1 rest
      ∙ ap (λ b. record { table = y.table; place = y.place } ∷ cond b (e ∷ left_behind (Some y) es)
      (left_behind (Some y) es)) (sym later)
    where
      low : is_less (spot_at e) y ≡ true
      low = before_it e es rise.0 rest

      passed : (b : Bool) → is_behind after (spot_at e) ≡ b → is_behind after (spot_at e) ≡ false
      passed true is = absurd (let no : false ≡ true = sym (none.0 is) ∙ low in
          let f : ⊥ = cc no in f)
      passed false is = is

      later : is_behind (Some y) (spot_at e) ≡ false
      later = elim (lies (spot_at e) y) [
        | lies_before less more ↦ more
        | lies_there is ↦ ap (is_less y) is ∙ not_itself y
        | lies_behind more ↦ absurd (let no : false ≡ true = sym (not_itself y)
            ∙ less_trans y (spot_at e) y more low in let f : ⊥ = cc no in f)
      ]
