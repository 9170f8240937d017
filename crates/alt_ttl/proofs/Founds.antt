-- Where expired items stand: each once, and in tables that are there.
use Rattle.std.proofs.Common.{◌≡◌, ◌<◌, refl, sym, subst, ◌∙◌, ℕ, zero, suc, ◌+◌, ◌&&◌, ◌||◌, Bool, true, false, List, [], ◌∷◌, ◌++◌, map, length, drop, get_or, take, Option, Some, None, add-one, arith}
use Rattle.std.proofs.lemmas.Bool.{or_parts}
use Rattle.std.specs.Prelude.{if◌then◌else◌}
use Rattle.std.specs.FinMap as finite
use Rattle.std.specs.List.{list_any}
use Rattle.std.specs.Option.{option_map_or}
use Rattle.std.specs.Str.{bytes_eq}
use Rattle.alt_machine.specs.declared.Standing.{Standing}
use Rattle.alt_machine.specs.declared.TheConstants.{MOST_EXPIRED}
use Rattle.alt_machine.specs.Expiry.{gone_at, is_expired}
use Rattle.alt_machine.specs.Keys.{place_of}
use Rattle.alt_machine.specs.State.{Texts}
use Rattle.alt_request.proofs.TablesOpeningOneColumn.{bytes_differ}
use Rattle.alt_schema.specs.declared.schema.TableSchema.{TableSchema}
use Rattle.alt_request.specs.TablesSeveral.{AreAllApart, AreApart, Every, MayWrite}
use Rattle.alt_ttl.specs.private.Searched.{StandingTablesAreThere, has_twice, is_same_standing, standing_of, standings_of}
use Rattle.alt_value.specs.Tree.{Pair}

-- ---- once

-- one from a place on stands twice where it does behind it, or one behind it does
has_twice_from_suc : (es : List Standing) (i : ℕ) (e : Standing) → i < length es
    → has_twice (drop i es)
    ≡ (list_any (is_same_standing (get_or es i e)) (drop (suc i) es) || has_twice (drop (suc i) es))
has_twice_from_suc [] i e h = absurd (omega arith)
has_twice_from_suc (x ∷ xs) zero e h = refl
has_twice_from_suc (x ∷ xs) (suc i) e h = has_twice_from_suc xs i e (omega arith)

-- the same, with the next place counted by + 1
pub has_twice_from : (es : List Standing) (i : ℕ) (e : Standing) → i < length es
    → has_twice (drop i es)
    ≡ (list_any (is_same_standing (get_or es i e)) (drop (i + 1) es) || has_twice (drop (i + 1) es))
has_twice_from es i e h = rw add-one (has_twice_from_suc es i e h)

-- two that aren't one are at different places
two : (e f : Standing) → is_same_standing e f ≡ false → AreApart (gone_at e) (gone_at f)
two e f differ table place = by (bytes_eq e.table f.table) refl differ
  where
    by : (b : Bool) → bytes_eq e.table f.table ≡ b → (b && bytes_eq e.place f.place) ≡ false → ⊥
    by true is g = bytes_differ e.place f.place g place
    by false is g = bytes_differ e.table f.table is table

-- so is one of all others
apart_from : (e : Standing) (es : List Standing) → list_any (is_same_standing e) es ≡ false
    → Every (AreApart (gone_at e)) (map gone_at es)
apart_from e [] h = tt
apart_from e (f ∷ fs) h =
    let both = or_parts (is_same_standing e f) (list_any (is_same_standing e) fs) h in
    (two e f both.0, apart_from e fs both.1)

-- and so are all, where none stands twice
pub all_apart : (es : List Standing) → has_twice es ≡ false → AreAllApart (map gone_at es)
all_apart [] h = tt
all_apart (e ∷ es) h =
    let both = or_parts (list_any (is_same_standing e) es) (has_twice es) h in
    (apart_from e es both.0, all_apart es both.1)

-- ---- tables

-- nothing may be left at a place of a table that is there
pub may_go : (catalog : Texts TableSchema) (es : List Standing) → StandingTablesAreThere catalog es
    → Every (MayWrite catalog) (map gone_at es)
may_go catalog [] named = tt
may_go catalog (e ∷ es) named =
    (record { there = named.0; stored = λ d at. tt }, may_go catalog es named.1)

-- what holds of two lists holds of both together
pub every_both : {A : Type 0} (P : A → Type 0) (xs ys : List A) → Every P xs → Every P ys
    → Every P (xs ++ ys)
every_both P [] ys h k = k
every_both P (x ∷ xs) ys h k = (h.0, every_both P xs ys h.1 k)

-- and of a front
pub every_take : {A : Type 0} (P : A → Type 0) (n : ℕ) (xs : List A) → Every P xs
    → Every P (take n xs)
every_take P zero xs h = tt
every_take P (suc n) [] h = tt
every_take P (suc n) (x ∷ xs) h = (h.0, every_take P n xs h.1)

-- where an item stands, by whether it has expired and where its place is
pub standing_by : (d : TableSchema) (name : List ℕ) (moment : ℕ) (item : List Pair) (b : Bool)
    (o : Option (List ℕ)) → is_expired d moment item ≡ b → place_of d item ≡ o
    → standing_of d name moment item ≡ (if b
    then option_map_or (λ place. record { table = name; place = place } ∷ []) o [] else [])
standing_by d name moment item b o e f = λ i. if e i
    then option_map_or (λ place. record { table = name; place = place } ∷ []) (f i) [] else []

-- one without a place stands nowhere
pub unplaced : (d : TableSchema) (name : List ℕ) (moment : ℕ) (item : List Pair)
    → place_of d item ≡ None → standing_of d name moment item ≡ []
unplaced d name moment item none =
    standing_by d name moment item (is_expired d moment item) None refl none
    ∙ by (is_expired d moment item)
  where
    none_at : List Standing
    none_at = []

    by : (b : Bool) → (if b then none_at else none_at) ≡ none_at
    by true = refl
    by false = refl

-- the table of one that was found is the one that was looked through
pub standing_named : (catalog : Texts TableSchema) (d : TableSchema) (name : List ℕ) (moment : ℕ)
    (item : List Pair) → finite.contains_key catalog name ≡ true
    → StandingTablesAreThere catalog (standing_of d name moment item)
standing_named catalog d name moment item there =
    by (is_expired d moment item) (place_of d item)
  where
    by : (b : Bool) (o : Option (List ℕ)) → StandingTablesAreThere catalog (if b
        then option_map_or (λ place. record { table = name; place = place } ∷ []) o [] else [])
    by true None = tt
    by true (Some place) = (there, tt)
    by false o = tt

pub standings_named : (catalog : Texts TableSchema) (d : TableSchema) (name : List ℕ) (moment : ℕ)
    (items : List (List Pair)) → finite.contains_key catalog name ≡ true
    → StandingTablesAreThere catalog (standings_of d name moment items)
standings_named catalog d name moment [] there = tt
standings_named catalog d name moment (i ∷ is) there =
    every_both (λ (e : Standing). finite.contains_key catalog e.table ≡ true)
    (standing_of d name moment i) (standings_of d name moment is)
    (standing_named catalog d name moment i there)
    (standings_named catalog d name moment is there)

-- so are those of what was found with what is found now, as many as are taken
pub taken_named : (catalog : Texts TableSchema) (d : TableSchema) (name : List ℕ) (moment : ℕ)
    (items : List (List Pair)) (out next : List Standing)
    → finite.contains_key catalog name ≡ true → StandingTablesAreThere catalog out
    → next ≡ take MOST_EXPIRED (out ++ standings_of d name moment items) → StandingTablesAreThere catalog next
taken_named catalog d name moment items out next there named is =
    subst (StandingTablesAreThere catalog) (sym is)
    (every_take (λ (e : Standing). finite.contains_key catalog e.table ≡ true) MOST_EXPIRED
    (out ++ standings_of d name moment items)
    (every_both (λ (e : Standing). finite.contains_key catalog e.table ≡ true) out
    (standings_of d name moment items) named
    (standings_named catalog d name moment items there)))
