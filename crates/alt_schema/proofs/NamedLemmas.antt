-- What a map has of a list's definitions, one definition at a time.
use Rattle.std.proofs.Common.{◌≡◌, refl, sym, ap, subst, ◌∙◌, ℕ, suc, ◌+◌, ◌<◌, Bool, true, false, cond, not, ◌||◌, if◌then◌else◌, List, [], ◌∷◌, ◌++◌, length, take, drop, get_or, Option, Some, None, option_map, is_some, arith, add-one}
use Rattle.std.proofs.Math.Seq.{drop-cons, take-suc}
use Rattle.std.specs.List.{find}
use Rattle.std.specs.Option.{option_or}
use Rattle.std.specs.Str.{bytes_eq}
use Rattle.std.proofs.lemmas.List.{take-append-drop}
use Rattle.std.proofs.lemmas.List.Folds.{find-append}
use Rattle.std.proofs.lemmas.Slice.Eq.{bytes_eq-Decides}
use Rattle.alt_value.specs.declared.kind.KeyKind.{KeyKind}
use Rattle.alt_schema.specs.Named.{kind_at, kind_defined, AreOf}
use Rattle.alt_schema.specs.Rules.{is_defined, all_differ}
use Rattle.alt_schema.specs.declared.named.Kinds.{Kinds}
use Rattle.alt_description.specs.declared.schema.KeyAttr.{KeyAttr}
use Rattle.alt_schema.proofs.Differ.{differ_more, not_before}

-- a name has a kind exactly where it is defined
pub is_some-kind_defined : (ds : List KeyAttr) (name : List ℕ)
    → is_some (kind_defined ds name) ≡ is_defined ds name
is_some-kind_defined [] name = refl
is_some-kind_defined (d ∷ ds) name =
    elim (bytes_eq d.name name) as (λ b.
    is_some (option_map (λ e. e.kind) (cond b (Some d) (find (λ e. bytes_eq e.name name) ds)))
    ≡ (b || is_defined ds name)) [
      | true ↦ refl
      | false ↦ is_some-kind_defined ds name
    ]

-- ---- one definition more, whose name is new

no_some : {A : Type 0} (x : A) → Some x ≡ None → ⊥
no_some x e = cc

kind_last : (o : Option KeyAttr) (d : KeyAttr) (b : Bool)
    → (b ≡ true → option_map (λ (e : KeyAttr). e.kind) o ≡ None)
    → option_map (λ (e : KeyAttr). e.kind) (option_or o (cond b (Some d) None))
    ≡ cond b (Some d.kind) (option_map (λ (e : KeyAttr). e.kind) o)
kind_last None d true h = refl
kind_last None d false h = refl
kind_last (Some e) d true h = absurd (no_some e.kind (h refl))
kind_last (Some e) d false h = refl

-- the first test finds none, where the answer is `not`
pub none_of : {A : Type 0} (o : Option A) (fresh : Bool) → fresh ≡ not (is_some o) → fresh ≡ true
    → o ≡ None
none_of None fresh e t = refl
none_of (Some x) fresh e t = absurd (let wrong : ⊥ = cc in wrong)

-- and finds one, where it isn't
pub some_of : {A : Type 0} (o : Option A) (fresh : Bool) → fresh ≡ not (is_some o) → fresh ≡ false
    → is_some o ≡ true
some_of None fresh e t = absurd (let wrong : ⊥ = cc in wrong)
some_of (Some x) fresh e t = refl

-- the map has one more, as the list does
pub are_of-more : (old new : Kinds) (ds : List KeyAttr) (d : KeyAttr) → AreOf old ds
    → kind_at old d.name ≡ None
    → ((name : List ℕ) → kind_at new name
    ≡ (if bytes_eq d.name name then Some d.kind else kind_at old name))
    → AreOf new (ds ++ d ∷ [])
are_of-more old new ds d are none added = λ name.
    let same : bytes_eq d.name name ≡ true → kind_defined ds name ≡ None
    = λ e. ap (kind_defined ds) (sym (is_same d.name name e)) ∙ sym (are d.name) ∙ none in
    added name
    ∙ ap (λ o. cond (bytes_eq d.name name) (Some d.kind) o) (are name)
    ∙ sym (kind_last (find (λ e. bytes_eq e.name name) ds) d (bytes_eq d.name name) same)
    ∙ ap (option_map (λ (e : KeyAttr). e.kind))
    (sym (find-append (λ e. bytes_eq e.name name) ds (d ∷ [])))
  where
    is_same : (xs ys : List ℕ) → bytes_eq xs ys ≡ true → xs ≡ ys
    is_same xs ys e = grind (arith, bytes_eq-Decides xs ys, e)

-- ---- whether names differ, up to a place

at_place : (ds : List KeyAttr) (i : ℕ) (d : KeyAttr) → i < length ds → d ≡ get_or ds i d
    → ds ≡ take i ds ++ (d ∷ drop (suc i) ds)
at_place ds i d within at =
    sym (take-append-drop i ds)
    ∙ ap (λ xs. take i ds ++ xs)
    (drop-cons ds i d within ∙ ap (λ x. x ∷ drop (suc i) ds) (sym at))

-- the name of one comes again
pub comes_again : (ds : List KeyAttr) (i : ℕ) (d : KeyAttr) → i < length ds → d ≡ get_or ds i d
    → is_defined (take i ds) d.name ≡ true → false ≡ all_differ (λ k. k.name) ds
comes_again ds i d within at again =
    elim (all_differ (λ k. k.name) ds) as (λ b. all_differ (λ k. k.name) ds ≡ b → false ≡ b) [
      | true ↦ λ t.
          let new : is_defined (take i ds) d.name ≡ false
          = not_before (take i ds) d (drop (suc i) ds)
          (ap (all_differ (λ k. k.name)) (sym (at_place ds i d within at)) ∙ t) in
          absurd (let wrong : ⊥ = cc in wrong)
      | false ↦ λ t. refl
    ] refl

-- the definitions up to the next place
take_more : (ds : List KeyAttr) (i : ℕ) (d : KeyAttr) → i < length ds → d ≡ get_or ds i d
    → take (i + 1) ds ≡ take i ds ++ d ∷ []
take_more ds i d within at =
    ap (λ n. take n ds) (add-one i) ∙ take-suc ds i d within
    ∙ ap (λ x. take i ds ++ x ∷ []) (sym at)

-- the names of those before differ, and one more has another name
pub goes_on : (old new : Kinds) (ds : List KeyAttr) (i : ℕ) (d : KeyAttr) (name : List ℕ)
    → i < length ds → d ≡ get_or ds i d → name ≡ d.name → AreOf old (take i ds)
    → kind_at old name ≡ None
    → ((other : List ℕ) → kind_at new other
    ≡ (if bytes_eq name other then Some d.kind else kind_at old other))
    → all_differ (λ k. k.name) (take i ds) ≡ true
    → AreOf new (take (i + 1) ds) × (all_differ (λ k. k.name) (take (i + 1) ds) ≡ true)
goes_on old new ds i d name within at is are none added differ =
    let Adds : List ℕ → Type 0 = λ n. (other : List ℕ)
    → kind_at new other ≡ (if bytes_eq n other then Some d.kind else kind_at old other) in
    let new_name : kind_at old d.name ≡ None = ap (kind_at old) (sym is) ∙ none in
    let other : is_defined (take i ds) d.name ≡ false
    = sym (is_some-kind_defined (take i ds) d.name)
    ∙ ap is_some (sym (are d.name) ∙ new_name) in (
      subst (AreOf new) (sym (take_more ds i d within at))
          (are_of-more old new (take i ds) d are new_name (subst Adds is added)),
      ap (all_differ (λ k. k.name)) (take_more ds i d within at)
          ∙ differ_more (take i ds) d differ other,
    )

-- the name of one that has a kind already comes again
pub has_kind_already : (old : Kinds) (ds : List KeyAttr) (i : ℕ) (d : KeyAttr) (name : List ℕ)
    → i < length ds → d ≡ get_or ds i d → name ≡ d.name → AreOf old (take i ds)
    → is_some (kind_at old name) ≡ true → false ≡ all_differ (λ k. k.name) ds
has_kind_already old ds i d name within at is are some =
    comes_again ds i d within at
    (sym (is_some-kind_defined (take i ds) d.name)
    ∙ ap is_some (sym (are d.name) ∙ ap (kind_at old) (sym is)) ∙ some)

-- ---- a list's definitions, and one more

-- one more behind those of a list
pub are_of-with : (old new : Kinds) (ds : List KeyAttr) (name : List ℕ) (kind : KeyKind)
    → AreOf old ds → is_defined ds name ≡ false
    → ((other : List ℕ) → kind_at new other
    ≡ (if bytes_eq name other then Some kind else kind_at old other))
    → AreOf new (ds ++ record { name = name; kind = kind } ∷ [])
are_of-with old new ds name kind are other added =
    are_of-more old new ds (record { name = name; kind = kind }) are
    (none_of (kind_at old name) true
    (ap not (sym other ∙ sym (is_some-kind_defined ds name) ∙ ap is_some (sym (are name))))
    refl)
    added
