-- The names that a request gives for a projection, or in its place, are texts.
use Rattle.std.proofs.Common.{◌≡◌, refl, ℕ, false, ◌||◌, Option, Some, None, [], ◌∷◌, List, map, Result, Ok}
use Rattle.std.specs.FinMap as finite
use Rattle.std.specs.Option.{option_map_or}
use Rattle.std.specs.Prelude.{codes, option_map, option_and_then}
use Rattle.serde_json.specs.Data.{Data, Items, no_items, item, Members, no_members, member, string}
use Rattle.serde_json.specs.Find.{as_array}
use Rattle.serde_json.specs.Written.{has_float, items_have_float, members_have_float}
use Rattle.alt_expr.specs.Given as expr
use Rattle.alt_expr.specs.NamesIn as words
use Rattle.alt_expr.specs.declared.path.PathPart.{PathPart}
use Rattle.alt_legacy.specs.Names.{element_name, name_then, element_names, if_apart, names_of_member}
use Rattle.alt_legacy.specs.Trees.{attribute_path, paths_in}
use Rattle.alt_machine.specs.declared.Expressions.{Expressions}
use Rattle.alt_machine.specs.Expressions as machine
use Rattle.alt_machine.specs.Older.{older_names, said_by}
use Rattle.alt_machine.specs.Ops.BatchGetItem.{attributes_member}
use Rattle.alt_machine.specs.Refusals.{first_answer, or_refused, unless_answer, ◌>>=◌}
use Rattle.alt_machine.specs.State.{Texts}
use Rattle.alt_machine.proofs.Older.{parts_of, older_paths}
use Rattle.alt_machine.proofs.Said.{found_first}
use Rattle.alt_ops_batch.specs.private.Batches.{table_projection}
use Rattle.alt_ops_batch.specs.private.Names.{ArePlainNames, ArePlain}
use Rattle.alt_schema.specs.declared.schema.TableSchema.{TableSchema}
use Rattle.alt_shape.specs.Refusals.{Answer, not_found, bad_legacy_parameter}
use Rattle.alt_shape.specs.Shape.{given}
use Rattle.alt_value.specs.Tree.{Pair}

-- no float stands among names of which none is refused
texts_plain : (ms : Members) → first_answer (machine.of_names ms) ≡ None
    → members_have_float ms ≡ false
texts_plain no_members e = refl
texts_plain (member word (string []) ms) e = absurd (let f : ⊥ = cc in f)
texts_plain (member word (string (b ∷ bs)) ms) e = texts_plain ms e
texts_plain (member word other ms) e = absurd (let f : ⊥ = cc in f)

-- so none stands among the names of a request whose names and values were read
pub names_plain : (texts : machine.Texts) (ms : Members) (g : expr.Given)
    → machine.given_at texts ms ≡ Ok g → ArePlainNames ms
unfolding machine.given_at
names_plain texts ms g e = by (machine.names_member ms) (machine.values_at texts ms) e
  where
    by_test : (names : Members) (o : Option Answer) → first_answer (machine.of_names names) ≡ o
        → (v : Result (List Pair) Answer) → unless_answer o (words.names_in [] names)
        >>= (λ ns. v >>= (λ vs. Ok (record { names = ns; values = vs }))) ≡ Ok g
        → members_have_float names ≡ false
    by_test names None free v f = texts_plain names free
    by_test names (Some a) free v f = absurd (let k : ⊥ = cc in k)

    by : (o : Option Members) (v : Result (List Pair) Answer)
        → option_map_or
        (λ names. unless_answer (first_answer (machine.of_names names)) (words.names_in [] names))
        o (Ok [])
        >>= (λ ns. v >>= (λ vs. Ok (record { names = ns; values = vs }))) ≡ Ok g
        → option_map_or members_have_float o false ≡ false
    by None v f = refl
    by (Some names) v f = by_test names (first_answer (machine.of_names names)) refl v f

-- ---- the names in the place of a projection

-- no float stands in a text
text_plain : (d : Data) (n : List ℕ) → element_name d ≡ Some n → has_float d ≡ false
text_plain (string t) n e = refl
text_plain other n e = absurd (let f : ⊥ = cc in f)

-- nor in several
all_plain : (ds : Items) (ns : List (List ℕ)) → element_names ds ≡ Some ns → items_have_float ds ≡ false
all_plain no_items ns = λ e. refl
all_plain (item d ds) ns = by (λ ms g. all_plain ds ms g) (element_name d) refl (element_names ds) refl
  where
    by : ((ms : List (List ℕ)) → element_names ds ≡ Some ms → items_have_float ds ≡ false)
        → (o : Option (List ℕ)) → element_name d ≡ o → (more : Option (List (List ℕ)))
        → element_names ds ≡ more → name_then o more ≡ Some ns → items_have_float (item d ds) ≡ false
    by rest None f more g e = absurd (let k : ⊥ = cc in k)
    by rest (Some n) f None g e = absurd (let k : ⊥ = cc in k)
    by rest (Some n) f (Some ms) g e = λ i. text_plain d n f i || rest ms g i

-- nor among those of a list that is taken
taken_plain : (d : Data) (ns : List (List ℕ)) → names_of_member d ≡ Some ns
    → option_map_or items_have_float (as_array d) false ≡ false
taken_plain d ns = by (as_array d)
  where
    by_texts : (ds : Items) (o : Option (List (List ℕ))) → element_names ds ≡ o
        → option_and_then if_apart o ≡ Some ns → items_have_float ds ≡ false
    by_texts ds None f e = absurd (let k : ⊥ = cc in k)
    by_texts ds (Some ms) f e = all_plain ds ms f

    by : (o : Option Items) → option_and_then if_apart (option_and_then element_names o) ≡ Some ns
        → option_map_or items_have_float o false ≡ false
    by None e = refl
    by (Some ds) e = by_texts ds (element_names ds) refl e

-- nor among those of a request whose expressions, or what is in their place, were read
pub attributes_plain : (d : TableSchema) (ms : Members) (g : expr.Given) (said : Expressions)
    → machine.expressions machine.projecting d ms g ≡ Ok said
    → option_map_or items_have_float (attributes_member ms) false ≡ false
attributes_plain d ms g said e =
    let is = parts_of machine.projecting d ms g said e in
    by (given (codes "AttributesToGet") ms) is.older.projection
    (older_paths older_names ms is.older is.by_older)
  where
    by_names : (v : Data) (o : Option (List (List ℕ))) → names_of_member v ≡ o
        → (paths : Option (List (List PathPart)))
        → or_refused bad_legacy_parameter (option_map Some (option_map (map attribute_path) o)) ≡ Ok paths
        → option_map_or items_have_float (as_array v) false ≡ false
    by_names v None f paths h = absurd (let k : ⊥ = cc in k)
    by_names v (Some ns) f paths h = taken_plain v ns f

    by : (o : Option Data) (paths : Option (List (List PathPart)))
        → said_by (λ v. option_map Some (paths_in v)) o ≡ Ok paths
        → option_map_or items_have_float (option_and_then as_array o) false ≡ false
    by None paths h = refl
    by (Some v) paths h = by_names v (names_of_member v) refl paths h

-- what the projection of a known table shows
abbrev with_table : Members → expr.Given → TableSchema
    → Result (Option (List (List PathPart))) Answer
with_table ms g d = machine.expressions machine.projecting d ms g
    >>= (λ (x : Expressions). Ok x.projection)

-- so it is where what is shown of a table is known
pub parts_plain : (catalog : Texts TableSchema) (table : List ℕ) (ms : Members) (g : expr.Given)
    (shown : Option (List (List PathPart))) → ArePlainNames ms
    → table_projection catalog table ms g ≡ Ok shown → ArePlain ms
parts_plain catalog table ms g shown names e =
    let d = found_first (or_refused not_found (finite.get catalog table)) (with_table ms g) shown e in
    let said = found_first (machine.expressions machine.projecting d.0 ms g)
    (λ (x : Expressions). Ok x.projection) shown d.2 in record {
      names = names;
      attributes = attributes_plain d.0 ms g said.0 said.1;
    }
