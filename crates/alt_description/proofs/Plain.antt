-- A description as it is shown has no float.
use Rattle.std.proofs.Common.{◌≡◌, refl, sym, ap, ◌∙◌, ℕ, true, false, List, [], ◌∷◌, Option, Some, None, option_map, codes, Result, Ok, Err, IfOk}
use Rattle.std.proofs.lemmas.Bool.{or_from}
use Rattle.serde_json.specs.Data.{Data, boolean, string, array, Members}
use Rattle.serde_json.specs.View.{view}
use Rattle.serde_json.specs.declared.value.Value.{Value}
use Rattle.serde_json.specs.Written.{has_float, items_have_float, members_have_float}
use Rattle.alt_base.specs.declared.memory.NoMemory.{NoMemory}
use Rattle.alt_description.specs.Json.{backfilling, label, stream_arn, items_by, array_if_any, member_if, definition_json, key_schema_json, projection_json, local_json, global_json, specification_json, description_json}
use Rattle.alt_description.specs.declared.schema.Built.{Built}
use Rattle.alt_description.specs.declared.schema.Built.TheVariants.{Whole, UpTo}
use Rattle.alt_description.specs.declared.schema.KeyAttr.{KeyAttr}
use Rattle.alt_description.specs.declared.schema.Projection.{Projection}
use Rattle.alt_description.specs.declared.schema.Projection.TheVariants.{All, KeysOnly, Include}
use Rattle.alt_description.specs.declared.schema.View.{View}
use Rattle.alt_description.specs.declared.schema.IndexSchema.{IndexSchema}
use Rattle.alt_description.specs.declared.schema.TableSchema.{TableSchema}

-- items by what they show
items_plain : {A : Type 0} (shown : A → Data) → ((x : A) → has_float (shown x) ≡ false)
    → (xs : List A) → items_have_float (items_by shown xs) ≡ false
items_plain shown each [] = refl
items_plain shown each (x ∷ xs) = or_from _ _ (each x) (items_plain shown each xs)

-- a member that may be there, before others
member_plain : (name : List ℕ) (o : Option Data) (ms : Members)
    → ((d : Data) → o ≡ Some d → has_float d ≡ false) → members_have_float ms ≡ false
    → members_have_float (member_if name o ms) ≡ false
member_plain name None ms value rest = rest
member_plain name (Some d) ms value rest = or_from _ _ (value d refl) rest

-- an array of such items
array_plain : {A : Type 0} (shown : A → Data) → ((x : A) → has_float (shown x) ≡ false)
    → (xs : List A) (d : Data) → array_if_any shown xs ≡ Some d
    → has_float d ≡ false
array_plain shown each [] d e = cc
array_plain shown each (x ∷ xs) d e =
    let is : array (items_by shown (x ∷ xs)) ≡ d = cc in
    ap has_float (sym is) ∙ items_plain shown each (x ∷ xs)

-- the members of a stream
of_stream : (shown : View → Data) → ((v : View) → has_float (shown v) ≡ false)
    → (o : Option View) (d : Data) → option_map shown o ≡ Some d → has_float d ≡ false
of_stream shown each None d e = cc
of_stream shown each (Some v) d e =
    let is : shown v ≡ d = cc in
    ap has_float (sym is) ∙ each v

-- a key schema
pub key_schema_plain : (hash : KeyAttr) (range : Option KeyAttr)
    → has_float (key_schema_json hash range) ≡ false
key_schema_plain hash None = refl
key_schema_plain hash (Some k) = refl

-- what an index keeps
projection_plain : (p : Projection) → has_float (projection_json p) ≡ false
projection_plain All = refl
projection_plain KeysOnly = refl
projection_plain (Include names) =
    or_from _ false (items_plain (λ name. string name) (λ name. refl) names) refl

-- a local index
local_plain : (table : List ℕ) (i : IndexSchema) → has_float (local_json table i) ≡ false
local_plain table i = or_from _ _ (key_schema_plain i.hash i.range)
    (or_from _ false (projection_plain i.projection) refl)

-- whether an index is being built, where that is shown
built_plain : (b : Built) (d : Data) → backfilling b ≡ Some d → has_float d ≡ false
built_plain Whole d e = cc
built_plain (UpTo key) d e =
    let is : boolean true ≡ d = cc in
    ap has_float (sym is)

-- a global index
global_plain : (table : List ℕ) (i : IndexSchema) → has_float (global_json table i) ≡ false
global_plain table i = member_plain (codes "Backfilling") _ _ (built_plain i.built)
    (or_from _ _ (key_schema_plain i.hash i.range)
    (or_from _ false (projection_plain i.projection) refl))

-- the whole of it
description_plain : (s : TableSchema) (status : List ℕ) → has_float (description_json s status)
    ≡ false
unfolding description_json
description_plain s status =
    or_from _ _ (items_plain definition_json (λ d. refl) s.definitions)
    (member_plain (codes "GlobalSecondaryIndexes") _ _
    (array_plain (global_json s.name) (global_plain s.name) s.globals)
    (or_from _ _ (key_schema_plain s.hash s.range)
    (member_plain (codes "LatestStreamArn") _ _
    (of_stream (λ v. string (stream_arn s.name s.number)) (λ v. refl) s.view)
    (member_plain (codes "LatestStreamLabel") _ _
    (of_stream (λ v. string (label s.number)) (λ v. refl) s.view)
    (member_plain (codes "LocalSecondaryIndexes") _ _
    (array_plain (local_json s.name) (local_plain s.name) s.locals)
    (member_plain (codes "StreamSpecification") _ _
    (of_stream specification_json (λ v. refl) s.view) refl))))))

-- so has what it is written as
pub shown_plain : (r : Result Value NoMemory) (s : TableSchema) (status : List ℕ)
    → IfOk r (λ v. view v ≡ description_json s status)
    → IfOk r (λ v. has_float (view v) ≡ false)
shown_plain (Ok v) s status is = ap has_float is ∙ description_plain s status
shown_plain (Err e) s status is = tt
