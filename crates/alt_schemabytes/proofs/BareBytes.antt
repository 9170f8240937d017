-- What stands beside a description's bytes changes none of them; a program can hold what they tell.
use Rattle.std.proofs.Common.{◌≡◌, refl, sym, ap, subst, ◌<◌, ◌^◌, List, [], ◌∷◌, ◌++◌, map, ℕ, Option}
use Rattle.std.specs.Int.{w64, to_be_bytes}
use Rattle.std.specs.List.{AllByRecursion}
use Rattle.alt_schema.specs.Bare.{as_whole, bare}
use Rattle.alt_schema.specs.declared.schema.IndexSchema.{IndexSchema}
use Rattle.alt_schema.specs.declared.schema.TableSchema.{TableSchema}
use Rattle.alt_schema.proofs.BareLaws.{length-as_whole}
use Rattle.alt_schemabytes.specs.Format.{each, counted_list, view_byte, stream_bytes, definition_bytes, keys_bytes, index_bytes, head_bytes, description_bytes}
use Rattle.alt_schemabytes.specs.Held.{IsHeldIndex, IsHeld}

-- ---- several indexes

-- the bytes of each
pub each-as_whole : (is : List IndexSchema) → each index_bytes (map as_whole is)
    ≡ each index_bytes is
each-as_whole [] = refl
each-as_whole (i ∷ is) = ap (λ m. index_bytes i ++ m) (each-as_whole is)

-- the bytes of several
pub counted-as_whole : (is : List IndexSchema) → counted_list index_bytes (map as_whole is)
    ≡ counted_list index_bytes is
counted-as_whole is = λ j. to_be_bytes w64 (length-as_whole is j) ++ each-as_whole is j

-- each is held
held-as_whole : (is : List IndexSchema) → AllByRecursion IsHeldIndex is
    → AllByRecursion IsHeldIndex (map as_whole is)
held-as_whole [] h = tt
held-as_whole (i ∷ is) h = (
  record {
    name = h.0.name;
    family = h.0.family;
    hash = h.0.hash;
    range = h.0.range;
    projection = h.0.projection;
    built = tt;
  },
  held-as_whole is h.1,
)

-- ---- the whole

module _ (d : TableSchema) where
  -- the bytes are those of what they tell
  pub description_bytes-bare : description_bytes (bare d) ≡ description_bytes d
  unfolding description_bytes
  description_bytes-bare = λ j. head_bytes d ++ (view_byte d.view ∷ stream_bytes d.stream_family
      ++ (counted_list definition_bytes d.definitions ++ (keys_bytes d.hash d.range
      ++ (counted-as_whole d.locals j ++ counted-as_whole d.globals j))))

  -- a program can hold what they tell
  pub bare_held : IsHeld d → IsHeld (bare d)
  bare_held is = record {
    name = is.name;
    created = is.created;
    number = is.number;
    family = is.family;
    stream_family = is.stream_family;
    definitions = is.definitions;
    hash = is.hash;
    range = is.range;
    locals = (
      subst (λ n. n < 2 ^ 64) (sym (length-as_whole d.locals)) is.locals.0,
      held-as_whole d.locals is.locals.1,
    );
    globals = (
      subst (λ n. n < 2 ^ 64) (sym (length-as_whole d.globals)) is.globals.0,
      held-as_whole d.globals is.globals.1,
    );
    ttl = tt;
  }

  -- with another time to live a description has the same bytes
  pub description_bytes-timed : (time : Option (List ℕ))
      → description_bytes (record d { ttl = time }) ≡ description_bytes d
  unfolding description_bytes
  description_bytes-timed time = refl
