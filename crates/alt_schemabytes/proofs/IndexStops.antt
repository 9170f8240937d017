-- Projections and indexes: what is read as one is right, and where reading stops none stands.
use Rattle.std.proofs.Common.{◌≡◌, refl, ap, subst, ◌∙◌, ℕ, ◌<◌, ◌^◌, true, ◌==◌, List, [], ◌∷◌, Option, Some, None, is_some}
use Rattle.std.specs.Int.{w32, to_be_bytes}
use Rattle.std.specs.List.{find, AllByRecursion}
use Rattle.alt_fields.specs.Field.{field}
use Rattle.alt_schemabytes.specs.Format.{counted_list, range_bytes, index_bytes, projection_byte}
use Rattle.alt_schemabytes.specs.Held.{IsHeldText, Where, IsHeldProjection, IsHeldIndex}
use Rattle.alt_schemabytes.specs.Parts.{ReadOutcome, got, stops, followed_by, read_u32, read_name, any_name, read_byte, read_counted, read_key, read_range, projection_kinds, read_included, read_projection, read_index}
use Rattle.alt_schemabytes.specs.Places.{NoNumberOfWidth, NoText, AnyText, IsDefinedKey, key_attribute_bytes, NoKey, NoRange, NoNames, NoProjection, no_kind_of_projection, no_names, IsIndex, NoIndex, NoIndexes}
use Rattle.alt_schema.specs.declared.schema.Built.TheVariants.{Whole}
use Rattle.alt_schema.specs.declared.schema.KeyAttr.{KeyAttr}
use Rattle.alt_schema.specs.declared.schema.Projection.{Projection}
use Rattle.alt_schema.specs.declared.schema.Projection.TheVariants.{All, KeysOnly, Include}
use Rattle.alt_schema.specs.declared.schema.IndexSchema.{IndexSchema}
use Rattle.alt_schemabytes.proofs.Wholes.{Small, small_back, got_value, both_got, byte_got}
use Rattle.alt_schemabytes.proofs.WholeLists.{counted_got, next_all}
use Rattle.alt_schemabytes.proofs.IndexReads.{index_got}
use Rattle.alt_schemabytes.proofs.Steady.{no_got, stop_count}
use Rattle.alt_schemabytes.proofs.SoundParts.{Sound, Complete, u32_sound, u32_none, unfinished, last_stops, counted_none, counted_short}
use Rattle.alt_schemabytes.proofs.DefinitionStops.{any_none, any_sound, byte_none, key_none, key_sound, range_none, range_sound}

-- where no names are read, none stand
names_none : Complete NoNames (read_counted (λ before. read_name any_name))
names_none = counted_none field (λ before. IsHeldText) (λ before. NoText AnyText)
    (λ before. read_name any_name) (λ before. any_sound) (λ before. any_none)

-- each projection has a byte
some_projection : (p : Projection)
    → is_some (find (λ y. projection_byte p == projection_byte y) projection_kinds) ≡ true
some_projection All = refl
some_projection KeysOnly = refl
some_projection (Include names) = refl

-- the names behind the byte of a projection
projection_next : (p : Projection) (b mid : List ℕ) (n : ℕ) → Small mid → b ≡ projection_byte p
    ∷ mid → read_included p mid ≡ stops n → NoProjection b n
unfolding read_included
projection_next All b mid n small is e = absurd (no_got All mid n e)
projection_next KeysOnly b mid n small is e = absurd (no_got KeysOnly mid n e)
projection_next (Include names) b mid n small is e =
    no_names mid is (names_none mid n small
    (last_stops Include (read_counted (λ before. read_name any_name) mid) n e))

-- the byte of a projection, and what follows
projection_by : (b : List ℕ) (r : ReadOutcome Projection) (n : ℕ) → Small b
    → read_byte projection_byte projection_kinds b ≡ r → followed_by read_included r ≡ stops n
    → NoProjection b n
projection_by b (got p mid) n small e f =
    let t = byte_got projection_byte projection_kinds b p mid e in
    projection_next p b mid n (small_back (projection_byte p ∷ []) mid (subst Small t small)) t f
projection_by b (stops m) n small e f =
    no_kind_of_projection (byte_none projection_byte projection_kinds some_projection b n small
    (e ∙ ap stops (stop_count m n f)))

-- where no projection is read, none stands
projection_none : Complete NoProjection read_projection
unfolding read_projection
projection_none = λ b n small e. projection_by b
    (read_byte projection_byte projection_kinds b) n small refl e

-- the names that are read are texts that the program can hold
included_held : (q : Projection) (mid : List ℕ) (p : Projection) (rest : List ℕ) → Small mid
    → read_included q mid ≡ got p rest → IsHeldProjection p
unfolding read_included
included_held All mid p rest small e = subst IsHeldProjection (got_value All p mid rest e) tt
included_held KeysOnly mid p rest small e =
    subst IsHeldProjection (got_value KeysOnly p mid rest e) tt
included_held (Include names) mid p rest small e =
    let b = both_got (λ given r. got (Include given) r)
    (read_counted (λ before. read_name any_name) mid) p rest e in
    let s = counted_got field (λ before. IsHeldText) (λ before. read_name any_name)
    (λ before. any_sound) mid b.x b.mid small b.first in
    subst IsHeldProjection (got_value _ _ _ _ b.second) (
      counted_short (λ before. read_name any_name) mid b.x b.mid small b.first,
      next_all IsHeldText
          b.x [] s.1,
    )

-- a projection that is read is one that the program can hold
projection_held : (b : List ℕ) (p : Projection) (rest : List ℕ) → Small b → read_projection b
    ≡ got p rest → IsHeldProjection p
unfolding read_projection
projection_held b p rest small e =
    let parts = both_got read_included (read_byte projection_byte projection_kinds b) p rest e in
    let t = byte_got projection_byte projection_kinds b parts.x parts.mid parts.first in
    included_held parts.x parts.mid p rest
    (small_back (projection_byte parts.x ∷ []) parts.mid (subst Small t small)) parts.second

-- a right RANGE key is one that the program can hold
where_held : (ds : List KeyAttr) (r : Option KeyAttr) → Where (IsDefinedKey ds) r
    → Where (λ k. IsHeldText k.name) r
where_held ds None h = tt
where_held ds (Some k) h = h.0

-- where no index is read, none stands
index_none : (ds : List KeyAttr) → Complete (NoIndex ds) (read_index ds)
unfolding read_index
index_none ds = λ b n small e.
    unfinished field IsHeldText (NoText AnyText) _ (read_name any_name) _ any_sound any_none
    (λ name i1 b1 n1 s1 e1.
    unfinished (to_be_bytes w32) (λ family. family < 2 ^ 32)
    (NoNumberOfWidth 4) _ read_u32 _ u32_sound u32_none (λ family i2 b2 n2 s2 e2.
    unfinished key_attribute_bytes (IsDefinedKey ds) (NoKey ds) _ (read_key ds) _ (key_sound ds) (key_none ds)
    (λ hash i3 b3 n3 s3 e3.
    unfinished range_bytes (Where (IsDefinedKey ds)) (NoRange ds) _ (read_range ds) _ (range_sound ds)
    (range_none ds) (λ range i4 b4 n4 s4 e4.
    projection_none b4 n4 s4 (last_stops _ _ n4 e4))
    b3 n3 s3 e3) b2 n2 s2 e2) b1 n1 s1 e1) b n small e

-- an index that is read is one that the program can hold
index_held : (ds : List KeyAttr) (b : List ℕ) (i : IndexSchema) (r : List ℕ) → Small b
    → read_index ds b ≡ got i r → IsHeldIndex i
unfolding read_index
index_held ds b i r small e =
    let p1 = both_got _ (read_name any_name b) i r e in
    let t1 = any_sound b p1.x p1.mid small p1.first in
    let m1 = small_back (field p1.x) p1.mid (subst Small t1.0 small) in
    let p2 = both_got _ (read_u32 p1.mid) i r p1.second in
    let t2 = u32_sound p1.mid p2.x p2.mid m1 p2.first in
    let m2 = small_back (to_be_bytes w32 p2.x) p2.mid (subst Small t2.0 m1) in
    let p3 = both_got _ (read_key ds p2.mid) i r p2.second in
    let t3 = key_sound ds p2.mid p3.x p3.mid m2 p3.first in
    let m3 = small_back (field p3.x.name) p3.mid (subst Small t3.0 m2) in
    let p4 = both_got _ (read_range ds p3.mid) i r p3.second in
    let t4 = range_sound ds p3.mid p4.x p4.mid m3 p4.first in
    let m4 = small_back (range_bytes p4.x) p4.mid (subst Small t4.0 m3) in
    let p5 = both_got _ (read_projection p4.mid) i r p4.second in
    let v : record {
      name = p1.x;
      hash = p3.x;
      range = p4.x;
      projection = p5.x;
      family = p2.x;
      built = Whole;
    } ≡ i = got_value _ _ _ _ p5.second in
    subst IsHeldIndex v (record {
      name = t1.1;
      family = t2.1;
      hash = t3.1.0;
      range = where_held ds p4.x t4.1;
      projection = projection_held p4.mid p5.x p5.mid m4 p5.first;
      built = tt;
    })

-- an index that is read is a right one
index_sound : (ds : List KeyAttr) → Sound index_bytes (IsIndex ds) (read_index ds)
index_sound ds = λ b i r small e.
    let g = index_got ds b i r small e in
    (g.0, (index_held ds b i r small e, g.1.0))

-- where no indexes are read, none stand
pub indexes_none : (ds : List KeyAttr)
    → Complete (NoIndexes ds) (read_counted (λ before. read_index ds))
indexes_none ds = counted_none index_bytes (λ before. IsIndex ds) (λ before. NoIndex ds)
    (λ before. read_index ds) (λ before. index_sound ds) (λ before. index_none ds)

-- indexes that are read are right ones
pub indexes_sound : (ds : List KeyAttr)
    → Sound (counted_list index_bytes) (AllByRecursion (IsIndex ds))
    (read_counted (λ before. read_index ds))
indexes_sound ds = λ b is r small e.
    let g = counted_got index_bytes (λ before. IsIndex ds) (λ before. read_index ds)
    (λ before. index_sound ds) b is r small e in
    (g.0, next_all (IsIndex ds) is [] g.1)
