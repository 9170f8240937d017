-- Projections, indexes and streams are read from their bytes, and what is read as one has these bytes.
use Rattle.std.proofs.Common.{◌≡◌, refl, sym, ap, ◌∙◌, ℕ, ◌<◌, ◌^◌, true, ◌&&◌, ◌==◌, List, [], ◌∷◌, ◌++◌, Option, Some, None, is_some, append_assoc}
use Rattle.std.specs.Int.{w32, to_be_bytes}
use Rattle.std.specs.List.{find}
use Rattle.std.proofs.lemmas.Str.{is_utf8-from_IsUtf8}
use Rattle.std.proofs.lemmas.Bool.{true≢false}
use Rattle.std.specs.Cmp.{first_so, second_so}
use Rattle.alt_fields.specs.Field.{field}
use Rattle.alt_schema.specs.Bare.{as_whole}
use Rattle.alt_schema.specs.Described.{is_one_of, keys_defined}
use Rattle.alt_schemabytes.specs.Format.{view_byte, stream_bytes, range_bytes, projection_bytes, index_bytes, projection_byte}
use Rattle.alt_schema.specs.Indexes.{of_range}
use Rattle.alt_schemabytes.specs.Held.{IsHeldText, Where, IsHeldProjection, IsHeldIndex}
use Rattle.alt_schemabytes.specs.Parts.{got, followed_by, read_u32, read_name, any_name, read_byte, read_counted, read_key, read_range, projection_kinds, read_included, read_projection, read_index, views, read_stream}
use Rattle.alt_schema.specs.Rules.{all_differ}
use Rattle.alt_schema.specs.declared.schema.Built.TheVariants.{Whole}
use Rattle.alt_schema.specs.declared.schema.KeyAttr.{KeyAttr}
use Rattle.alt_schema.specs.declared.schema.Projection.{Projection}
use Rattle.alt_schema.specs.declared.schema.Projection.TheVariants.{All, KeysOnly, Include}
use Rattle.alt_schema.specs.declared.schema.View.{View}
use Rattle.alt_schema.specs.declared.schema.View.TheVariants.{KeysOnly as view_keys, NewImage, OldImage, NewAndOldImages}
use Rattle.alt_schema.specs.declared.schema.IndexSchema.{IndexSchema}
use Rattle.alt_schemabytes.proofs.Wholes.{Small, got_value, got_rest, both_got, u32_got, u32_read, name_got, name_read, byte_got}
use Rattle.alt_schemabytes.proofs.WholeLists.{counted_got, counted_read, all_next}
use Rattle.alt_schemabytes.proofs.DefinitionReads.{behind, key_got, key_read, range_got, range_read}

-- ---- projections and indexes

-- the names that are read behind a projection's byte stand there
included_got : (q : Projection) (mid : List ℕ) (p : Projection) (rest : List ℕ) → Small mid
    → read_included q mid ≡ got p rest
    → projection_byte q ∷ mid ≡ projection_bytes p ++ rest
unfolding read_included
included_got All mid p rest small e = λ j. projection_bytes (got_value All p mid rest e j)
    ++ got_rest All p mid rest e j
included_got KeysOnly mid p rest small e = λ j. projection_bytes (got_value KeysOnly p mid rest e j)
    ++ got_rest KeysOnly p mid rest e j
included_got (Include names) mid p rest small e =
    let b = both_got (λ given r. got (Include given) r)
    (read_counted (λ before. read_name any_name) mid) p rest e in
    let s = counted_got field (λ before x. Unit {0}) (λ before. read_name any_name)
    (λ before c x r g f. ((name_got any_name c x r g f).0, tt)) mid b.x b.mid small b.first in
    ap (λ m. 3 ∷ m) s.0 ∙ (λ j. projection_bytes (got_value _ _ _ _ b.second j)
    ++ got_rest _ _ _ _ b.second j)

-- a projection that is read stands there
projection_got : (bytes : List ℕ) (p : Projection) (rest : List ℕ) → Small bytes
    → read_projection bytes ≡ got p rest → bytes ≡ projection_bytes p ++ rest
unfolding read_projection
projection_got bytes p rest small e =
    let b = both_got read_included (read_byte projection_byte projection_kinds bytes) p rest e in
    let t = byte_got projection_byte projection_kinds bytes b.x b.mid b.first in
    t ∙ included_got b.x b.mid p rest
    (behind (projection_byte b.x ∷ []) b.mid bytes small t) b.second

-- a text that stands there is read
pub text_read : (s rest : List ℕ) → IsHeldText s → read_name any_name (field s ++ rest) ≡ got s rest
text_read s rest h = name_read any_name s rest h.0 (is_utf8-from_IsUtf8 s h.1) refl

-- a projection that stands there is read
projection_read : (p : Projection) (rest : List ℕ) → IsHeldProjection p
    → read_projection (projection_bytes p ++ rest) ≡ got p rest
unfolding read_projection read_included read_byte
projection_read All rest h = refl
projection_read KeysOnly rest h = refl
projection_read (Include names) rest h =
    ap (followed_by (λ given r. got (Include given) r))
    (counted_read field (λ before. IsHeldText) (λ before. read_name any_name)
    (λ before x r g. text_read x r g) names rest h.0 (all_next IsHeldText names [] h.1))

-- the pieces of an index in a row
index_pieces : (a b c d e m : List ℕ) → a ++ (b ++ (c ++ (d ++ (e ++ m))))
    ≡ (a ++ (b ++ ((c ++ d) ++ e))) ++ m
index_pieces a b c d e m = simp append_assoc

-- an index that is read stands there, and its keys are defined ones
pub index_got : (ds : List KeyAttr) (bytes : List ℕ) (i : IndexSchema) (rest : List ℕ) → Small bytes
    → read_index ds bytes ≡ got i rest
    → (bytes ≡ index_bytes i ++ rest)
    × ((keys_defined ds i.hash i.range ≡ true) × (i.built ≡ Whole))
unfolding read_index
index_got ds bytes i rest small e =
    let b1 = both_got _ (read_name any_name bytes) i rest e in
    let s1 = (name_got any_name bytes b1.x b1.mid small b1.first).0 in
    let m1 = behind (field b1.x) b1.mid bytes small s1 in
    let b2 = both_got _ (read_u32 b1.mid) i rest b1.second in
    let s2 = u32_got b1.mid b2.x b2.mid m1 b2.first in
    let m2 = behind (to_be_bytes w32 b2.x) b2.mid b1.mid m1 s2 in
    let b3 = both_got _ (read_key ds b2.mid) i rest b2.second in
    let s3 = key_got ds b2.mid b3.x b3.mid m2 b3.first in
    let m3 = behind (field b3.x.name) b3.mid b2.mid m2 s3.0 in
    let b4 = both_got _ (read_range ds b3.mid) i rest b3.second in
    let s4 = range_got ds b3.mid b4.x b4.mid m3 b4.first in
    let m4 = behind (range_bytes b4.x) b4.mid b3.mid m3 s4.0 in
    let b5 = both_got _ (read_projection b4.mid) i rest b4.second in
    let s5 = projection_got b4.mid b5.x b5.mid m4 b5.first in
    let v : record {
      name = b1.x;
      hash = b3.x;
      range = b4.x;
      projection = b5.x;
      family = b2.x;
      built = Whole;
    } ≡ i = got_value _ _ _ _ b5.second in (
      s1 ∙ ap (λ m. field b1.x ++ m)
          (s2 ∙ ap (λ m. to_be_bytes w32 b2.x ++ m)
          (s3.0 ∙ ap (λ m. field b3.x.name ++ m) (s4.0 ∙ ap (λ m. range_bytes b4.x ++ m) s5)))
          ∙ index_pieces (field b1.x) (to_be_bytes w32 b2.x) (field b3.x.name) (range_bytes b4.x)
          (projection_bytes b5.x) b5.mid
          ∙ (λ j. index_bytes (v j) ++ got_rest _ _ _ _ b5.second j),
      (
        ap (λ (t : IndexSchema). keys_defined ds t.hash t.range) (sym v)
            ∙ (λ j. s3.1 j && s4.1 j),
        ap (λ (t : IndexSchema). t.built) (sym v),
      ),
    )

-- an index that stands there is read as a whole one
pub index_read : (ds : List KeyAttr) (i : IndexSchema) (rest : List ℕ) → all_differ (λ d. d.name) ds
    ≡ true → keys_defined ds i.hash i.range ≡ true → IsHeldIndex i
    → read_index ds (index_bytes i ++ rest) ≡ got (as_whole i) rest
unfolding read_index
index_read ds i rest a h t =
    let p = projection_bytes i.projection ++ rest in
    let r = range_bytes i.range ++ p in
    let k = field i.hash.name ++ r in
    let f = to_be_bytes w32 i.family ++ k in
    let one = first_so (is_one_of ds i.hash) (of_range (is_one_of ds) true i.range) h in
    let two = second_so (is_one_of ds i.hash) (of_range (is_one_of ds) true i.range) h in
    ap (read_index ds) (sym (index_pieces (field i.name) (to_be_bytes w32 i.family)
    (field i.hash.name) (range_bytes i.range) (projection_bytes i.projection) rest))
    ∙ ap (followed_by _) (text_read i.name f t.name)
    ∙ ap (followed_by _) (u32_read i.family k t.family)
    ∙ ap (followed_by _) (key_read ds i.hash r a one t.hash)
    ∙ ap (followed_by _) (range_read ds i.range p a two t.range)
    ∙ ap (followed_by (λ projection q. got
    (record {
      name = i.name;
      hash = i.hash;
      range = i.range;
      projection = projection;
      family =
          i.family;
      built = Whole;
    }) q)) (projection_read i.projection rest t.projection)

-- ---- the head

-- the byte of a view is found
pub view_find : (v : Option View) → find (λ y. view_byte v == view_byte y) views ≡ Some v
view_find None = refl
view_find (Some view_keys) = refl
view_find (Some NewImage) = refl
view_find (Some OldImage) = refl
view_find (Some NewAndOldImages) = refl

-- the stream's family that is read stands there, exactly where there is a stream
pub stream_got : (v : Option View) (bytes : List ℕ) (o : Option ℕ) (rest : List ℕ) → Small bytes
    → read_stream v bytes ≡ got o rest
    → (bytes ≡ stream_bytes o ++ rest) × (is_some o ≡ is_some v)
unfolding read_stream
stream_got None bytes o rest small e =
    let v : None ≡ o = got_value _ _ _ _ e in
    ((λ j. stream_bytes (v j) ++ got_rest _ _ _ _ e j), ap is_some (sym v))
stream_got (Some w) bytes o rest small e =
    let b = both_got (λ family r. got (Some family) r) (read_u32 bytes) o rest e in
    let v : Some b.x ≡ o = got_value _ _ _ _ b.second in (
      u32_got bytes b.x b.mid small b.first
          ∙ (λ j. stream_bytes (v j) ++ got_rest _ _ _ _ b.second j),
      ap is_some (sym v),
    )

-- the stream's family that stands there is read
pub stream_read : (v : Option View) (o : Option ℕ) (rest : List ℕ) → is_some o ≡ is_some v
    → Where (λ f. f < 2 ^ 32) o
    → read_stream v (stream_bytes o ++ rest) ≡ got o rest
unfolding read_stream
stream_read None None rest h t = refl
stream_read None (Some f) rest h t = absurd (true≢false h)
stream_read (Some w) None rest h t = absurd (true≢false (sym h))
stream_read (Some w) (Some f) rest h t =
    ap (followed_by (λ family r. got (Some family) r)) (u32_read f rest t)
