-- What is read as a description is one with these bytes, and a description's bytes are read as it.
use Rattle.std.proofs.Common.{◌≡◌, refl, sym, ap, subst, ◌∙◌, ℕ, ◌<◌, ◌^◌, Bool, true, ◌&&◌, List, [], ◌∷◌, ◌++◌, length, None, is_some, Result, Ok, Err, IfOk, append_assoc}
use Rattle.std.specs.Int.{w32, w64, to_be_bytes}
use Rattle.std.specs.List.{list_all, AllByRecursion}
use Rattle.std.proofs.lemmas.List.{append-nil}
use Rattle.std.proofs.lemmas.List.Folds.{list_all-append}
use Rattle.std.proofs.lemmas.Option.{none-some}
use Rattle.std.specs.Cmp.{first_so, second_so}
use Rattle.alt_fields.specs.Field.{field}
use Rattle.alt_fields.specs.declared.bytes.BytesFault.{BytesFault}
use Rattle.alt_fields.specs.declared.bytes.BytesFault.TheVariants.{Bad, NoMemory as NoRoom}
use Rattle.alt_schema.specs.Bare.{bare}
use Rattle.alt_schema.specs.Described.{is_one_of, keys_defined, IsDescription}
use Rattle.alt_schemabytes.specs.Format.{counted_list, view_byte, stream_bytes, definition_bytes, range_bytes, keys_bytes, index_bytes, description_bytes}
use Rattle.alt_schema.specs.Indexes.{of_range}
use Rattle.alt_schemabytes.specs.Held.{IsHeldText, Where, IsHeldIndex, IsHeld, OneSpelling, IsReadAs}
use Rattle.alt_schemabytes.specs.Parts.{got, followed_by, read_u64, read_u32, read_name, any_name, read_byte, read_counted, read_definition, read_key, read_range, read_index, views, read_stream, read_description_head, read_keyed, joined_description, read_description, StopsAt, bytes_left_at_stop}
use Rattle.alt_schemabytes.specs.Places.{AllNext}
use Rattle.alt_schema.specs.Rules.{all_differ}
use Rattle.alt_schemabytes.specs.declared.parsing.Head.{Head}
use Rattle.alt_schemabytes.specs.declared.parsing.Keyed.{Keyed}
use Rattle.alt_schema.specs.declared.schema.Built.TheVariants.{Whole}
use Rattle.alt_schema.specs.declared.schema.KeyAttr.{KeyAttr}
use Rattle.alt_schema.specs.declared.schema.IndexSchema.{IndexSchema}
use Rattle.alt_schema.specs.declared.schema.TableSchema.{TableSchema}
use Rattle.alt_schema.proofs.BareLaws.{as_whole-same, map_whole, bare_described, bare-same}
use Rattle.alt_schemabytes.proofs.BareBytes.{description_bytes-bare, bare_held}
use Rattle.alt_schemabytes.proofs.Wholes.{Small, got_value, got_rest, both_got, u64_got, u32_got, u64_read, u32_read, name_got, byte_got, byte_read}
use Rattle.alt_schemabytes.proofs.WholeLists.{counted_got, counted_read, all_next, next_all, HasNewName, next_differ, differ_next}
use Rattle.alt_schemabytes.proofs.DefinitionReads.{behind, definition_got, definition_read, key_got, key_read, range_got, range_read}
use Rattle.alt_schemabytes.proofs.IndexReads.{text_read, index_got, index_read, view_find, stream_got, stream_read}

-- ---- the head

-- the pieces of a head in a row
head_pieces : (a b c d e : List ℕ) (v : ℕ) (m : List ℕ) → a ++ (b ++ (c ++ (d ++ (v ∷ (e ++ m)))))
    ≡ (a ++ (b ++ (c ++ d))) ++ (v ∷ (e ++ m))
head_pieces a b c d e v m = simp append_assoc

-- the bytes of a head without the stream
head_piece : Head → List ℕ
head_piece h = field h.name ++
    (to_be_bytes w64 h.created ++ (to_be_bytes w64 h.number ++ to_be_bytes w32 h.family))

-- a head that is read stands there
head_got : (bytes : List ℕ) (h : Head) (rest : List ℕ) → Small bytes → read_description_head bytes ≡ got h rest
    → (bytes ≡ head_piece h ++ (view_byte h.view ∷ (stream_bytes h.stream_family ++ rest)))
    × (is_some h.stream_family ≡ is_some h.view)
unfolding read_description_head head_piece
head_got bytes h rest small e =
    let b1 = both_got _ (read_name any_name bytes) h rest e in
    let s1 = (name_got any_name bytes b1.x b1.mid small b1.first).0 in
    let m1 = behind (field b1.x) b1.mid bytes small s1 in
    let b2 = both_got _ (read_u64 b1.mid) h rest b1.second in
    let s2 = u64_got b1.mid b2.x b2.mid m1 b2.first in
    let m2 = behind (to_be_bytes w64 b2.x) b2.mid b1.mid m1 s2 in
    let b3 = both_got _ (read_u64 b2.mid) h rest b2.second in
    let s3 = u64_got b2.mid b3.x b3.mid m2 b3.first in
    let m3 = behind (to_be_bytes w64 b3.x) b3.mid b2.mid m2 s3 in
    let b4 = both_got _ (read_u32 b3.mid) h rest b3.second in
    let s4 = u32_got b3.mid b4.x b4.mid m3 b4.first in
    let m4 = behind (to_be_bytes w32 b4.x) b4.mid b3.mid m3 s4 in
    let b5 = both_got _ (read_byte view_byte views b4.mid) h rest b4.second in
    let s5 = byte_got view_byte views b4.mid b5.x b5.mid b5.first in
    let m5 = behind (view_byte b5.x ∷ []) b5.mid b4.mid m4 s5 in
    let b6 = both_got _ (read_stream b5.x b5.mid) h rest b5.second in
    let s6 = stream_got b5.x b5.mid b6.x b6.mid m5 b6.first in
    let v : record {
      name = b1.x;
      created = b2.x;
      number = b3.x;
      family = b4.x;
      view = b5.x;
      stream_family = b6.x;
    } ≡ h = got_value _ _ _ _ b6.second in (
      s1 ∙ ap (λ m. field b1.x ++ m)
          (s2 ∙ ap (λ m. to_be_bytes w64 b2.x ++ m) (s3 ∙ ap (λ m. to_be_bytes w64 b3.x ++ m)
          (s4 ∙ ap (λ m. to_be_bytes w32 b4.x ++ m) (s5 ∙ ap (λ m. view_byte b5.x ∷ m) s6.0))))
          ∙ head_pieces (field b1.x) (to_be_bytes w64 b2.x) (to_be_bytes w64 b3.x)
          (to_be_bytes w32 b4.x) (stream_bytes b6.x) (view_byte b5.x) b6.mid
          ∙ (λ j. head_piece (v j) ++ (view_byte ((v j).view)
          ∷ (stream_bytes ((v j).stream_family) ++ got_rest _ _ _ _ b6.second j))),
      ap (λ (t : Head). is_some t.stream_family) (sym v) ∙ s6.1
          ∙ ap (λ (t : Head). is_some t.view) v,
    )

-- a head that stands there is read
head_read : (h : Head) (rest : List ℕ) → IsHeldText h.name → h.created < 2 ^ 64 → h.number < 2 ^ 64
    → h.family < 2 ^ 32
    → is_some h.stream_family ≡ is_some h.view → Where (λ f. f < 2 ^ 32) h.stream_family
    → read_description_head (head_piece h ++ (view_byte h.view ∷ (stream_bytes h.stream_family ++ rest)))
    ≡ got h rest
unfolding read_description_head head_piece
head_read h rest name created number family stream held =
    let s = stream_bytes h.stream_family ++ rest in
    let v = view_byte h.view ∷ s in
    let f = to_be_bytes w32 h.family ++ v in
    let n = to_be_bytes w64 h.number ++ f in
    let c = to_be_bytes w64 h.created ++ n in
    ap read_description_head (sym (head_pieces (field h.name) (to_be_bytes w64 h.created)
    (to_be_bytes w64 h.number) (to_be_bytes w32 h.family) (stream_bytes h.stream_family)
    (view_byte h.view) rest))
    ∙ ap (followed_by _) (text_read h.name c name)
    ∙ ap (followed_by _) (u64_read h.created n created)
    ∙ ap (followed_by _) (u64_read h.number f number)
    ∙ ap (followed_by _) (u32_read h.family v family)
    ∙ ap (followed_by _) (byte_read view_byte views h.view s (view_find h.view))
    ∙ ap (followed_by (λ o q. got (record {
      name = h.name;
      created = h.created;
      number = h.number;
      family = h.family;
      view = h.view;
      stream_family = o;
    }) q)) (stream_read h.view h.stream_family rest stream held)

-- ---- what is behind the definitions

-- the bytes of what stands behind the definitions
keyed_piece : Keyed → List ℕ
keyed_piece k = keys_bytes k.hash k.range
    ++ (counted_list index_bytes k.locals ++ counted_list index_bytes k.globals)

-- its pieces in a row
keyed_pieces : (a b c d m : List ℕ) → a ++ (b ++ (c ++ (d ++ m))) ≡ ((a ++ b) ++ (c ++ d)) ++ m
keyed_pieces a b c d m = simp append_assoc

-- the keys of an index are defined ones, and it is whole
HasKeys : List KeyAttr → IndexSchema → Type 0
HasKeys ds i = (keys_defined ds i.hash i.range ≡ true) × (i.built ≡ Whole)

-- what is read behind the definitions stands there
keyed_got : (ds : List KeyAttr) (bytes : List ℕ) (k : Keyed) (rest : List ℕ) → Small bytes
    → read_keyed ds bytes ≡ got k rest
    → (bytes ≡ keyed_piece k ++ rest) × (keys_defined ds k.hash k.range ≡ true)
    × AllByRecursion (HasKeys ds) k.locals × AllByRecursion (HasKeys ds) k.globals
unfolding read_keyed keyed_piece HasKeys
keyed_got ds bytes k rest small e =
    let b1 = both_got _ (read_key ds bytes) k rest e in
    let s1 = key_got ds bytes b1.x b1.mid small b1.first in
    let m1 = behind (field b1.x.name) b1.mid bytes small s1.0 in
    let b2 = both_got _ (read_range ds b1.mid) k rest b1.second in
    let s2 = range_got ds b1.mid b2.x b2.mid m1 b2.first in
    let m2 = behind (range_bytes b2.x) b2.mid b1.mid m1 s2.0 in
    let b3 = both_got _ (read_counted (λ before. read_index ds) b2.mid) k rest b2.second in
    let s3 = counted_got index_bytes (λ before. HasKeys ds) (λ before. read_index ds)
    (λ before b i r g f. index_got ds b i r g f) b2.mid b3.x b3.mid m2 b3.first in
    let m3 = behind (counted_list index_bytes b3.x) b3.mid b2.mid m2 s3.0 in
    let b4 = both_got _ (read_counted (λ before. read_index ds) b3.mid) k rest b3.second in
    let s4 = counted_got index_bytes (λ before. HasKeys ds) (λ before. read_index ds)
    (λ before b i r g f. index_got ds b i r g f) b3.mid b4.x b4.mid m3 b4.first in
    let v : record { hash = b1.x; range = b2.x; locals = b3.x; globals = b4.x } ≡ k =
    got_value _ _ _ _ b4.second in (
      s1.0 ∙ ap (λ m. field b1.x.name ++ m)
          (s2.0 ∙ ap (λ m. range_bytes b2.x ++ m)
          (s3.0 ∙ ap (λ m. counted_list index_bytes b3.x ++ m) s4.0))
          ∙ keyed_pieces (field b1.x.name) (range_bytes b2.x) (counted_list index_bytes b3.x)
          (counted_list index_bytes b4.x) b4.mid
          ∙ (λ j. keyed_piece (v j) ++ got_rest _ _ _ _ b4.second j),
      ap (λ (t : Keyed). keys_defined ds t.hash t.range) (sym v) ∙ (λ j. s1.1 j && s2.1 j),
      subst (λ (t : Keyed). AllByRecursion (HasKeys ds) t.locals) v
          (next_all (HasKeys ds) b3.x [] s3.1),
      subst (λ (t : Keyed). AllByRecursion (HasKeys ds) t.globals) v
          (next_all (HasKeys ds) b4.x [] s4.1),
    )

-- two facts of each
both_all : {A : Type 0} (P Q : A → Type 0) (xs : List A) → AllByRecursion P xs → AllByRecursion Q xs
    → AllByRecursion (λ x. P x × Q x) xs
both_all P Q [] p q = tt
both_all P Q (x ∷ xs) p q = ((p.0, q.0), both_all P Q xs p.1 q.1)

-- what stands behind the definitions is read
keyed_read : (ds : List KeyAttr) (k : Keyed) (rest : List ℕ) → all_differ (λ d. d.name) ds ≡ true
    → keys_defined ds k.hash k.range ≡ true
    → IsHeldText k.hash.name → Where (λ a. IsHeldText a.name) k.range
    → length k.locals < 2 ^ 64 → AllByRecursion IsHeldIndex k.locals
    → AllByRecursion (HasKeys ds) k.locals
    → length k.globals < 2 ^ 64 → AllByRecursion IsHeldIndex k.globals
    → AllByRecursion (HasKeys ds) k.globals
    → read_keyed ds (keyed_piece k ++ rest) ≡ got k rest
unfolding read_keyed keyed_piece HasKeys
keyed_read ds k rest a h hash range ln lh lk gn gh gk =
    let g = counted_list index_bytes k.globals ++ rest in
    let l = counted_list index_bytes k.locals ++ g in
    let r = range_bytes k.range ++ l in
    let one = first_so (is_one_of ds k.hash) (of_range (is_one_of ds) true k.range) h in
    let two = second_so (is_one_of ds k.hash) (of_range (is_one_of ds) true k.range) h in
    let each_read : (before : List IndexSchema) (i : IndexSchema) (q : List ℕ) → IsHeldIndex i
    × HasKeys ds i → read_index ds (index_bytes i ++ q) ≡ got i q
    = λ before i q p. index_read ds i q a p.1.0 p.0
    ∙ ap (λ x. got x q) (as_whole-same i p.1.1) in
    ap (read_keyed ds) (sym (keyed_pieces (field k.hash.name) (range_bytes k.range)
    (counted_list index_bytes k.locals) (counted_list index_bytes k.globals) rest))
    ∙ ap (followed_by _) (key_read ds k.hash r a one hash)
    ∙ ap (followed_by _) (range_read ds k.range l a two range)
    ∙ ap (followed_by _) (counted_read index_bytes (λ before i. IsHeldIndex i × HasKeys ds i)
    (λ before. read_index ds) each_read k.locals g ln
    (all_next (λ i. IsHeldIndex i × HasKeys ds i) k.locals []
    (both_all IsHeldIndex (HasKeys ds) k.locals lh lk)))
    ∙ ap (followed_by (λ globals q. got
    (record { hash = k.hash; range = k.range; locals = k.locals; globals = globals }) q))
    (counted_read index_bytes (λ before i. IsHeldIndex i × HasKeys ds i)
    (λ before. read_index ds) each_read k.globals rest gn
    (all_next (λ i. IsHeldIndex i × HasKeys ds i) k.globals []
    (both_all IsHeldIndex (HasKeys ds) k.globals gh gk)))

-- ---- the whole

-- a test that each passes
all_true : {A : Type 0} (test : A → Bool) (xs : List A) → AllByRecursion (λ x. test x ≡ true) xs
    → list_all test xs ≡ true
all_true test [] h = refl
all_true test (x ∷ xs) h = λ j. h.0 j && all_true test xs h.1 j

-- each passes it
true_all : {A : Type 0} (test : A → Bool) (xs : List A) → list_all test xs ≡ true
    → AllByRecursion (λ x. test x ≡ true) xs
true_all test [] h = tt
true_all test (x ∷ xs) h = (
  first_so (test x) (list_all test xs) h,
  true_all test xs
      (second_so (test x) (list_all test xs) h),
)

-- the pieces of a description in a row
description_pieces : (h s d k : List ℕ) (v : ℕ) (m : List ℕ) → h ++ (v ∷ (s ++ (d ++ (k ++ m))))
    ≡ (h ++ (v ∷ (s ++ (d ++ k)))) ++ m
description_pieces h s d k v m = simp append_assoc

-- the first of two facts of each
first_all : {A : Type 0} (P Q : A → Type 0) (xs : List A) → AllByRecursion (λ x. P x × Q x) xs
    → AllByRecursion P xs
first_all P Q [] h = tt
first_all P Q (x ∷ xs) h = (h.0.0, first_all P Q xs h.1)

-- the second of them
second_all : {A : Type 0} (P Q : A → Type 0) (xs : List A) → AllByRecursion (λ x. P x × Q x) xs
    → AllByRecursion Q xs
second_all P Q [] h = tt
second_all P Q (x ∷ xs) h = (h.0.1, second_all P Q xs h.1)

-- what is read as a description stands there, and is one, with nothing beside its bytes
pub description_got : (bytes : List ℕ) (s : TableSchema) (rest : List ℕ) → Small bytes
    → read_description bytes ≡ got s rest
    → (bytes ≡ description_bytes s ++ rest) × IsDescription s × (bare s ≡ s)
unfolding read_description description_bytes head_piece keyed_piece HasKeys
description_got bytes s rest small e =
    let b1 = both_got _ (read_description_head bytes) s rest e in
    let s1 = head_got bytes b1.x b1.mid small b1.first in
    let m1 = behind (stream_bytes b1.x.stream_family) b1.mid _
    (behind (view_byte b1.x.view ∷ []) (stream_bytes b1.x.stream_family ++ b1.mid) _
    (behind (head_piece b1.x) _ bytes small s1.0) refl) refl in
    let b2 = both_got _ (read_counted read_definition b1.mid) s rest b1.second in
    let s2 = counted_got definition_bytes HasNewName read_definition definition_got b1.mid b2.x
    b2.mid m1 b2.first in
    let m2 = behind (counted_list definition_bytes b2.x) b2.mid b1.mid m1 s2.0 in
    let b3 = both_got _ (read_keyed b2.x b2.mid) s rest b2.second in
    let s3 = keyed_got b2.x b2.mid b3.x b3.mid m2 b3.first in
    let v : joined_description b1.x b2.x b3.x ≡ s = got_value _ _ _ _ b3.second in
    let Keys : IndexSchema → Type 0 = λ i. keys_defined b2.x i.hash i.range ≡ true in
    let IsOne : IndexSchema → Type 0 = λ i. i.built ≡ Whole in
    let good : IsDescription (joined_description b1.x b2.x b3.x) = record {
      stream = s1.1;
      once = next_differ b2.x [] refl s2.1;
      keys = s3.1;
      index_keys =
          list_all-append (λ i. keys_defined b2.x i.hash i.range) b3.x.locals b3.x.globals
          ∙ (λ j. all_true (λ i. keys_defined b2.x i.hash i.range) b3.x.locals
          (first_all Keys IsOne b3.x.locals s3.2) j
          && all_true (λ i. keys_defined b2.x i.hash i.range) b3.x.globals
          (first_all Keys IsOne b3.x.globals s3.3) j);
    } in (
      s1.0 ∙ ap (λ m. head_piece b1.x
          ++ (view_byte b1.x.view ∷ (stream_bytes b1.x.stream_family ++ m)))
          (s2.0 ∙ ap (λ m. counted_list definition_bytes b2.x ++ m) s3.0)
          ∙ description_pieces (head_piece b1.x) (stream_bytes b1.x.stream_family)
          (counted_list definition_bytes b2.x) (keyed_piece b3.x) (view_byte b1.x.view) b3.mid
          ∙ (λ j. description_bytes (v j) ++ got_rest _ _ _ _ b3.second j),
      subst IsDescription v good,
      subst (λ t. bare t ≡ t) v (bare-same (joined_description b1.x b2.x b3.x)
          (second_all Keys IsOne b3.x.locals s3.2) (second_all Keys IsOne b3.x.globals s3.3) refl),
    )

-- two facts of each, the second in view of those before
both_next : {A : Type 0} (P : A → Type 0) (Q : List A → A → Type 0) (xs before : List A)
    → AllByRecursion P xs → AllNext Q before xs
    → AllNext (λ b x. P x × Q b x) before xs
both_next P Q [] before p q = tt
both_next P Q (x ∷ xs) before p q = ((p.0, q.0), both_next P Q xs (before ++ x ∷ []) p.1 q.1)

-- a description without anything beside its bytes is read where it stands
bare_read : (s : TableSchema) (rest : List ℕ) → IsDescription s → IsHeld s
    → AllByRecursion (λ i. i.built ≡ Whole) s.locals
    → AllByRecursion (λ i. i.built ≡ Whole) s.globals → s.ttl ≡ None
    → read_description (description_bytes s ++ rest) ≡ got s rest
unfolding read_description description_bytes head_piece keyed_piece HasKeys
bare_read s rest d h ls gs none =
    let head : Head = record {
      name = s.name;
      created = s.created;
      number = s.number;
      family =
          s.family;
      view = s.view;
      stream_family = s.stream_family;
    } in
    let keyed : Keyed = record {
      hash = s.hash;
      range = s.range;
      locals = s.locals;
      globals =
          s.globals;
    } in
    let k = keyed_piece keyed ++ rest in
    let ds = counted_list definition_bytes s.definitions ++ k in
    let all_keys : (list_all (λ i. keys_defined s.definitions i.hash i.range) s.locals
    && list_all (λ i. keys_defined s.definitions i.hash i.range) s.globals) ≡ true
    = sym (list_all-append (λ i. keys_defined s.definitions i.hash i.range) s.locals s.globals)
    ∙ d.index_keys in
    ap read_description (sym (description_pieces (head_piece head) (stream_bytes s.stream_family)
    (counted_list definition_bytes s.definitions) (keyed_piece keyed) (view_byte s.view) rest))
    ∙ ap (followed_by _) (head_read head ds h.name h.created h.number h.family d.stream
    h.stream_family)
    ∙ ap (followed_by _) (counted_read definition_bytes
    (λ b x. IsHeldText x.name × HasNewName b x) read_definition definition_read s.definitions k
    h.definitions.0
    (both_next (λ x. IsHeldText x.name) HasNewName s.definitions [] h.definitions.1
    (differ_next s.definitions [] d.once)))
    ∙ ap (followed_by (λ x q. got (joined_description head s.definitions x) q))
    (keyed_read s.definitions keyed rest d.once d.keys h.hash h.range
    h.locals.0 h.locals.1 (both_all (λ i. keys_defined s.definitions i.hash i.range ≡ true)
    (λ i. i.built ≡ Whole) s.locals
    (true_all (λ i. keys_defined s.definitions i.hash i.range) s.locals
    (first_so _ _ all_keys)) ls)
    h.globals.0 h.globals.1 (both_all (λ i. keys_defined s.definitions i.hash i.range ≡ true)
    (λ i. i.built ≡ Whole) s.globals
    (true_all (λ i. keys_defined s.definitions i.hash i.range) s.globals
    (second_so _ _ all_keys)) gs))
    ∙ ap (λ o. got (record s { ttl = o }) rest) (sym none)

-- of one that stands there is read what its bytes tell
pub description_read : (s : TableSchema) (rest : List ℕ) → IsDescription s → IsHeld s
    → read_description (description_bytes s ++ rest) ≡ got (bare s) rest
description_read s rest d h =
    ap (λ b. read_description (b ++ rest)) (sym (description_bytes-bare s))
    ∙ bare_read (bare s) rest (bare_described s d) (bare_held s h) (map_whole s.locals)
    (map_whole s.globals) refl

-- two descriptions that have the same bytes differ at most in what stands beside these
pub one_spelling : OneSpelling
one_spelling = λ s t ds hs dt ht e.
    got_value (bare s) (bare t) [] []
    (sym (description_read s [] ds hs) ∙ ap (λ b. read_description (b ++ [])) e
    ∙ description_read t [] dt ht)

-- ---- what the call answers

-- bytes that are read whole are those of a description
pub described_whole : (r : Result TableSchema BytesFault) (bytes : List ℕ) → Small bytes
    → IfOk r (λ s. read_description bytes ≡ got s [])
    → IfOk r (λ s. IsDescription s × (bytes ≡ description_bytes s))
described_whole (Ok s) bytes small e =
    let h = description_got bytes s [] small e in
    (h.1, h.0 ∙ append-nil (description_bytes s))
described_whole (Err e) bytes small h = h

-- with nothing beside them
pub read_bare : (r : Result TableSchema BytesFault) (bytes : List ℕ) → Small bytes
    → IfOk r (λ s. read_description bytes ≡ got s []) → IfOk r (λ s. bare s ≡ s)
read_bare (Ok s) bytes small e = (description_got bytes s [] small e).2
read_bare (Err e) bytes small h = h

-- the bytes of a description are read as it
pub read_again : (r : Result TableSchema BytesFault) (bytes : List ℕ)
    → IfOk r (λ s. read_description bytes ≡ got s [])
    → ((at : ℕ) → r ≡ Err (Bad at) → StopsAt bytes at) → (s : TableSchema) → IsDescription s
    → IsHeld s → bytes ≡ description_bytes s → IsReadAs s r
read_again (Ok t) bytes whole place s d h e =
    got_value t (bare s) [] [] (sym whole
    ∙ ap read_description (e ∙ sym (append-nil (description_bytes s)))
    ∙ description_read s [] d h)
read_again (Err (Bad at)) bytes whole place s d h e =
    let p = place at refl in
    none-some p.0 (ap bytes_left_at_stop (sym (description_read s [] d h))
    ∙ ap (λ b. bytes_left_at_stop (read_description b)) (append-nil (description_bytes s) ∙ sym e) ∙ p.1)
read_again (Err NoRoom) bytes whole place s d h e = tt
