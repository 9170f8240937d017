-- The reading of a description is steady, part by part, and so its place is the first at which one stands.
use Rattle.std.proofs.Common.{◌≡◌, refl, sym, ap, ◌∙◌, ℕ, suc, ◌+◌, ◌-◌, ◌<◌, ◌⊎◌, inl, inr, Bool, true, false, if◌then◌else◌, List, [], ◌∷◌, ◌++◌, length, take, drop, Option, Some, None, arith, append_assoc, length-append}
use Rattle.std.proofs.lemmas.List.{append-nil, take_at, drop_at}
use Rattle.alt_fields.specs.Field.{told_length}
use Rattle.alt_schema.specs.Bare.{bare}
use Rattle.alt_schema.specs.Described.{key_attr, IsDescription}
use Rattle.alt_schemabytes.specs.Format.{kind_byte, view_byte, description_bytes, truth_byte, projection_byte}
use Rattle.alt_schemabytes.specs.Held.{IsHeld}
use Rattle.alt_schemabytes.specs.Parts.{ReadOutcome, got, stops, followed_by, read_name, any_name, kinds, read_definition, read_key, truths, read_range, projection_kinds, read_included, read_projection, read_index, views, read_stream, read_description_head, read_keyed, read_description, bytes_left_at_stop, StopsAt}
use Rattle.alt_schemabytes.specs.Places.{NoFurther}
use Rattle.alt_schema.specs.Rules.{is_defined}
use Rattle.alt_schema.specs.declared.schema.KeyAttr.{KeyAttr}
use Rattle.alt_schema.specs.declared.schema.Projection.{Projection}
use Rattle.alt_schema.specs.declared.schema.Projection.TheVariants.{All, KeysOnly, Include}
use Rattle.alt_schema.specs.declared.schema.View.{View}
use Rattle.alt_schema.specs.declared.schema.TableSchema.{TableSchema}
use Rattle.alt_schemabytes.proofs.Wholes.{got_rest, no_stop}
use Rattle.alt_schemabytes.proofs.WholeDescriptions.{description_read}
use Rattle.alt_schemabytes.proofs.Steady.{Steady, pure, steady_both}
use Rattle.alt_schemabytes.proofs.SteadyParts.{u64, u32, name, byte, many}

-- ---- the parts of a description

-- definitions
definition : (before : List KeyAttr) → Steady (read_definition before)
unfolding read_definition
definition before = steady_both _ _ (name _)
    (λ x. steady_both _ _ (byte kind_byte kinds) (λ kind. pure _))

-- keys
key : (ds : List KeyAttr) → Steady (read_key ds)
unfolding read_key
key ds = steady_both _ _ (name (is_defined ds)) (λ x. pure (key_attr ds x))

-- the name of a RANGE key
range_next : (ds : List KeyAttr) (there : Bool)
    → Steady (λ rest. if there then followed_by (λ k q. got (Some k) q)
    (read_key ds rest) else got None rest)
range_next ds true = steady_both (λ k q. got (Some k) q) (read_key ds) (key ds) (λ k. pure (Some k))
range_next ds false = pure None

-- RANGE keys
range : (ds : List KeyAttr) → Steady (read_range ds)
unfolding read_range
range ds = steady_both _ _ (byte truth_byte truths) (range_next ds)

-- the names of a projection
included : (p : Projection) → Steady (read_included p)
unfolding read_included
included All = pure All
included KeysOnly = pure KeysOnly
included (Include names) = steady_both _ _
    (many (λ before. read_name any_name) (λ before. name any_name)) (λ given. pure (Include given))

-- projections
projection : Steady read_projection
unfolding read_projection
projection = steady_both read_included _ (byte projection_byte projection_kinds) included

-- indexes
index : (ds : List KeyAttr) → Steady (read_index ds)
unfolding read_index
index ds =
    steady_both _ _ (name any_name)
    (λ x. steady_both _ _ u32 (λ f. steady_both _ _ (key ds) (λ h. steady_both _ _ (range ds)
    (λ r. steady_both _ _ projection (λ p. pure _)))))

-- the family of a stream
stream : (v : Option View) → Steady (read_stream v)
unfolding read_stream
stream None = pure None
stream (Some w) = steady_both _ _ u32 (λ f. pure (Some f))

-- heads
head : Steady read_description_head
unfolding read_description_head
head =
    steady_both _ _ (name any_name)
    (λ x. steady_both _ _ u64 (λ c. steady_both _ _ u64 (λ n. steady_both _ _ u32
    (λ f. steady_both _ _ (byte view_byte views) (λ v. steady_both _ _ (stream v) (λ s. pure _))))))

-- what stands on the definitions
keyed : (ds : List KeyAttr) → Steady (read_keyed ds)
unfolding read_keyed
keyed ds =
    steady_both _ _ (key ds) (λ h. steady_both _ _ (range ds)
    (λ r. steady_both _ _ (many (λ before. read_index ds) (λ before. index ds))
    (λ l. steady_both _ _ (many (λ before. read_index ds) (λ before. index ds)) (λ g. pure _))))

-- descriptions
description : Steady read_description
unfolding read_description
description = steady_both _ _ head
    (λ h. steady_both _ _ (many read_definition definition)
    (λ ds. steady_both _ _ (keyed ds) (λ k. pure _)))

-- ---- the place

-- one count
some_count : (m n : ℕ) → Some m ≡ Some n → m ≡ n
some_count m n e = cc

-- none isn't one
none_some : (n : ℕ) → None ≡ Some n → ⊥
none_some n e = cc

-- a list with a front isn't empty
not_nil : (b : ℕ) (rest : List ℕ) → b ∷ rest ≡ [] → ⊥
not_nil b rest e = cc

-- bytes with which a description begins are read as it
no_description : (bytes z : List ℕ) (s : TableSchema) → IsDescription s → IsHeld s
    → description_bytes s ≡ bytes ++ z → read_description (bytes ++ z) ≡ got (bare s) []
no_description bytes z s d h e =
    ap read_description (sym e ∙ sym (append-nil (description_bytes s))) ∙ description_read s [] d h

-- the length that is told behind a front
told_at : (bytes back : List ℕ) (at n : ℕ) → drop at bytes ≡ back
    → (n ≡ 1) ⊎ (n ≡ 8 + told_length back 0)
    → (n ≡ 1) ⊎ (n ≡ 8 + told_length bytes at)
told_at bytes back at n e (inl h) = inl h
told_at bytes back at n e (inr h) = inr (h ∙ ap (λ b. 8 + told_length b 0) (sym e))

-- a piece behind a front with which no description is read, whatever follows
none_at : (bytes front piece behind : List ℕ) (at : ℕ) → bytes ≡ front ++ (piece ++ behind)
    → length front ≡ at → (length piece ≡ 1) ⊎ (length piece ≡ 8 + told_length (piece ++ behind) 0)
    → ((z : List ℕ) (s : TableSchema) → read_description (front ++ (piece ++ z)) ≡ got s [] → ⊥)
    → NoFurther bytes at
none_at bytes front piece behind at e l whole none =
    let long : length (front ++ piece) ≡ at + length piece
    = omega (arith, l, length-append front piece) in
    let both : take (at + length piece) bytes ≡ front ++ piece
    = ap (take (at + length piece)) (e ∙ sym (append_assoc front piece behind))
    ∙ take_at (front ++ piece) behind (at + length piece) long in
    record {
      size = length piece;
      piece = told_at bytes (piece ++ behind) at (length piece)
          (ap (drop at) e ∙ drop_at front (piece ++ behind) at l) whole;
      within = omega (
        arith,
        l,
        ap length e,
        length-append front (piece ++ behind),
        length-append piece behind,
      );
      none = λ t z d h f.
          none z (bare t) (ap read_description (sym (append_assoc front piece z))
          ∙ no_description (front ++ piece) z t d h (f ∙ ap (λ m. m ++ z) both));
    }

-- the place is within the bytes, and where bytes stand there, the piece there is a wrong one
pub record FirstPlace (bytes : List ℕ) (at left : ℕ) : Type 0 where
  pub within : at + left ≡ length bytes
  pub no_further : at < length bytes → NoFurther bytes at

-- the place from what was read
first_from : (bytes : List ℕ) (at left : ℕ) (r : ReadOutcome TableSchema) → read_description bytes ≡ r
    → bytes_left_at_stop r ≡ Some left → at ≡ length bytes - left → FirstPlace bytes at left
first_from bytes at left (got s []) e l p = absurd (none_some left l)
first_from bytes at left (got s (b ∷ rest)) e l p =
    let g = description.gives bytes s (b ∷ rest) e in
    let n : suc (length rest) ≡ left = some_count _ _ l in
    let long = length-append g.piece (b ∷ rest) in
    record {
      within = omega (arith, p, n, ap length g.is, long);
      no_further = λ some.
          none_at bytes g.piece (b ∷ []) rest at g.is (omega (arith, p, n, ap length g.is, long))
          (inl refl)
          (λ z t f. not_nil b z (got_rest s t (b ∷ z) [] (sym (g.alone (b ∷ z)) ∙ f)));
    }
first_from bytes at left (stops m) e l p =
    let h = description.halts bytes m e in
    let n : m ≡ left = some_count m left l in
    let long = length-append h.front h.back in
    let inside : at + left ≡ length bytes = omega (arith, p, n, h.left, ap length h.is, long) in
    record {
      within = inside;
      no_further = λ some.
          let w = h.wrong (omega (arith, inside, n, some)) in
          none_at bytes h.front w.piece w.behind at (h.is ∙ ap (λ m. h.front ++ m) w.is)
          (omega (arith, inside, n, h.left, ap length h.is, long))
          (told_at (w.piece ++ w.behind) h.back 0 (length w.piece) (sym w.is) w.whole)
          (λ z t f. no_stop (length (w.piece ++ z)) t [] (sym (w.alone z) ∙ f));
    }

-- the place that is told
pub first_place : (bytes : List ℕ) (at : ℕ) (s : StopsAt bytes at) → FirstPlace bytes at s.0
first_place bytes at s = first_from bytes at s.0 (read_description bytes) refl s.1 s.2
