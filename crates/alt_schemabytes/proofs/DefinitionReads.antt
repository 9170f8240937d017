-- Definitions, keys and ranges are read from their bytes, and what is read as one has these bytes.
use Rattle.std.proofs.Common.{◌≡◌, refl, sym, ap, subst, ◌∙◌, ℕ, Bool, true, false, not, cond, ◌&&◌, ◌||◌, ◌==◌, if◌then◌else◌, List, [], ◌∷◌, ◌++◌, Option, Some, None, append_assoc}
use Rattle.std.specs.Cmp.Lexicographic.{nat_list_eq_equiv}
use Rattle.std.specs.List.{list_any, find}
use Rattle.std.specs.Option.{option_map_or}
use Rattle.std.specs.Str.{bytes_eq}
use Rattle.std.proofs.lemmas.Str.{is_utf8-from_IsUtf8}
use Rattle.std.proofs.lemmas.Bool.{not-true, true≢false}
use Rattle.std.specs.Cmp.{first_so, second_so}
use Rattle.alt_fields.specs.Field.{field}
use Rattle.alt_value.specs.declared.kind.KeyKind.{KeyKind}
use Rattle.alt_value.specs.declared.kind.KeyKind.TheVariants.{S, N, B}
use Rattle.alt_schema.specs.Described.{kind_in, key_attr, same_kind, is_one_of}
use Rattle.alt_schemabytes.specs.Format.{kind_byte, definition_bytes, range_bytes, truth_byte}
use Rattle.alt_schema.specs.Indexes.{of_range}
use Rattle.alt_schemabytes.specs.Held.{IsHeldText, Where}
use Rattle.alt_schemabytes.specs.Parts.{ReadOutcome, got, followed_by, read_name, read_byte, kinds, read_definition, read_key, truths, read_range}
use Rattle.alt_schema.specs.Rules.{is_defined, all_differ}
use Rattle.alt_schema.specs.declared.schema.KeyAttr.{KeyAttr}
use Rattle.alt_schema.proofs.NewDescriptions.{kind_found}
use Rattle.alt_schemabytes.proofs.Wholes.{Small, small_back, got_value, got_rest, both_got, name_got, name_read, byte_got, byte_read}
use Rattle.alt_schemabytes.proofs.WholeLists.{HasNewName}

-- what stands behind a piece is small too
pub behind : (piece mid bytes : List ℕ) → Small bytes → bytes ≡ piece ++ mid → Small mid
behind piece mid bytes small e = small_back piece mid (subst Small e small)

-- ---- definitions and keys

-- a definition that is read stands there, with a new name
pub definition_got : (before : List KeyAttr) (bytes : List ℕ) (d : KeyAttr) (rest : List ℕ)
    → Small bytes → read_definition before bytes ≡ got d rest
    → (bytes ≡ definition_bytes d ++ rest) × HasNewName before d
unfolding read_definition
definition_got before bytes d rest small e =
    let b = both_got (λ name r. followed_by (λ kind q. got (record { name = name; kind = kind }) q)
    (read_byte kind_byte kinds r))
    (read_name (λ name. not (is_defined before name)) bytes) d rest e in
    let n = name_got (λ name. not (is_defined before name)) bytes b.x b.mid small b.first in
    let c = both_got (λ kind q. got (record { name = b.x; kind = kind }) q)
    (read_byte kind_byte kinds b.mid) d rest b.second in
    let k = byte_got kind_byte kinds b.mid c.x c.mid c.first in
    let v : record { name = b.x; kind = c.x } ≡ d = got_value _ _ _ _ c.second in (
      n.0 ∙ ap (λ m. field b.x ++ m) k
          ∙ (λ j. field ((v j).name) ++ kind_byte ((v j).kind) ∷ got_rest _ _ _ _ c.second j)
          ∙ sym (append_assoc (field d.name) (kind_byte d.kind ∷ []) rest),
      ap (is_defined before) (sym (ap (λ (t : KeyAttr). t.name) v))
          ∙ not-true (is_defined before b.x) n.2,
    )

-- the byte of a kind is found
pub kind_find : (k : KeyKind) → find (λ y. kind_byte k == kind_byte y) kinds ≡ Some k
kind_find S = refl
kind_find N = refl
kind_find B = refl

-- a definition that stands there is read
pub definition_read : (before : List KeyAttr) (d : KeyAttr) (rest : List ℕ) → IsHeldText d.name
    × HasNewName before d
    → read_definition before (definition_bytes d ++ rest) ≡ got d rest
unfolding read_definition
definition_read before d rest h =
    let next : List ℕ → List ℕ → ReadOutcome KeyAttr =
    λ name r. followed_by (λ kind q. got (record { name = name; kind = kind }) q)
    (read_byte kind_byte kinds r) in
    ap (λ b. followed_by next (read_name (λ name. not (is_defined before name)) b))
    (append_assoc (field d.name) (kind_byte d.kind ∷ []) rest)
    ∙ ap (followed_by next) (name_read (λ name. not (is_defined before name)) d.name
    (kind_byte d.kind ∷ rest) h.0.0 (is_utf8-from_IsUtf8 d.name h.0.1) (ap not h.1))
    ∙ ap (followed_by (λ kind q. got (record { name = d.name; kind = kind }) q))
    (byte_read kind_byte kinds d.kind rest (kind_find d.kind))

-- a key that is read stands there, and is a defined one
pub key_got : (ds : List KeyAttr) (bytes : List ℕ) (k : KeyAttr) (rest : List ℕ) → Small bytes
    → read_key ds bytes ≡ got k rest
    → (bytes ≡ field k.name ++ rest) × (is_one_of ds k ≡ true)
unfolding read_key
key_got ds bytes k rest small e =
    let b = both_got (λ name r. got (key_attr ds name) r)
    (read_name (is_defined ds) bytes) k rest e in
    let n = name_got (is_defined ds) bytes b.x b.mid small b.first in
    let v : key_attr ds b.x ≡ k = got_value _ _ _ _ b.second in (
      n.0 ∙ (λ j. field ((v j).name) ++ got_rest _ _ _ _ b.second j),
      ap (is_one_of ds) (sym v)
          ∙ kind_found ds b.x n.2,
    )

-- a defined key attribute has a defined name
one_defined : (ds : List KeyAttr) (k : KeyAttr) → is_one_of ds k ≡ true → is_defined ds k.name
    ≡ true
one_defined [] k h = h
one_defined (d ∷ ds) k h =
    (elim (bytes_eq d.name k.name) as
    (λ b. ((b && same_kind d.kind k.kind) || is_one_of ds k) ≡ true
    → (b || is_defined ds k.name) ≡ true) [
      | true ↦ λ g. refl
      | false ↦ λ g. one_defined ds k g
    ]) h

same_kind-eq : (k l : KeyKind) → same_kind k l ≡ true → k ≡ l
same_kind-eq S S h = refl
same_kind-eq N N h = refl
same_kind-eq B B h = refl
same_kind-eq S N h = cc
same_kind-eq S B h = cc
same_kind-eq N S h = cc
same_kind-eq N B h = cc
same_kind-eq B S h = cc
same_kind-eq B N h = cc

-- where the second is false, the first is true
either_one : (a b : Bool) → (a || b) ≡ true → b ≡ false → a ≡ true
either_one true b h f = refl
either_one false b h f = absurd (true≢false (sym h ∙ f))

-- equal names are found alike
any_same : (ds : List KeyAttr) (x y : List ℕ) → bytes_eq x y ≡ true
    → list_any (λ d. bytes_eq d.name x) ds ≡ list_any (λ d. bytes_eq d.name y) ds
any_same [] x y e = refl
any_same (d ∷ ds) x y e =
    λ j. (nat_list_eq_equiv.symm d.name x ∙ nat_list_eq_equiv.congr x y d.name e
    ∙ nat_list_eq_equiv.symm y d.name) j || any_same ds x y e j

-- an undefined name is that of no defined key attribute
one_false : (ds : List KeyAttr) (k : KeyAttr) → is_defined ds k.name ≡ false → is_one_of ds k
    ≡ false
one_false ds k h =
    (elim (is_one_of ds k) as (λ b. is_one_of ds k ≡ b → b ≡ false) [
      | true ↦ λ t. absurd (true≢false (sym (one_defined ds k t) ∙ h))
      | false ↦ λ t. refl
    ]) refl

-- where no name is defined twice, a key that is one of those has the kind of its name
kind_same : (ds : List KeyAttr) (k : KeyAttr) → all_differ (λ d. d.name) ds ≡ true → is_one_of ds k
    ≡ true → kind_in ds k.name ≡ k.kind
kind_same [] k a h = cc
kind_same (d ∷ ds) k a h =
    (elim (bytes_eq d.name k.name) as
    (λ b. bytes_eq d.name k.name ≡ b → ((b && same_kind d.kind k.kind) || is_one_of ds k) ≡ true
    → option_map_or (λ e. e.kind) (cond b (Some d) (find (λ e. bytes_eq e.name k.name) ds)) S
    ≡ k.kind) [
      | true ↦ λ t g.
          let none : is_defined ds k.name ≡ false = sym (any_same ds d.name k.name t)
          ∙ not-true _ (first_so _ _ a) in
          same_kind-eq d.kind k.kind (either_one (same_kind d.kind k.kind) (is_one_of ds k) g
          (one_false ds k none))
      | false ↦ λ t g. kind_same ds k (second_so _ _ a) g
    ]) refl h

-- a defined key that stands there is read
pub key_read : (ds : List KeyAttr) (k : KeyAttr) (rest : List ℕ) → all_differ
    (λ d. d.name) ds ≡ true
    → is_one_of ds k ≡ true → IsHeldText k.name
    → read_key ds (field k.name ++ rest) ≡ got k rest
unfolding read_key
key_read ds k rest a h t =
    ap (followed_by (λ name r. got (key_attr ds name) r))
    (name_read (is_defined ds) k.name rest t.0 (is_utf8-from_IsUtf8 k.name t.1)
    (one_defined ds k h))
    ∙ (λ j. got (record { name = k.name; kind = kind_same ds k a h j }) rest)

-- the RANGE key that is read behind its byte
range_from : (ds : List KeyAttr) (there : Bool) (mid : List ℕ) (r : Option KeyAttr) (rest : List ℕ)
    → Small mid
    → (if there then followed_by (λ key q. got (Some key) q) (read_key ds mid) else got None mid)
    ≡ got r rest
    → (truth_byte there ∷ mid ≡ range_bytes r ++ rest) × (of_range (is_one_of ds) true r ≡ true)
range_from ds true mid r rest small e =
    let b = both_got (λ key q. got (Some key) q) (read_key ds mid) r rest e in
    let k = key_got ds mid b.x b.mid small b.first in
    let v : Some b.x ≡ r = got_value _ _ _ _ b.second in (
      ap (λ m. 1 ∷ m) k.0 ∙ (λ j. range_bytes (v j) ++ got_rest _ _ _ _ b.second j),
      ap
          (of_range (is_one_of ds) true) (sym v) ∙ k.1,
    )
range_from ds false mid r rest small e =
    let v : None ≡ r = got_value _ _ _ _ e in
    ((λ j. range_bytes (v j) ++ got_rest _ _ _ _ e j), ap (of_range (is_one_of ds) true) (sym v))

-- the RANGE key that is read stands there, and is a defined one
pub range_got : (ds : List KeyAttr) (bytes : List ℕ) (r : Option KeyAttr) (rest : List ℕ)
    → Small bytes → read_range ds bytes ≡ got r rest
    → (bytes ≡ range_bytes r ++ rest) × (of_range (is_one_of ds) true r ≡ true)
unfolding read_range
range_got ds bytes r rest small e =
    let b = both_got (λ there q. if there then followed_by (λ key p. got (Some key) p)
    (read_key ds q) else got None q) (read_byte truth_byte truths bytes) r rest e in
    let t = byte_got truth_byte truths bytes b.x b.mid b.first in
    let f = range_from ds b.x b.mid r rest
    (behind (truth_byte b.x ∷ []) b.mid bytes small t) b.second in
    (t ∙ f.0, f.1)

-- the RANGE key that stands there is read
pub range_read : (ds : List KeyAttr) (r : Option KeyAttr) (rest : List ℕ) → all_differ
    (λ d. d.name) ds
    ≡ true → of_range (is_one_of ds) true r ≡ true
    → Where (λ k. IsHeldText k.name) r → read_range ds (range_bytes r ++ rest) ≡ got r rest
unfolding read_range
range_read ds None rest a h t =
    ap (followed_by (λ there q. if there then followed_by (λ key p. got (Some key) p)
    (read_key ds q) else got None q)) (byte_read truth_byte truths false rest refl)
range_read ds (Some k) rest a h t =
    ap (followed_by (λ there q. if there then followed_by (λ key p. got (Some key) p)
    (read_key ds q) else got None q))
    (byte_read truth_byte truths true (field k.name ++ rest) refl)
    ∙ ap (followed_by (λ key p. got (Some key) p)) (key_read ds k rest a h t)
