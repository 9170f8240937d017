-- Replies without a float. A reply whose body has none is printed as its text, by `to_string` of
-- serde_json; so each operation shows it of its answer, member by member.
use Rattle.std.proofs.Common.{◌≡◌, ℕ, List, [], ◌∷◌, false, Ordering, Less, Equal, Greater, refl, nat_cmp}
use Rattle.std.proofs.lemmas.Bool.{or_from}
use Rattle.std.specs.Prelude.{◌||◌}
use Rattle.std.specs.Ordering.{match_ordering}
use Rattle.std.specs.Cmp.Lexicographic.{slice_cmp}
use Rattle.alt_base.proofs.Bools.{neither_first, neither_second}
use Rattle.serde_json.specs.Data.{Data, object, Items, item, Members, no_members, member, put}
use Rattle.serde_json.specs.Written.{has_float, items_have_float, members_have_float}
use Rattle.alt_codec.specs.Writing.{json_of_pairs}
use Rattle.alt_codec.proofs.Plain.{pairs_plain}
use Rattle.alt_shape.specs.Body.{items_json, members_json, part_json, tables_json}
use Rattle.alt_shape.specs.Objects.{entries_json, fields_json, inner_json, leaf_json, objects_json}
use Rattle.alt_shape.specs.declared.body.Member.{Member}
use Rattle.alt_shape.specs.declared.body.Part.{Part}
use Rattle.alt_shape.specs.declared.body.Part.TheVariants as part
use Rattle.alt_shape.specs.declared.body.TableItems.{TableItems}
use Rattle.alt_shape.specs.declared.object.Entry.{Entry}
use Rattle.alt_shape.specs.declared.object.Field.{Field}
use Rattle.alt_shape.specs.declared.object.Inner.{Inner}
use Rattle.alt_shape.specs.declared.object.Inner.TheVariants as inner
use Rattle.alt_shape.specs.declared.object.Leaf.{Leaf}
use Rattle.alt_shape.specs.declared.object.Leaf.TheVariants as leaf
use Rattle.alt_shape.specs.declared.object.Object.{Object}
use Rattle.alt_value.specs.Tree.{Pair}

-- an array with one more item
pub items_have_float-item : (d : Data) (ds : Items) → has_float d ≡ false → items_have_float ds
    ≡ false → items_have_float (item d ds) ≡ false
items_have_float-item d ds p q = or_from (has_float d) (items_have_float ds) p q

-- a member put before another, in its place or behind it
put_at : (o : Ordering) (k l : List ℕ) (d e : Data) (ms : Members) → has_float d ≡ false
    → (has_float e || members_have_float ms) ≡ false → members_have_float (put k d ms) ≡ false
    → members_have_float (match_ordering o (member k d (member l e ms)) (member l d ms)
    (member l e (put k d ms))) ≡ false
put_at Less k l d e ms p q r =
    or_from (has_float d) (has_float e || members_have_float ms) p q
put_at Equal k l d e ms p q r =
    or_from (has_float d) (members_have_float ms) p
    (neither_second (has_float e) (members_have_float ms) q)
put_at Greater k l d e ms p q r =
    or_from (has_float e) (members_have_float (put k d ms))
    (neither_first (has_float e) (members_have_float ms) q) r

-- an object with a member put into it
pub members_have_float-put : (k : List ℕ) (d : Data) (ms : Members) → has_float d ≡ false
    → members_have_float ms ≡ false → members_have_float (put k d ms) ≡ false
members_have_float-put k d no_members p q = or_from (has_float d) false p refl
members_have_float-put k d (member l e ms) p q =
    put_at (slice_cmp nat_cmp k l) k l d e ms p q
    (members_have_float-put k d ms p (neither_second (has_float e) (members_have_float ms) q))

-- ---- what a reply says by its members

-- the items of a list
pub items_plain : (items : List (List Pair)) → items_have_float (items_json items) ≡ false
items_plain [] = refl
items_plain (i ∷ items) = items_have_float-item (json_of_pairs i) (items_json items)
    (pairs_plain i) (items_plain items)

-- tables
pub tables_plain : (ts : List TableItems) → members_have_float (tables_json ts) ≡ false
tables_plain [] = refl
tables_plain (t ∷ ts) = or_from (items_have_float (items_json t.items.items))
    (members_have_float (tables_json ts)) (items_plain t.items.items) (tables_plain ts)

-- a plain value
leaf_plain : (l : Leaf) → has_float (leaf_json l) ≡ false
leaf_plain (leaf.Word w) = refl
leaf_plain (leaf.Text t) = refl
leaf_plain (leaf.Count n) = refl
leaf_plain (leaf.Item i) = pairs_plain i

-- fields
fields_plain : (fs : List Field) → members_have_float (fields_json fs) ≡ false
fields_plain [] = refl
fields_plain (f ∷ fs) = or_from (has_float (leaf_json f.value))
    (members_have_float (fields_json fs)) (leaf_plain f.value) (fields_plain fs)

-- what stands at an entry
inner_plain : (i : Inner) → has_float (inner_json i) ≡ false
inner_plain (inner.Leaf l) = leaf_plain l
inner_plain (inner.Fields fs) = fields_plain fs.items

-- entries
entries_plain : (es : List Entry) → members_have_float (entries_json es) ≡ false
entries_plain [] = refl
entries_plain (e ∷ es) = or_from (has_float (inner_json e.value))
    (members_have_float (entries_json es)) (inner_plain e.value) (entries_plain es)

-- the objects of a list
objects_plain : (os : List Object) → items_have_float (objects_json os) ≡ false
objects_plain [] = refl
objects_plain (o ∷ os) = items_have_float-item (object (entries_json o.entries.items))
    (objects_json os) (entries_plain o.entries.items) (objects_plain os)

-- the value of a member
part_plain : (p : Part) → has_float (part_json p) ≡ false
part_plain (part.Text text) = refl
part_plain (part.Owned text) = refl
part_plain (part.Count n) = refl
part_plain (part.Item i) = pairs_plain i
part_plain (part.Items is) = items_plain is.items
part_plain (part.Tables ts) = tables_plain ts.items
part_plain (part.Objects os) = objects_plain os.items

-- the members
pub members_plain : (ms : List Member) → members_have_float (members_json ms) ≡ false
members_plain [] = refl
members_plain (m ∷ ms) = or_from (has_float (part_json m.value))
    (members_have_float (members_json ms)) (part_plain m.value) (members_plain ms)
