-- What is asked of keys: members that are put one behind the other stand in the order of their names, and none of them has a float.
use Rattle.std.proofs.Common.{◌≡◌, refl, ap, ◌∙◌, ◌||◌, ℕ, Bool, false, List, Option, Some, None}
use Rattle.std.specs.Prelude.{codes, option_map, option_and_then}
use Rattle.std.specs.Option.{option_map_or}
use Rattle.serde_json.specs.Data.{Data, Items, Members, no_members, member, array, boolean, object, string, put}
use Rattle.serde_json.specs.Find.{as_bool, as_str}
use Rattle.serde_json.specs.Written.{has_float, items_have_float, members_have_float}
use Rattle.alt_machine.specs.Expressions.{names_member}
use Rattle.alt_machine.specs.Ops.BatchGetItem.{attributes_member, keys_object}
use Rattle.alt_ops_batch.specs.private.Names.{ArePlain}
use Rattle.alt_schema.specs.Json.{member_if, put_member_if}
use Rattle.alt_shape.specs.Shape.{given}

-- ---- their order

-- they are put in this order, and so they stand
ordered : (a : Option Items) (t : Option Bool) (n : Option Members) (p : Option (List ℕ)) (keys : Data)
    → put_member_if (codes "ProjectionExpression") (option_map (λ text. string text) p)
    (put (codes "Keys") keys
    (put_member_if (codes "ExpressionAttributeNames") (option_map (λ names. object names) n)
    (put_member_if (codes "ConsistentRead") (option_map (λ b. boolean b) t)
    (put_member_if (codes "AttributesToGet") (option_map (λ names. array names) a) no_members))))
    ≡ member_if (codes "AttributesToGet") (option_map (λ names. array names) a)
    (member_if (codes "ConsistentRead") (option_map (λ b. boolean b) t)
    (member_if (codes "ExpressionAttributeNames") (option_map (λ names. object names) n)
    (member (codes "Keys") keys
    (member_if (codes "ProjectionExpression") (option_map (λ text. string text) p) no_members))))
ordered None None None None keys = refl
ordered None None None (Some text) keys = refl
ordered None None (Some names) None keys = refl
ordered None None (Some names) (Some text) keys = refl
ordered None (Some b) None None keys = refl
ordered None (Some b) None (Some text) keys = refl
ordered None (Some b) (Some names) None keys = refl
ordered None (Some b) (Some names) (Some text) keys = refl
ordered (Some ds) None None None keys = refl
ordered (Some ds) None None (Some text) keys = refl
ordered (Some ds) None (Some names) None keys = refl
ordered (Some ds) None (Some names) (Some text) keys = refl
ordered (Some ds) (Some b) None None keys = refl
ordered (Some ds) (Some b) None (Some text) keys = refl
ordered (Some ds) (Some b) (Some names) None keys = refl
ordered (Some ds) (Some b) (Some names) (Some text) keys = refl

-- so the object is that of the keys
pub asked : (ms : Members) (keys : Data) (none with_names with_truth with_words with_keys all : Members)
    → none ≡ no_members
    → with_names ≡ put_member_if (codes "AttributesToGet") (option_map (λ names. array names)
    (attributes_member ms)) none
    → with_truth ≡ put_member_if (codes "ConsistentRead") (option_map (λ b. boolean b)
    (option_and_then as_bool (given (codes "ConsistentRead") ms))) with_names
    → with_words ≡ put_member_if (codes "ExpressionAttributeNames") (option_map (λ names. object names)
    (names_member ms)) with_truth
    → with_keys ≡ put (codes "Keys") keys with_words
    → all ≡ put_member_if (codes "ProjectionExpression") (option_map (λ text. string text)
    (option_and_then as_str (given (codes "ProjectionExpression") ms))) with_keys
    → object all ≡ keys_object ms keys
asked ms keys none with_names with_truth with_words with_keys all e f g h i j =
    let a = attributes_member ms in
    let t = option_and_then as_bool (given (codes "ConsistentRead") ms) in
    let n = names_member ms in
    let p = option_and_then as_str (given (codes "ProjectionExpression") ms) in
    ap object (j
    ∙ ap (put_member_if (codes "ProjectionExpression") (option_map (λ text. string text) p)) (i
    ∙ ap (put (codes "Keys") keys) (h
    ∙ ap (put_member_if (codes "ExpressionAttributeNames") (option_map (λ names. object names) n)) (g
    ∙ ap (put_member_if (codes "ConsistentRead") (option_map (λ b. boolean b) t)) (f
    ∙ ap (put_member_if (codes "AttributesToGet") (option_map (λ names. array names) a)) e))))
    ∙ ordered a t n p keys)

-- ---- no float

-- a member that may be there adds none
if_plain : (name : List ℕ) (o : Option Data) (ms : Members) → option_map_or has_float o false ≡ false
    → members_have_float ms ≡ false → members_have_float (member_if name o ms) ≡ false
if_plain name None ms plain rest = rest
if_plain name (Some d) ms plain rest = λ i. plain i || rest i

names_plain : (a : Option Items) → option_map_or items_have_float a false ≡ false
    → option_map_or has_float (option_map (λ names. array names) a) false ≡ false
names_plain None plain = refl
names_plain (Some ds) plain = plain

truth_plain : (t : Option Bool) → option_map_or has_float (option_map (λ b. boolean b) t) false ≡ false
truth_plain None = refl
truth_plain (Some b) = refl

words_plain : (n : Option Members) → option_map_or members_have_float n false ≡ false
    → option_map_or has_float (option_map (λ names. object names) n) false ≡ false
words_plain None plain = refl
words_plain (Some names) plain = plain

text_plain : (p : Option (List ℕ)) → option_map_or has_float (option_map (λ text. string text) p) false ≡ false
text_plain None = refl
text_plain (Some text) = refl

pub plain : (ms : Members) (keys : Data) → ArePlain ms → has_float keys ≡ false
    → has_float (keys_object ms keys) ≡ false
plain ms keys are key_plain =
    let a = option_map (λ names. array names) (attributes_member ms) in
    let t = option_and_then as_bool (given (codes "ConsistentRead") ms) in
    let n = option_map (λ names. object names) (names_member ms) in
    let p = option_and_then as_str (given (codes "ProjectionExpression") ms) in
    let shown : Members = member_if (codes "ProjectionExpression") (option_map (λ text. string text) p)
    no_members in
    let named : Members = member_if (codes "ExpressionAttributeNames") n (member (codes "Keys") keys shown) in
    let truly : Members = member_if (codes "ConsistentRead") (option_map (λ b. boolean b) t) named in
    if_plain (codes "AttributesToGet") a truly (names_plain (attributes_member ms) are.attributes)
    (if_plain (codes "ConsistentRead") (option_map (λ b. boolean b) t) named (truth_plain t)
    (if_plain (codes "ExpressionAttributeNames") n (member (codes "Keys") keys shown)
    (words_plain (names_member ms) are.names)
    (λ i. key_plain i || if_plain (codes "ProjectionExpression") (option_map (λ text. string text) p)
    no_members (text_plain p) refl i)))
