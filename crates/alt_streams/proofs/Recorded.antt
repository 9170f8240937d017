-- The members of a record, put one behind another.
use Rattle.std.proofs.Common.{◌≡◌, refl, ap, ◌∙◌, ℕ, Bool, List, [], ◌∷◌, ◌++◌, Option, Some, None, codes, option_map}
use Rattle.serde_json.specs.Data.{Data, string, number, unsigned, object, Members, member, no_members}
use Rattle.alt_codec.specs.Writing.{json_of_pairs}
use Rattle.alt_machine.specs.Changes.{changed_json, changed_key, event_name, identity, image, record_json, record_size, shows_new, shows_old}
use Rattle.alt_machine.specs.State.{Change}
use Rattle.alt_schema.specs.Json.{label, member_if, view_word}
use Rattle.alt_schema.specs.declared.schema.TableSchema.{TableSchema}
use Rattle.alt_schema.specs.declared.schema.View.{View}
use Rattle.alt_shape.specs.Objects.{entries_json, fields_json, inner_json, leaf_json}
use Rattle.alt_shape.specs.declared.object.Entry.{Entry}
use Rattle.alt_shape.specs.declared.object.Field.{Field}
use Rattle.alt_streams.specs.private.Recorded.{behind}
use Rattle.alt_value.specs.Tree.{Pair}

-- entries behind others are those of the lists joined
pub entries_behind : (xs ys : List Entry)
    → entries_json (xs ++ ys) ≡ behind (entries_json xs) (entries_json ys)
entries_behind [] ys = refl
entries_behind (x ∷ xs) ys =
    ap (λ ms. member x.name.now (inner_json x.value) ms) (entries_behind xs ys)

-- and so with fields
pub fields_behind : (xs ys : List Field)
    → fields_json (xs ++ ys) ≡ behind (fields_json xs) (fields_json ys)
fields_behind [] ys = refl
fields_behind (x ∷ xs) ys =
    ap (λ ms. member x.name.now (leaf_json x.value) ms) (fields_behind xs ys)

-- nothing behind others changes nothing
pub nothing_behind : (ms : Members) → ms ≡ behind ms no_members
nothing_behind no_members = refl
nothing_behind (member name d ms) = ap (λ more. member name d more) (nothing_behind ms)

-- the members of what was changed, one behind another, with the images that are shown
pub changed_in_order : (moment key told size word : Data) (new old : Option Data)
    → behind (behind (behind (behind (behind (behind
    (member (codes "ApproximateCreationDateTime") moment no_members)
    (member (codes "Keys") key no_members))
    (member_if (codes "NewImage") new no_members))
    (member_if (codes "OldImage") old no_members))
    (member (codes "SequenceNumber") told no_members))
    (member (codes "SizeBytes") size no_members))
    (member (codes "StreamViewType") word no_members)
    ≡ member (codes "ApproximateCreationDateTime") moment
    (member (codes "Keys") key
    (member_if (codes "NewImage") new
    (member_if (codes "OldImage") old
    (member (codes "SequenceNumber") told
    (member (codes "SizeBytes") size
    (member (codes "StreamViewType") word no_members))))))
changed_in_order moment key told size word None None = refl
changed_in_order moment key told size word (Some n) None = refl
changed_in_order moment key told size word None (Some o) = refl
changed_in_order moment key told size word (Some n) (Some o) = refl

-- so the members that were put are those of what was changed
pub changed_members : (moment key told size word : Data) (new old : Option Data)
    (none one two three four five six seven : Members) → none ≡ no_members
    → one ≡ behind none (member (codes "ApproximateCreationDateTime") moment no_members)
    → two ≡ behind one (member (codes "Keys") key no_members)
    → three ≡ behind two (member_if (codes "NewImage") new no_members)
    → four ≡ behind three (member_if (codes "OldImage") old no_members)
    → five ≡ behind four (member (codes "SequenceNumber") told no_members)
    → six ≡ behind five (member (codes "SizeBytes") size no_members)
    → seven ≡ behind six (member (codes "StreamViewType") word no_members)
    → seven ≡ member (codes "ApproximateCreationDateTime") moment
    (member (codes "Keys") key
    (member_if (codes "NewImage") new
    (member_if (codes "OldImage") old
    (member (codes "SequenceNumber") told
    (member (codes "SizeBytes") size
    (member (codes "StreamViewType") word no_members))))))
changed_members moment key told size word new old none one two three four five six seven
    e0 e1 e2 e3 e4 e5 e6 e7 =
    e7 ∙ ap (λ ms. behind ms (member (codes "StreamViewType") word no_members))
    (e6 ∙ ap (λ ms. behind ms (member (codes "SizeBytes") size no_members))
    (e5 ∙ ap (λ ms. behind ms (member (codes "SequenceNumber") told no_members))
    (e4 ∙ ap (λ ms. behind ms (member_if (codes "OldImage") old no_members))
    (e3 ∙ ap (λ ms. behind ms (member_if (codes "NewImage") new no_members))
    (e2 ∙ ap (λ ms. behind ms (member (codes "Keys") key no_members))
    (e1 ∙ ap (λ ms. behind ms (member (codes "ApproximateCreationDateTime") moment no_members))
    e0))))))
    ∙ changed_in_order moment key told size word new old

-- and those of a record
pub record_members : (changed told name : Data) (by : Option Data)
    (none one two three four five six seven : Members) → none ≡ no_members
    → one ≡ behind none (member (codes "awsRegion") (string (codes "local")) no_members)
    → two ≡ behind one (member (codes "dynamodb") changed no_members)
    → three ≡ behind two (member (codes "eventID") told no_members)
    → four ≡ behind three (member (codes "eventName") name no_members)
    → five ≡ behind four (member (codes "eventSource") (string (codes "aws:dynamodb")) no_members)
    → six ≡ behind five (member (codes "eventVersion") (string (codes "1.1")) no_members)
    → seven ≡ behind six (member_if (codes "userIdentity") by no_members)
    → seven ≡ member (codes "awsRegion") (string (codes "local"))
    (member (codes "dynamodb") changed
    (member (codes "eventID") told
    (member (codes "eventName") name
    (member (codes "eventSource") (string (codes "aws:dynamodb"))
    (member (codes "eventVersion") (string (codes "1.1"))
    (member_if (codes "userIdentity") by no_members))))))
record_members changed told name by none one two three four five six seven
    e0 e1 e2 e3 e4 e5 e6 e7 =
    e7 ∙ ap (λ ms. behind ms (member_if (codes "userIdentity") by no_members))
    (e6 ∙ ap (λ ms. behind ms (member (codes "eventVersion") (string (codes "1.1")) no_members))
    (e5 ∙ ap (λ ms. behind ms
    (member (codes "eventSource") (string (codes "aws:dynamodb")) no_members))
    (e4 ∙ ap (λ ms. behind ms (member (codes "eventName") name no_members))
    (e3 ∙ ap (λ ms. behind ms (member (codes "eventID") told no_members))
    (e2 ∙ ap (λ ms. behind ms (member (codes "dynamodb") changed no_members))
    (e1 ∙ ap (λ ms. behind ms (member (codes "awsRegion") (string (codes "local")) no_members))
    e0))))))

-- ---- what the machine shows

module _ (d : TableSchema) (shows : View) (c : Change) where
  -- what was changed, of the key, the label, the word and the size of a change
  pub changed_is : (key : List Pair) (told word : List ℕ) (size : ℕ) (new old : Bool)
      → key ≡ changed_key d c → told ≡ label c.number → word ≡ view_word shows
      → size ≡ record_size d shows c → new ≡ shows_new shows → old ≡ shows_old shows
      → object (member (codes "ApproximateCreationDateTime") (number (unsigned c.moment))
      (member (codes "Keys") (json_of_pairs key)
      (member_if (codes "NewImage") (option_map json_of_pairs (image new c.new))
      (member_if (codes "OldImage") (option_map json_of_pairs (image old c.old))
      (member (codes "SequenceNumber") (string told)
      (member (codes "SizeBytes") (number (unsigned size))
      (member (codes "StreamViewType") (string word) no_members)))))))
      ≡ changed_json d shows c
  changed_is key told word size new old is_key is_told is_word is_size is_new is_old =
      λ i. object (member (codes "ApproximateCreationDateTime") (number (unsigned c.moment))
      (member (codes "Keys") (json_of_pairs (is_key i))
      (member_if (codes "NewImage") (option_map json_of_pairs (image (is_new i) c.new))
      (member_if (codes "OldImage") (option_map json_of_pairs (image (is_old i) c.old))
      (member (codes "SequenceNumber") (string (is_told i))
      (member (codes "SizeBytes") (number (unsigned (is_size i)))
      (member (codes "StreamViewType") (string (is_word i)) no_members)))))))

  -- and the record
  pub record_is : (changed : Data) (told name : List ℕ) → changed ≡ changed_json d shows c
      → told ≡ label c.number → name ≡ event_name c
      → object (member (codes "awsRegion") (string (codes "local"))
      (member (codes "dynamodb") changed
      (member (codes "eventID") (string told)
      (member (codes "eventName") (string name)
      (member (codes "eventSource") (string (codes "aws:dynamodb"))
      (member (codes "eventVersion") (string (codes "1.1"))
      (member_if (codes "userIdentity") (identity c.by) no_members)))))))
      ≡ record_json d shows c
  record_is changed told name is_changed is_told is_name =
      λ i. object (member (codes "awsRegion") (string (codes "local"))
      (member (codes "dynamodb") (is_changed i)
      (member (codes "eventID") (string (is_told i))
      (member (codes "eventName") (string (is_name i))
      (member (codes "eventSource") (string (codes "aws:dynamodb"))
      (member (codes "eventVersion") (string (codes "1.1"))
      (member_if (codes "userIdentity") (identity c.by) no_members)))))))
