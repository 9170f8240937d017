-- Two bodies with the same members come to the same, for the operations that answer pages: Query and Scan.
use Rattle.std.proofs.Common.{◌≡◌, refl, ap, ◌∙◌, ℕ, List, true, Option, Some, None}
use Rattle.std.specs.Prelude.{codes, option_and_then}
use Rattle.std.specs.List.{position}
use Rattle.serde_json.specs.Data.{Members}
use Rattle.serde_json.specs.Find.{as_str}
use Rattle.alt_expr.specs.Given.{Given}
use Rattle.alt_expr.specs.Pages.{Page, page_of, passes}
use Rattle.alt_machine.specs.declared.Expressions.{Expressions}
use Rattle.alt_machine.specs.Expressions.{given_at, texts_say, expressions, querying, scanning}
use Rattle.alt_machine.specs.Lists.{last_examined, listed, page_answer, page_asked, pages, shown_items, start_given, walk_start}
use Rattle.alt_machine.specs.Members.{table_at}
use Rattle.alt_machine.specs.Older.{older_said}
use Rattle.alt_machine.specs.Ops.Query as queries
use Rattle.alt_machine.specs.Ops.Scan as scans
use Rattle.alt_machine.specs.Outcomes.{says, unless_refused, with_found}
use Rattle.alt_machine.specs.Refusals.{or_refused, ◌>>=◌}
use Rattle.alt_machine.specs.Sources.{hash_of, if_readable, index_asked, index_at, index_named}
use Rattle.alt_schema.specs.Indexes.{indexes, is_read_as}
use Rattle.alt_schema.specs.declared.schema.IndexSchema.{IndexSchema}
use Rattle.alt_schema.specs.declared.schema.TableSchema.{TableSchema}
use Rattle.alt_shape.specs.Refusals.{no_such_index}
use Rattle.alt_value.specs.Tree.{Pair}
use Rattle.alt_machine.specs.Ops.Query.{query}
use Rattle.alt_machine.specs.Ops.Scan.{scan}
use Rattle.alt_machine.specs.State.{State, Table}
use Rattle.alt_machine.specs.declared.Operation.TheVariants.{Query, Scan}
use Rattle.alt_named.specs.Named.{AreSame, is_among}
use Rattle.alt_shape.specs.Bodies as bodies
use Rattle.alt_shape.specs.Shape.{given, natural_of, unless_null}
use Rattle.alt_members.specs.Heeded.{heeded}

-- what is given at a name that is heeded
pub same : (names : List (List ℕ)) (ms bs : Members) → AreSame names ms bs → (name : List ℕ)
    → is_among names name ≡ true → given name ms ≡ given name bs
same names ms bs h name named = ap unless_null (h name named)

module _ (s : State) (moment : ℕ) (ms bs : Members) where
  -- Query reads its members in the list that it finds
  module _ (h : AreSame (heeded Query) ms bs) where
    query_at : (name : List ℕ) → is_among (heeded Query) name ≡ true
        → given name ms ≡ given name bs
    query_at = same (heeded Query) ms bs h

    query_body : queries.of_body ms ≡ queries.of_body bs
    unfolding bodies.query
    query_body =
        rw (
          query_at (codes "TableName") refl,
          query_at (codes "IndexName") refl,
          query_at (codes "KeyConditionExpression") refl,
          query_at (codes "FilterExpression") refl,
          query_at (codes "ProjectionExpression") refl,
          query_at (codes "ExpressionAttributeNames") refl,
          query_at (codes "ExpressionAttributeValues") refl,
          query_at (codes "Limit") refl,
          query_at (codes "ScanIndexForward") refl,
          query_at (codes "ExclusiveStartKey") refl,
          query_at (codes "ConsistentRead") refl,
          query_at (codes "Select") refl,
          query_at (codes "KeyConditions") refl,
          query_at (codes "QueryFilter") refl,
          query_at (codes "ConditionalOperator") refl,
          query_at (codes "AttributesToGet") refl,
        ) refl

    query_given : given_at querying ms ≡ given_at querying bs
    unfolding given_at
    query_given =
        rw (
          query_at (codes "ExpressionAttributeNames") refl,
          query_at (codes "ExpressionAttributeValues") refl,
        ) refl

    query_start : start_given querying ms ≡ start_given querying bs
    query_start =
        rw (
          query_at (codes "ExclusiveStartKey") refl,
          query_at (codes "KeyConditions") refl,
          query_at (codes "QueryFilter") refl,
        ) refl

    query_table : table_at s ms ≡ table_at s bs
    query_table = rw (query_at (codes "TableName") refl) refl

    query_readable : (d : TableSchema) (number : ℕ)
        → if_readable d ms number ≡ if_readable d bs number
    query_readable d number =
        rw (
          query_at (codes "ConsistentRead") refl,
          query_at (codes "Select") refl,
        ) refl

    query_named : (d : TableSchema) (name : Option (List ℕ))
        → index_named d ms name ≡ index_named d bs name
    query_named d None = refl
    query_named d (Some name) = λ i.
        or_refused no_such_index (position (is_read_as name) (indexes d))
        >>= (λ number. query_readable d number i)

    query_index : (d : TableSchema) → index_asked d ms ≡ index_asked d bs
    query_index d = query_named d (option_and_then as_str (given (codes "IndexName") ms))
        ∙ ap (λ o. index_named d bs (option_and_then as_str o)) (query_at (codes "IndexName") refl)

    query_said : (d : TableSchema) (g : Given)
        → expressions querying d ms g ≡ expressions querying d bs g
    unfolding expressions texts_say older_said
    query_said d g =
        rw (
          query_at (codes "KeyConditionExpression") refl,
          query_at (codes "FilterExpression") refl,
          query_at (codes "ProjectionExpression") refl,
          query_at (codes "ExpressionAttributeNames") refl,
          query_at (codes "KeyConditions") refl,
          query_at (codes "QueryFilter") refl,
          query_at (codes "ConditionalOperator") refl,
          query_at (codes "AttributesToGet") refl,
        ) refl

    query_limit : option_and_then natural_of (given (codes "Limit") ms)
        ≡ option_and_then natural_of (given (codes "Limit") bs)
    query_limit = ap (option_and_then natural_of) (query_at (codes "Limit") refl)

    query_asked : (said : Expressions) → page_asked ms said ≡ page_asked bs said
    query_asked said = λ i. record {
      limit = query_limit i;
      condition = said.condition;
      paths = said.projection;
    }

    query_shown : (items : List (List Pair)) → shown_items ms items ≡ shown_items bs items
    query_shown items = rw (query_at (codes "Select") refl) refl

    query_answer : (d : TableSchema) (i : Option IndexSchema) (page : Page)
        (last : Option (List Pair)) → page_answer d i ms page last ≡ page_answer d i bs page last
    query_answer d i page last = rw (query_shown page.items) refl

    query_pages : (d : TableSchema) (i : Option IndexSchema) (said : Expressions)
        (items : List (List Pair)) → pages d i ms said items ≡ pages d i bs said items
    query_pages d i said items = λ j. says (query_answer d i (page_of (query_asked said j) items)
        (last_examined (query_asked said j) items) j)

    query_forward : queries.goes_forward ms ≡ queries.goes_forward bs
    query_forward = rw (query_at (codes "ScanIndexForward") refl) refl

    query_goes : (said : Expressions) (start : Option (List Pair)) (t : Table) (index : Option ℕ)
        → queries.queries ms said start t index ≡ queries.queries bs said start t index
    query_goes said start t index = λ j.
        let i = index_at t.description index in
        with_found (queries.key_asked t.description i said.key_condition) (λ ask.
        with_found (walk_start t.description i (Some ask.hash) start) (λ place.
        query_pages t.description i said
        (listed (query_forward j) place (passes said.key_condition) t i) j))

    pub query_heeds : query s ms ≡ query s bs
    unfolding query
    query_heeds = λ i. unless_refused (query_body i)
        (with_found (query_given i) (λ g.
        with_found (query_start i) (λ start.
        with_found (query_table i) (λ t.
        with_found (query_index t.description i) (λ index.
        with_found (query_said t.description g i) (λ said. query_goes said start t index i))))))

  -- Scan reads its members in the list that it finds
  module _ (h : AreSame (heeded Scan) ms bs) where
    scan_at : (name : List ℕ) → is_among (heeded Scan) name ≡ true
        → given name ms ≡ given name bs
    scan_at = same (heeded Scan) ms bs h

    scan_body : scans.of_body ms ≡ scans.of_body bs
    unfolding bodies.scan
    scan_body =
        rw (
          scan_at (codes "TableName") refl,
          scan_at (codes "IndexName") refl,
          scan_at (codes "FilterExpression") refl,
          scan_at (codes "ProjectionExpression") refl,
          scan_at (codes "ExpressionAttributeNames") refl,
          scan_at (codes "ExpressionAttributeValues") refl,
          scan_at (codes "Limit") refl,
          scan_at (codes "ExclusiveStartKey") refl,
          scan_at (codes "ConsistentRead") refl,
          scan_at (codes "Select") refl,
          scan_at (codes "Segment") refl,
          scan_at (codes "TotalSegments") refl,
          scan_at (codes "ScanFilter") refl,
          scan_at (codes "ConditionalOperator") refl,
          scan_at (codes "AttributesToGet") refl,
        ) refl

    scan_given : given_at scanning ms ≡ given_at scanning bs
    unfolding given_at
    scan_given =
        rw (
          scan_at (codes "ExpressionAttributeNames") refl,
          scan_at (codes "ExpressionAttributeValues") refl,
        ) refl

    scan_start : start_given scanning ms ≡ start_given scanning bs
    scan_start =
        rw (
          scan_at (codes "ExclusiveStartKey") refl,
          scan_at (codes "ScanFilter") refl,
        ) refl

    scan_table : table_at s ms ≡ table_at s bs
    scan_table = rw (scan_at (codes "TableName") refl) refl

    scan_readable : (d : TableSchema) (number : ℕ)
        → if_readable d ms number ≡ if_readable d bs number
    scan_readable d number =
        rw (
          scan_at (codes "ConsistentRead") refl,
          scan_at (codes "Select") refl,
        ) refl

    scan_named : (d : TableSchema) (name : Option (List ℕ))
        → index_named d ms name ≡ index_named d bs name
    scan_named d None = refl
    scan_named d (Some name) = λ i.
        or_refused no_such_index (position (is_read_as name) (indexes d))
        >>= (λ number. scan_readable d number i)

    scan_index : (d : TableSchema) → index_asked d ms ≡ index_asked d bs
    scan_index d = scan_named d (option_and_then as_str (given (codes "IndexName") ms))
        ∙ ap (λ o. index_named d bs (option_and_then as_str o)) (scan_at (codes "IndexName") refl)

    scan_said : (d : TableSchema) (g : Given)
        → expressions scanning d ms g ≡ expressions scanning d bs g
    unfolding expressions texts_say older_said
    scan_said d g =
        rw (
          scan_at (codes "FilterExpression") refl,
          scan_at (codes "ProjectionExpression") refl,
          scan_at (codes "ExpressionAttributeNames") refl,
          scan_at (codes "ScanFilter") refl,
          scan_at (codes "ConditionalOperator") refl,
          scan_at (codes "AttributesToGet") refl,
        ) refl

    scan_limit : option_and_then natural_of (given (codes "Limit") ms)
        ≡ option_and_then natural_of (given (codes "Limit") bs)
    scan_limit = ap (option_and_then natural_of) (scan_at (codes "Limit") refl)

    scan_asked : (said : Expressions) → page_asked ms said ≡ page_asked bs said
    scan_asked said = λ i. record {
      limit = scan_limit i;
      condition = said.condition;
      paths = said.projection;
    }

    scan_shown : (items : List (List Pair)) → shown_items ms items ≡ shown_items bs items
    scan_shown items = rw (scan_at (codes "Select") refl) refl

    scan_answer : (d : TableSchema) (i : Option IndexSchema) (page : Page)
        (last : Option (List Pair)) → page_answer d i ms page last ≡ page_answer d i bs page last
    scan_answer d i page last = rw (scan_shown page.items) refl

    scan_pages : (d : TableSchema) (i : Option IndexSchema) (said : Expressions)
        (items : List (List Pair)) → pages d i ms said items ≡ pages d i bs said items
    scan_pages d i said items = λ j. says (scan_answer d i (page_of (scan_asked said j) items)
        (last_examined (scan_asked said j) items) j)

    scan_segment : scans.segment_of ms ≡ scans.segment_of bs
    scan_segment =
        rw (
          scan_at (codes "Segment") refl,
          scan_at (codes "TotalSegments") refl,
        ) refl

    scan_goes : (said : Expressions) (start : Option (List Pair)) (t : Table) (index : Option ℕ)
        → scans.scans ms said start t index ≡ scans.scans bs said start t index
    scan_goes said start t index = λ j.
        let i = index_at t.description index in
        with_found (walk_start t.description i None start) (λ place.
        scan_pages t.description i said
        (listed true place (scans.is_in (hash_of t.description i) (scan_segment j)) t i) j)

    pub scan_heeds : scan s ms ≡ scan s bs
    unfolding scan
    scan_heeds = λ i. unless_refused (scan_body i)
        (with_found (scan_given i) (λ g.
        with_found (scan_start i) (λ start.
        with_found (scan_table i) (λ t.
        with_found (scan_index t.description i) (λ index.
        with_found (scan_said t.description g i) (λ said. scan_goes said start t index i))))))
