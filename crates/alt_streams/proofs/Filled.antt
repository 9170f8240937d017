-- A page that is being filled: a record more, and the page of the changes that were read.
use Rattle.std.proofs.Common.{◌≡◌, refl, sym, ap, ◌∙◌, ℕ, ◌+◌, ◌-◌, ◌||◌, ◌==◌, true, false, nat_le, List, [], ◌∷◌, ◌++◌, length, map, sum_by, codes, arith, length-append}
use Rattle.std.proofs.lemmas.List.{map_push}
use Rattle.std.proofs.lemmas.List.Sums.{sum_by_push}
use Rattle.serde_json.specs.Data.{string, array, item, member, no_members}
use Rattle.serde_json.specs.View.{items_of}
use Rattle.alt_expr.specs.Pages.{page_bytes}
use Rattle.alt_machine.specs.Changes.{record_json, record_size}
use Rattle.alt_machine.specs.Ops.GetRecords.{records_fill_page, records_page, records_answer}
use Rattle.alt_machine.specs.State.{Change}
use Rattle.alt_machine.specs.Streams.{iterator_text}
use Rattle.alt_schema.specs.Json.{items_by}
use Rattle.alt_schema.specs.declared.schema.TableSchema.{TableSchema}
use Rattle.alt_schema.specs.declared.schema.View.{View}
use Rattle.alt_schema.proofs.Shown.{items_of-map}
use Rattle.alt_shape.specs.Objects.{object_json, objects_json}
use Rattle.alt_shape.specs.Refusals.{answered}
use Rattle.alt_shape.specs.declared.object.Object.{Object}
use Rattle.alt_streams.specs.private.Paged.{PageHasRecords, is_full, iterator_at, records_page_answer}
use Rattle.alt_streams.specs.declared.page.Page.{Page}
use Rattle.alt_streams.proofs.Prefixes.{first_push, page_full, page_whole}
use Rattle.alt_streams.proofs.Numbers.{past-append}

-- objects as JSON, one by one
objects_each : (os : List Object) → objects_json os ≡ items_of (map object_json os)
objects_each [] = refl
objects_each (o ∷ os) = ap (λ ds. item (object_json o) ds) (objects_each os)

-- nothing is left exactly where it was reached
none_left : (most count : ℕ) → (most - count == 0) ≡ nat_le most count
none_left most count = grind arith

module _ (d : TableSchema) (shows : View) (most from : ℕ) where
  abbrev size : Change → ℕ
  size = record_size d shows

  -- a page is full exactly where its records fill it
  pub full_is : (page : Page) (seen : List Change) → PageHasRecords d shows most from page seen
      → is_full page ≡ records_fill_page most size seen
  full_is page seen h = (λ i. (h.room i == 0) || (h.left i == 0))
      ∙ (λ i. none_left most (length seen) i || none_left page_bytes (sum_by size seen) i)

  -- a page without records
  pub begun : (page : Page) → page.records.items ≡ [] → page.room ≡ most
      → page.left ≡ page_bytes → page.next ≡ from → PageHasRecords d shows most from page []
  begun page records room left next = record {
    records = ap (map object_json) records;
    room = omega (arith, room);
    left = omega (arith, left);
    next = next;
    first = refl;
  }

  -- a record more
  pub put_on : (old new : Page) (seen : List Change) (c : Change) (one : Object)
      → PageHasRecords d shows most from old seen → is_full old ≡ false
      → new.records.items ≡ old.records.items ++ one ∷ [] → object_json one ≡ record_json d shows c
      → new.room ≡ old.room - 1 → new.left ≡ old.left - size c → new.next ≡ c.number + 1
      → PageHasRecords d shows most from new (seen ++ c ∷ [])
  put_on old new seen c one h going put is room left next =
      let count = length-append seen (c ∷ []) in
      let total = sum_by_push size seen c in
      let was_room = h.room in
      let was_left = h.left in
      record {
        records = ap (map object_json) put ∙ map_push object_json old.records.items one
            ∙ (λ i. h.records i ++ is i ∷ []) ∙ sym (map_push (record_json d shows) seen c);
        room = omega (arith, room, was_room, count);
        left = omega (arith, left, was_left, total);
        next = next ∙ sym (past-append (λ (x : Change). x.number) from seen (c ∷ []));
        first = first_push (records_fill_page most size) seen c h.first (sym (full_is old seen h) ∙ going);
      }

  -- the page of a list of which a front was read that fills it
  pub page_ended : (page : Page) (seen rest : List Change) → PageHasRecords d shows most from page seen
      → is_full page ≡ true → records_page most size (seen ++ rest) ≡ seen
  page_ended page seen rest h full =
      page_full (records_fill_page most size) seen rest h.first (sym (full_is page seen h) ∙ full)

  -- and of one that was read whole
  pub page_all : (page : Page) (seen : List Change) → PageHasRecords d shows most from page seen
      → records_page most size seen ≡ seen
  page_all page seen h = page_whole (records_fill_page most size) seen h.first

  -- the page is answered with its records
  pub page_records : (page : Page) (changes : List Change) → PageHasRecords d shows most from page changes
      → records_page_answer d page ≡ records_answer d (iterator_at d from) changes shows
  page_records page changes h =
      let items : objects_json page.records.items ≡ items_by (record_json d shows) changes =
      objects_each page.records.items ∙ ap items_of h.records
      ∙ items_of-map (record_json d shows) changes in
      (λ j. answered
      (member (codes "NextShardIterator") (string (iterator_text (iterator_at d (h.next j))))
      (member (codes "Records") (array (items j)) no_members)))
