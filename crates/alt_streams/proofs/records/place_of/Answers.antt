-- The body, its iterator and the stream are read one after another.
use Rattle.std.proofs.Common.{◌≡◌, refl, sym, ap, ◌∙◌, ℕ, List}
use Rattle.serde_json.specs.View.{members_view}
use Rattle.alt_machine.specs.Streams.{iterator_of}
use Rattle.alt_machine.specs.Trimming.{is_trimmed}
use Rattle.alt_request.specs.TablesOpeningTrimmed.{number_at}
use Rattle.alt_request.specs.TablesOpeningDeclaredTrimmed.{Trimmed}
use Rattle.alt_streams.proofs.Placing.{place_broken, place_unread, place_missed, place_found, place_trimmed}
use Rattle.alt_streams.proofs.records.place_of.Goals as goal
use Rattle.alt_request.specs.TablesStands.{catalog_of, trimmed_of}

pub returns-in-Some : goal.returns-in-Some
returns-in-Some c = record {
  place = place_broken (catalog_of c.args.tables.now)
      (trimmed_of c.args.tables.now) (members_view c.args.body.now.entries)
      c.in-Some.broken c.in-Some.ensures _ c.from.ensures;
}

pub returns-in_default-iterator_of : goal.returns-in_default-iterator_of
returns-in_default-iterator_of c = record {
  place = place_unread (catalog_of c.args.tables.now)
      (trimmed_of c.args.tables.now) (members_view c.args.body.now.entries)
      c.in_default.ensures (ap iterator_of (sym c.iterator_in.ensures)
      ∙ sym c.in_default-iterator_of.ensures.iterator);
}

-- what is known of the table is what the test looked at
told : (known : List Trimmed) (from number : ℕ) (text name : List ℕ) → number ≡ number_at text known
    → text ≡ name → is_trimmed number from ≡ is_trimmed (number_at name known) from
told known from number text name is same = ap (λ n. is_trimmed n from)
    (is ∙ ap (λ q. number_at q known) same)

pub returns-then-is_trimmed : goal.returns-then-is_trimmed
returns-then-is_trimmed c = record {
  place = place_trimmed (catalog_of c.args.tables.now)
      (trimmed_of c.args.tables.now) (members_view c.args.body.now.entries)
      c.in_default.ensures
      (record { arn = c.in-Some-iterator_of.arn.now; from = c.in-Some-iterator_of.from })
      (ap iterator_of (sym c.iterator_in.ensures) ∙ sym c.in-Some-iterator_of.ensures.iterator)
      c.in-Ok.table c.in-Ok.ensures.found
      (sym (told (trimmed_of c.args.tables.now) c.in-Some-iterator_of.from c.trimmed.result
      c.as_str.result.now c.in-Ok.table c.trimmed.ensures.trimmed c.as_str.ensures.same)
      ∙ sym c.is_trimmed.ensures ∙ c.if-is_trimmed.true);
}

pub returns : goal.returns
returns c = record {
  place = place_found (catalog_of c.args.tables.now)
      (trimmed_of c.args.tables.now) (members_view c.args.body.now.entries)
      c.in_default.ensures
      (record { arn = c.in-Some-iterator_of.arn.now; from = c.in-Some-iterator_of.from })
      (ap iterator_of (sym c.iterator_in.ensures) ∙ sym c.in-Some-iterator_of.ensures.iterator)
      _ refl c.in-Ok.ensures.found
      (sym (told (trimmed_of c.args.tables.now) c.in-Some-iterator_of.from c.trimmed.result
      c.as_str.result.now c.in-Ok.table c.trimmed.ensures.trimmed c.as_str.ensures.same)
      ∙ sym c.is_trimmed.ensures ∙ c.if-is_trimmed.false);
}

pub returns-in-Err : goal.returns-in-Err
returns-in-Err c = record {
  place = place_missed (catalog_of c.args.tables.now)
      (trimmed_of c.args.tables.now) (members_view c.args.body.now.entries)
      c.in_default.ensures
      (record { arn = c.in-Some-iterator_of.arn.now; from = c.in-Some-iterator_of.from })
      (ap iterator_of (sym c.iterator_in.ensures) ∙ sym c.in-Some-iterator_of.ensures.iterator)
      c.in-Err.stop c.in-Err.ensures.found;
}
