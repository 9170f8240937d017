-- A stream more; at the end the page is full or nothing is left.
use Rattle.std.proofs.Common.{◌≡◌, ap, ◌∙◌, ◌++◌, ◌∷◌, [], ◌+◌, List, ℕ, Option, length, map, option_map, arith, Bor}
use Rattle.std.proofs.lemmas.List.{length-append, length-map, map-append}
use Rattle.alt_schema.specs.declared.schema.TableSchema.{TableSchema}
use Rattle.alt_streams.specs.private.Listed.{streams_after}
use Rattle.alt_streams.proofs.Ending.{Ends, is_full, is_last, page_taken, page_more, taken_more}
use Rattle.alt_streams.proofs.Following.{streams_next, streams_none, streams_first}
use Rattle.alt_streams.proofs.list.page_after.Goals as goal
use Rattle.alt_streams.proofs.list.page_after.Goals.{else-loop-test, then-loop-test+in_default}
use Rattle.alt_request.specs.TablesStands.{catalog_of}

pub loop-preserved : goal.loop-preserved
loop-preserved c =
    let name : Option (List ℕ) = option_map (λ w. w.now) c.args.name in
    let is = c.in_ok-push.ensures.items in (
      c.as_str-last.utf8,
      ap length is ∙ length-append c.loop.schemas.items (c.in-Some.schema ∷ [])
          ∙ ap (λ n. n + 1) c.loop.invariant.1,
      λ named. ap (λ (k : List ℕ). map (λ d. d.now) c.push.new.self.items
          ++ streams_after k name (catalog_of c.args.tables.now)) c.as_str-last.ensures.same
          ∙ taken_more c.in-Some.schema.now (map (λ d. d.now) c.loop.schemas.items)
          (map (λ d. d.now) c.push.new.self.items)
          (streams_after c.loop.last.now name (catalog_of c.args.tables.now))
          (streams_after c.in-Some.schema.now.name name (catalog_of c.args.tables.now))
          (streams_after c.args.start.now name (catalog_of c.args.tables.now))
          (streams_next (catalog_of c.args.tables.now) named c.loop.last.now name
          c.in-Some.schema.now (c.in-Some.ensures.next named))
          (ap (map (λ (d : Bor TableSchema). d.now)) is
          ∙ map-append (λ (d : Bor TableSchema). d.now) c.loop.schemas.items
          (c.in-Some.schema ∷ []))
          (c.loop.invariant.2 named),
    )

pub returns-clause-streams : goal.returns-clause-streams
returns-clause-streams c named =
    let name : Option (List ℕ) = option_map (λ w. w.now) c.args.name in
    let taken : List TableSchema = map (λ d. d.now) c.loop.schemas.items in
    let count : length taken ≡ length c.loop.schemas.items =
    length-map c.loop.schemas.items (λ (d : Bor TableSchema). d.now) in
    let rest = streams_after c.loop.last.now name (catalog_of c.args.tables.now) in
    let ends : Ends c.args.most taken rest = elim c.loop-test.branch [
      | else-loop-test w ↦ is_full (omega (arith, count, c.loop.invariant.1))
      | then-loop-test+in_default w ↦ is_last
          (streams_none (catalog_of c.args.tables.now) named c.loop.last.now name
          (w.in_default.ensures.next named)) (omega (arith, count, c.loop.invariant.1))
    ] in
    page_taken c.args.most taken rest _ ends (c.loop.invariant.2 named)

pub returns-clause-more : goal.returns-clause-more
returns-clause-more c named =
    let name : Option (List ℕ) = option_map (λ w. w.now) c.args.name in
    let taken : List TableSchema = map (λ d. d.now) c.loop.schemas.items in
    let count : length taken ≡ length c.loop.schemas.items =
    length-map c.loop.schemas.items (λ (d : Bor TableSchema). d.now) in
    let rest = streams_after c.loop.last.now name (catalog_of c.args.tables.now) in
    let ends : Ends c.args.most taken rest = elim c.loop-test.branch [
      | else-loop-test w ↦ is_full (omega (arith, count, c.loop.invariant.1))
      | then-loop-test+in_default w ↦ is_last
          (streams_none (catalog_of c.args.tables.now) named c.loop.last.now name
          (w.in_default.ensures.next named)) (omega (arith, count, c.loop.invariant.1))
    ] in
    c.is_some-more.ensures ∙ page_more (λ (d : Bor TableSchema). d.now) c.next_stream-2.result
    c.args.most taken rest _ ends (c.loop.invariant.2 named)
    (c.next_stream-2.ensures.next named
    ∙ streams_first (catalog_of c.args.tables.now) named c.loop.last.now name)
