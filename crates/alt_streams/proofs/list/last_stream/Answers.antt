-- The last of all, where none follows it.
use Rattle.std.proofs.Common.{◌-◌, sym, ap, ◌∙◌, length, map, option_map, slice_get, Bor}
use Rattle.alt_schema.specs.declared.schema.TableSchema.{TableSchema}
use Rattle.alt_streams.specs.private.Listed.{last_table_of_page}
use Rattle.alt_streams.proofs.Ending.{last_mapped}
use Rattle.alt_streams.proofs.list.last_stream.Goals as goal

pub returns : goal.returns
returns c =
    ap (option_map (λ (d : Bor TableSchema). d.now)) c.in_ok-last.ensures.value
    ∙ (λ i. option_map (λ (d : Bor TableSchema). d.now)
    (slice_get (c.deref.ensures.value i) (length (c.deref.ensures.value i) - 1)))
    ∙ last_mapped (λ (d : Bor TableSchema). d.now) c.args.page.now.schemas.items
    ∙ ap (λ more. last_table_of_page more (map (λ (d : Bor TableSchema). d.now) c.args.page.now.schemas.items))
    (sym c.if-not-page.false)
