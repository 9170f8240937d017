-- What is at the place of the key is what the write says.
use Rattle.std.proofs.Common.{◌≡◌, sym, ap, ◌∙◌, Some}
use Rattle.std.specs.FinMap as map
use Rattle.alt_machine.specs.State.{Texts}
use Rattle.alt_schema.specs.declared.schema.TableSchema.{TableSchema}
use Rattle.alt_tables.specs.Stands.{catalog_of}
use Rattle.alt_tables.specs.declared.by_keys.ItemWrite.{ItemWrite}
use Rattle.alt_tables.proofs.ByKeys.{known_by}
use Rattle.alt_tables.proofs.tables.Tables.placed.Goals as goal

pub returns-clause-found : goal.returns-clause-found
returns-clause-found c s same was t at =
    let catalog : Texts TableSchema = catalog_of c.args.self.now in
    let w : ItemWrite = c.args.write.now in
    let at_w : map.get s.tables w.table ≡ Some t =
    ap (map.get s.tables) (sym c.in_ok-table.ensures.same) ∙ at in
    c.in_ok-item.ensures ∙ c.as_ref.ensures.value ∙ was t c.in-Ok.place at_w
    (c.in-Ok.ensures.place t.description
    (ap (map.get catalog) c.as_str.ensures.same ∙ known_by catalog s w.table t same at_w))
