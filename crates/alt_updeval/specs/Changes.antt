-- What changes of attributes make of an item.
use Rattle.std.specs.Prelude.{List, [], ◌∷◌, option_map, if◌then◌else◌}
use Rattle.std.specs.Str.{bytes_eq}
use Rattle.alt_value.specs.Stands.{tree_of}
use Rattle.alt_expr.specs.Located.{View}
use Rattle.alt_updeval.specs.declared.update.AttrChange.{AttrChange}

-- changes are made one after another: a name gets its new value, or has none
abbrev pub changed_by : List AttrChange → View → View
changed_by [] item = item
changed_by (c ∷ cs) item =
    changed_by cs (λ name. if bytes_eq name c.name then option_map tree_of c.value else item name)
