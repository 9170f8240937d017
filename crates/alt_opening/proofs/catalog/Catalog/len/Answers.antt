-- An entry a table.
use Rattle.std.proofs.Common.{◌≡◌, sym, ap, ◌∙◌, length, arith}
use Rattle.std.proofs.lemmas.List.{length-map}
use Rattle.std.specs.FinMap as map
use Rattle.alt_opening.proofs.Listed.{itself, pairs, name_of}
use Rattle.alt_opening.proofs.Named.{entry}
use Rattle.alt_opening.proofs.Sorted.{len-map}
use Rattle.alt_opening.proofs.catalog.Catalog.len.Goals as goal

pub returns : goal.returns
returns c =
    let counted : c.len.result ≡ length c.self.inside.entries.items = omega arith in
    record {
      count = counted
          ∙ sym (len-map (pairs c.self.inside.entries.items) c.self.invariant.0
          ∙ length-map c.self.inside.entries.items (entry name_of itself))
          ∙ ap map.len c.self.view_is;
    }
