-- What the tree has at a key is what its rows have there.
use Rattle.std.proofs.Common.{sym, ap, ◌∙◌}
use Rattle.std.specs.FinMap.{get, get-from_sorted}
use Rattle.alt_cells.specs.Keys.{key_cmp}
use Rattle.alt_memtable.proofs.Ordered.{is_sorted_keys}
use Rattle.alt_memtable.proofs.Putting.{find_lookup}
use Rattle.alt_memtable.proofs.table.Memtable.get.Goals as goal

pub returns : goal.returns
returns c =
    let es = c.self.inside.rows.entries in
    let key = c.args.key.now in record {
      row = c.get.ensures.value ∙ sym (find_lookup es key)
          ∙ sym (get-from_sorted key_cmp es key
          (is_sorted_keys key_cmp es c.len-count.ensures.ordered))
          ∙ ap (λ v. get v.0 key) c.self.view_is;
    }
