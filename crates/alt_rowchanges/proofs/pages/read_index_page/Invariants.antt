-- What an index keeps at the rows so far is put, and the place of the last of these rows is at hand.
use Rattle.std.proofs.Common.{◌≡◌, ◌++◌, List, None, map}
use Rattle.std.specs.List.{last_or}
use Rattle.alt_base.specs.Prefix.{IsPrefix}
use Rattle.alt_rowchanges.specs.Pages.{AreKept}
use Rattle.alt_rowchanges.proofs.pages.read_index_page.Given as goal
use Rattle.alt_value.specs.Tree.{Pair}

abbrev pub invariant-loop-key : goal.invariant-loop-key
invariant-loop-key l = record {
  begun : IsPrefix l.initial.out.items l.out.items;
  put : (items : List (List Pair)) → AreKept l.schema l.index l.yielded items
      → l.out.items ≡ l.initial.out.items ++ items;
  last : l.last ≡ last_or None (map (λ e. e.0) l.yielded);
}
