-- The items of the rows so far are put, and the place of the last of these rows is at hand.
use Rattle.std.proofs.Common.{◌≡◌, None, map}
use Rattle.std.specs.List.{last_or}
use Rattle.alt_rowchanges.specs.Pages.{ArePut}
use Rattle.alt_rowchanges.proofs.pages.read_page.Given as goal

abbrev pub invariant-loop-place : goal.invariant-loop-place
invariant-loop-place l = record {
  put : ArePut l.yielded l.initial.out.items l.out.items;
  last : l.last ≡ last_or None (map (λ e. e.0) l.yielded);
}
