-- The key that is read is that of the only item with that row, and gives it its place.
use Rattle.std.proofs.Common.{◌≡◌, ◌≤◌, sym, subst, ap, ◌∙◌, List, IsTrue, rules, arith}
use Rattle.alt_machine.specs.Keys.{key_fits, place_of}
use Rattle.alt_machine.specs.declared.TheConstants.{LARGEST_ITEM}
use Rattle.alt_value.specs.Size.{item_size}
use Rattle.alt_value.specs.Tree.{Pair}
use Rattle.alt_views.specs.OwnKeys.{IsKeyWithin}
use Rattle.alt_views.proofs.ItemRowLaws.{item_columns-one}
use Rattle.alt_views.proofs.OwnKeys.{own_fits, own_place}
use Rattle.alt_tablerows.proofs.items.test_item.Goals as goal

pub returns-else-not-branch-clause-item : goal.returns-else-not-branch-clause-item
returns-else-not-branch-clause-item c =
    let (item, read, row, within) = c.in_ok-own.ensures.key in
    let (size, has, told) = subst (IsKeyWithin c.args.schema.now LARGEST_ITEM item) c.in-Some.is within in
    let may = c.in_ok-stands_at-in-Some.ensures.stands.0 (search rules) in (
      item,
      record {
        stored = record {
          stands = sym (own_place c.args.schema.now item c.in-Some.own has) ∙ may.0;
          fits = sym (own_fits c.args.schema.now item c.in-Some.own has) ∙ may.1;
          size = size;
          depth = read.depth;
          full = read.whole.1;
          names = read.whole.0.names;
        };
        read = read;
        row = row;
      },
    )

pub returns-else-not-branch-clause-size : goal.returns-else-not-branch-clause-size
returns-else-not-branch-clause-size c item is row =
    let (found, read, same_row, within) = c.in_ok-own.ensures.key in
    let (size, has, told) = subst (IsKeyWithin c.args.schema.now LARGEST_ITEM found) c.in-Some.is within in
    let same : item ≡ found = item_columns-one item found is.whole read.whole
    (sym row ∙ same_row) in
    omega (arith, told, ap item_size same)

pub returns-then-not-branch-clause-none : goal.returns-then-not-branch-clause-none
returns-then-not-branch-clause-none c bad item is =
    let (found, read, row, within) = c.in_ok-own.ensures.key in
    let (size, has, told) = subst (IsKeyWithin c.args.schema.now LARGEST_ITEM found) c.in-Some.is within in
    let same : item ≡ found = item_columns-one item found is.read.whole read.whole
    (sym is.row ∙ row) in
    let may : IsTrue c.in_ok-stands_at-in-Some.field-0 = c.in_ok-stands_at-in-Some.ensures.stands.1 (
      own_place c.args.schema.now found c.in-Some.own has
          ∙ (sym (ap (place_of c.args.schema.now) same) ∙ is.stored.stands),
      own_fits c.args.schema.now found c.in-Some.own has
          ∙ (sym (ap (key_fits c.args.schema.now) same) ∙ is.stored.fits),
    ) in
    let f : ⊥ = cc in f

pub returns-in-None-clause-none : goal.returns-in-None-clause-none
returns-in-None-clause-none c bad item is =
    let (found, read, row, within) = c.in_ok-own.ensures.key in
    let more = subst (IsKeyWithin c.args.schema.now LARGEST_ITEM found) c.in-None.is within in
    let same : item ≡ found = item_columns-one item found is.read.whole read.whole
    (sym is.row ∙ row) in
    let size : item_size found ≤ LARGEST_ITEM =
    subst (λ (ps : List Pair). item_size ps ≤ LARGEST_ITEM) same is.stored.size in
    omega (arith, more, size)
