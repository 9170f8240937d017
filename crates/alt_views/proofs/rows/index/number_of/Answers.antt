-- The local indexes come first.
use Rattle.std.proofs.Common.{sym, ap, ◌∙◌, length}
use Rattle.alt_schema.specs.Indexes.{is_read_as}
use Rattle.alt_views.proofs.Numbers.{in_both, position_left, position_right}
use Rattle.alt_views.proofs.rows.index.number_of.Goals as goal
use Rattle.std.proofs.Common.{None}

pub returns-in_err-place_of-in-None : goal.returns-in_err-place_of-in-None
returns-in_err-place_of-in-None c = record {
  first =
      c.from_residual.ensures
      ∙ sym (position_right (is_read_as c.args.name.now) c.args.s.now.locals c.args.s.now.globals
      c.as_slice-locals.result.now c.as_slice.result.now c.place_of.result
      c.place_of-in-None.result
      c.as_slice-locals.ensures.members c.place_of.ensures c.in-None.is c.as_slice.ensures.members
      c.place_of-in-None.ensures
      ∙ ap (λ o. in_both None (length c.as_slice-locals.result.now) o)
      c.in_err-place_of-in-None.was);
}

pub returns-in-Some : goal.returns-in-Some
returns-in-Some c = record {
  first =
      position_left (is_read_as c.args.name.now) c.args.s.now.locals c.args.s.now.globals
      c.as_slice-locals.result.now c.place_of.result c.in-Some.i
      c.as_slice-locals.ensures.members c.place_of.ensures c.in-Some.is;
}

pub returns-in_ok-place_of-in-None : goal.returns-in_ok-place_of-in-None
returns-in_ok-place_of-in-None c = record {
  first =
      sym (position_right (is_read_as c.args.name.now) c.args.s.now.locals c.args.s.now.globals
      c.as_slice-locals.result.now c.as_slice.result.now c.place_of.result
      c.place_of-in-None.result
      c.as_slice-locals.ensures.members c.place_of.ensures c.in-None.is c.as_slice.ensures.members
      c.place_of-in-None.ensures
      ∙ ap (λ o. in_both None (length c.as_slice-locals.result.now) o)
      c.in_ok-place_of-in-None.was);
}
