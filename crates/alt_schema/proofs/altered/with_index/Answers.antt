-- What it is refused for, test by test.
use Rattle.serde_json.specs.View.{members_view}
use Rattle.alt_schema.specs.Stated.{definitions_of, index_in}
use Rattle.alt_schema.proofs.AlteredLaws.{bad_definitions, bad_keys, bad_indexes, all_good}
use Rattle.alt_schema.proofs.altered.with_index.Goals as goal

pub returns-then-not-definitions_fit-clause-cause :
    goal.returns-then-not-definitions_fit-clause-cause
returns-then-not-definitions_fit-clause-cause c =
    bad_definitions c.args.s.now (definitions_of (members_view c.args.body.now.entries))
    c.args.family (index_in (members_view c.args.create.now.entries)) c.in_ok-more.more
    c.as_slice.result.now c.as_slice-2.result.now c.in_ok-index.index c.in_ok-later.later
    c.in_ok-more.ensures c.as_slice.ensures.members c.as_slice-2.ensures.members
    c.in_ok-index.ensures c.in_ok-later.ensures c.definitions_fit.result c.definitions_fit.ensures
    c.if-not-definitions_fit.true

pub returns-then-not-branch-clause-cause : goal.returns-then-not-branch-clause-cause
returns-then-not-branch-clause-cause c =
    bad_keys c.args.s.now (definitions_of (members_view c.args.body.now.entries))
    c.args.family (index_in (members_view c.args.create.now.entries)) c.in_ok-more.more
    c.as_slice.result.now c.as_slice-2.result.now c.in_ok-index.index c.in_ok-later.later
    c.in_ok-more.ensures c.as_slice.ensures.members c.as_slice-2.ensures.members
    c.in_ok-index.ensures c.in_ok-later.ensures c.as_slice-3.result.now c.in_ok-stated.stated
    c.as_slice-3.ensures.members c.in_ok-stated.ensures.stated c.definitions_fit.result
    c.in_ok-keys_fit_together.field-0 c.definitions_fit.ensures c.if-not-definitions_fit.false
    c.in_ok-keys_fit_together.ensures c.if-not-branch.true

pub returns-then-not-indexes_fit-clause-cause : goal.returns-then-not-indexes_fit-clause-cause
returns-then-not-indexes_fit-clause-cause c =
    bad_indexes c.args.s.now (definitions_of (members_view c.args.body.now.entries))
    c.args.family (index_in (members_view c.args.create.now.entries)) c.in_ok-more.more
    c.as_slice.result.now c.as_slice-2.result.now c.in_ok-index.index c.in_ok-later.later
    c.in_ok-more.ensures c.as_slice.ensures.members c.as_slice-2.ensures.members
    c.in_ok-index.ensures c.in_ok-later.ensures c.as_slice-3.result.now c.in_ok-stated.stated
    c.as_slice-3.ensures.members c.in_ok-stated.ensures.stated c.definitions_fit.result
    c.in_ok-keys_fit_together.field-0 c.definitions_fit.ensures c.if-not-definitions_fit.false
    c.in_ok-keys_fit_together.ensures c.if-not-branch.false c.indexes_fit.result
    c.indexes_fit.ensures c.if-not-indexes_fit.true

pub returns-clause-taken : goal.returns-clause-taken
returns-clause-taken c =
    all_good c.args.s.now (definitions_of (members_view c.args.body.now.entries))
    c.args.family (index_in (members_view c.args.create.now.entries)) c.in_ok-more.more
    c.as_slice.result.now c.as_slice-2.result.now c.in_ok-index.index c.in_ok-later.later
    c.in_ok-more.ensures c.as_slice.ensures.members c.as_slice-2.ensures.members
    c.in_ok-index.ensures c.in_ok-later.ensures c.as_slice-3.result.now c.in_ok-stated.stated
    c.as_slice-3.ensures.members c.in_ok-stated.ensures.stated c.definitions_fit.result
    c.in_ok-keys_fit_together.field-0 c.definitions_fit.ensures c.if-not-definitions_fit.false
    c.in_ok-keys_fit_together.ensures c.if-not-branch.false c.indexes_fit.result
    c.indexes_fit.ensures c.if-not-indexes_fit.false
