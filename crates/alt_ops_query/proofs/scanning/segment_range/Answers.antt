-- The range holds the items of the segment.
use Rattle.std.proofs.Common.{◌+◌, ◌<◌, true, IfSome, None, option_map, ap, subst, sym, ◌∙◌}
use Rattle.alt_keyorder.specs.declared.range.KeyRange.{KeyRange}
use Rattle.alt_machine.specs.Lists.{walk_start}
use Rattle.alt_machine.specs.Ops.Scan.{is_in}
use Rattle.alt_machine.specs.Sources.{hash_of, index_at}
use Rattle.alt_ops_query.specs.Places.{HoldsListed}
use Rattle.alt_ops_query.specs.private.Ranges.{IsBeyond}
use Rattle.alt_ops_query.specs.private.Tokens.{end_token, first_token, machine_segment}
use Rattle.alt_ops_query.proofs.Segments.{segment_holds, whole_holds}
use Rattle.alt_ops_query.proofs.scanning.segment_range.Goals as goal
use Rattle.alt_ops_query.proofs.scanning.segment_range.Goals.{in-Some+in_ok-range-in-Some, in-None}

pub returns : goal.returns
returns c =
    let d = c.args.schema.now in
    let i = index_at d c.args.number in
    let place = c.in_ok-place.place in
    let first = c.in_ok-beyond.field-0.from in
    let last = c.in_ok-beyond.field-0.to in
    let beyond : IsBeyond true place c.match-segment.range.from
    c.match-segment.range.to first last =
    c.in_ok-beyond.ensures.beyond in
    record {
      segments = record {
        place = place;
        starts = ap (λ x. walk_start d x None c.args.start.now) (sym c.index_of.ensures.index)
            ∙ c.in_ok-place.ensures.start;
        holds = elim c.match-segment.branch [
          | in-Some+in_ok-range-in-Some w ↦
              let number = w.in-Some.segment.number in
              let total = w.in-Some.segment.total in
              subst (λ o. HoldsListed true place
              (is_in (hash_of d i) (option_map machine_segment o)) d i first last)
              (sym w.in-Some.is)
              (segment_holds d i number total
              (subst (λ o. IfSome o (λ s. s.number < s.total)) w.in-Some.is c.requires.below)
              w.tokens_of.ensures.few place
              first last
              (subst (λ x. IsBeyond true place x (end_token (first_token (number + 1) total)) first
              last) (ap (λ (r : KeyRange). r.from) w.range-is
              ∙ w.in_ok-range-in-Some.ensures.tokens.0)
              (subst (λ x. IsBeyond true place c.match-segment.range.from x first last)
              (ap (λ (r : KeyRange). r.to) w.range-is ∙ w.in_ok-range-in-Some.ensures.tokens.1)
              beyond)))
          | in-None w ↦
              subst (λ o. HoldsListed true place
              (is_in (hash_of d i) (option_map machine_segment o)) d i first last)
              (sym w.in-None.is)
              (whole_holds d i place first last
              (subst (λ x. IsBeyond true place x None first last)
              (ap (λ (r : KeyRange). r.from) w.range-is ∙ w.whole_range-range.ensures.from)
              (subst (λ x. IsBeyond true place c.match-segment.range.from x first last)
              (ap (λ (r : KeyRange). r.to) w.range-is ∙ w.whole_range-range.ensures.to)
              beyond)))
        ];
      };
    }
