-- There are enough, or the item hasn't expired or has no place, or one more is put.
use Rattle.std.proofs.Common.{◌++◌, ◌∷◌, [], true, false, refl, sym, ap, ◌∙◌, take, Some, arith}
use Rattle.std.proofs.lemmas.List.{length-append, take_all}
use Rattle.alt_machine.specs.declared.Standing.{Standing}
use Rattle.alt_machine.specs.declared.TheConstants.{MOST_EXPIRED}
use Rattle.alt_ttl.specs.private.Searched.{standing_of}
use Rattle.alt_ttl.proofs.Founds.{standing_by, unplaced}
use Rattle.alt_ttl.proofs.Fronts.{take_full, take_whole}
use Rattle.alt_ttl.proofs.standings.put_one.Goals as goal

pub returns-then-len-ge-MOST_EXPIRED : goal.returns-then-len-ge-MOST_EXPIRED
returns-then-len-ge-MOST_EXPIRED c = record {
  put = sym (take_full MOST_EXPIRED c.args.out.now.items
      (standing_of c.args.schema.now c.args.name.now c.args.moment c.args.item.now)
      c.requires.few (omega (arith, c.len.ensures, c.if-len-ge-MOST_EXPIRED.true)));
}

pub returns-then-not-is_expired : goal.returns-then-not-is_expired
returns-then-not-is_expired c = record {
  put = sym (ap (λ l. take MOST_EXPIRED (c.args.out.now.items ++ l))
      (standing_by c.args.schema.now c.args.name.now c.args.moment c.args.item.now false _
      (sym c.is_expired.ensures ∙ c.if-not-is_expired.true) refl)
      ∙ take_whole MOST_EXPIRED c.args.out.now.items c.requires.few);
}

pub returns-in_default : goal.returns-in_default
returns-in_default c = record {
  put = sym (ap (λ l. take MOST_EXPIRED (c.args.out.now.items ++ l))
      (unplaced c.args.schema.now c.args.name.now c.args.moment c.args.item.now
      (sym c.in_ok-place.ensures.place ∙ c.in_default.is))
      ∙ take_whole MOST_EXPIRED c.args.out.now.items c.requires.few);
}

pub returns : goal.returns
returns c = record {
  put = c.in_ok-push.ensures.items
      ∙ ap (λ (e : Standing). c.args.out.now.items ++ e ∷ [])
      (λ i. record { table = c.in_ok-table.ensures.copied i; place = c.in-Some.place })
      ∙ sym (ap (λ l. take MOST_EXPIRED (c.args.out.now.items ++ l))
      (standing_by c.args.schema.now c.args.name.now c.args.moment c.args.item.now true
      (Some c.in-Some.place) (sym c.is_expired.ensures ∙ c.if-not-is_expired.false)
      (sym c.in_ok-place.ensures.place ∙ c.in-Some.is))
      ∙ take_all MOST_EXPIRED (c.args.out.now.items ++ record { table = c.args.name.now; place = c.in-Some.place } ∷ [])
      (omega (
        arith,
        length-append c.args.out.now.items (record { table = c.args.name.now; place = c.in-Some.place } ∷ []),
        c.len.ensures,
        c.if-len-ge-MOST_EXPIRED.false,
      )));
}
