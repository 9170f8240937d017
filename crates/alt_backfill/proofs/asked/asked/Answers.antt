-- The body is refused, or there is no such table, or what is asked of it is asked.
use Rattle.std.proofs.Common.{◌≡◌, refl, sym, ap, subst, ◌∙◌, ℕ, Bool, true, false, not, Ok, Err}
use Rattle.std.proofs.lemmas.Slice.Eq.{bytes_eq-Decides}
use Rattle.std.specs.FinMap as map
use Rattle.serde_json.specs.View.{members_view}
use Rattle.alt_backfill.specs.private.Asked.{IsAlteringOrRefused, IsAskedOf}
use Rattle.alt_backfill.proofs.Asking.{absent_asked, here_asked, misnamed_asked, unfit_asked}
use Rattle.alt_request.proofs.Reaching.{err_is}
use Rattle.alt_request.specs.TablesStands.{catalog_of}
use Rattle.alt_backfill.proofs.asked.asked.Goals as goal

pub returns-in_err-unfit : goal.returns-in_err-unfit
returns-in_err-unfit c = record {
  asked = subst (IsAlteringOrRefused c.args.tables.now (members_view c.args.body.now.entries))
      (sym (err_is c.from_residual.result c.in_err-unfit.field-0.0 c.from_residual.ensures))
      (unfit_asked c.args.tables.now (members_view c.args.body.now.entries)
      c.in_err-unfit.field-0.0 c.in_err-unfit.ensures.tested);
}

pub returns-in_default : goal.returns-in_default
returns-in_default c = record {
  asked = absent_asked c.args.tables.now (members_view c.args.body.now.entries)
      c.in_ok-unfit.ensures.tested
      (ap (map.get (catalog_of c.args.tables.now)) (sym c.table_name.ensures.name)
      ∙ sym c.in_default.ensures.table);
}

-- a test that is denied
untrue : (b : Bool) → not b ≡ true → b ≡ false
untrue true h = absurd (let f : ⊥ = cc in f)
untrue false h = refl

-- and one that isn't
truth : (b : Bool) → not b ≡ false → b ≡ true
truth true h = refl
truth false h = absurd (let f : ⊥ = cc in f)

pub returns-then-ne : goal.returns-then-ne
returns-then-ne c = record {
  asked = misnamed_asked c.args.tables.now (members_view c.args.body.now.entries)
      c.in_ok-unfit.ensures.tested c.in-Some.schema.now
      (ap (map.get (catalog_of c.args.tables.now)) (sym c.table_name.ensures.name)
      ∙ sym c.in-Some.ensures.table)
      (λ e. let no : true ≡ false =
      sym ((bytes_eq-Decides c.as_str.result.now c.table_name-2.result.now).1
      (c.as_str.ensures.same ∙ e ∙ sym c.table_name-2.ensures.name))
      ∙ untrue _ (sym c.ne.ensures ∙ c.if-ne.true) in cc no);
}

pub asked_here-requires : goal.asked_here-requires
asked_here-requires c = record { tested = c.in_ok-unfit.ensures.tested }

pub returns-in-Ok : goal.returns-in-Ok
returns-in-Ok c = record {
  asked = here_asked c.args.tables.now (members_view c.args.body.now.entries)
      c.in_ok-unfit.ensures.tested c.in-Some.schema.now
      (ap (map.get (catalog_of c.args.tables.now)) (sym c.table_name.ensures.name)
      ∙ sym c.in-Some.ensures.table)
      (sym c.as_str.ensures.same
      ∙ (bytes_eq-Decides c.as_str.result.now c.table_name-2.result.now).0
      (truth _ (sym c.ne.ensures ∙ c.if-ne.false)) ∙ c.table_name-2.ensures.name)
      (Ok c.in-Ok.later)
      (subst (λ (f : ℕ). IsAskedOf c.in-Some.schema.now (members_view c.args.body.now.entries) f
      (Ok c.in-Ok.later)) c.next_family.ensures.family c.in-Ok.ensures.asked);
}

pub returns-in-Err : goal.returns-in-Err
returns-in-Err c = record {
  asked = here_asked c.args.tables.now (members_view c.args.body.now.entries)
      c.in_ok-unfit.ensures.tested c.in-Some.schema.now
      (ap (map.get (catalog_of c.args.tables.now)) (sym c.table_name.ensures.name)
      ∙ sym c.in-Some.ensures.table)
      (sym c.as_str.ensures.same
      ∙ (bytes_eq-Decides c.as_str.result.now c.table_name-2.result.now).0
      (truth _ (sym c.ne.ensures ∙ c.if-ne.false)) ∙ c.table_name-2.ensures.name)
      (Err c.in-Err.stop)
      (subst (λ (f : ℕ). IsAskedOf c.in-Some.schema.now (members_view c.args.body.now.entries) f
      (Err c.in-Err.stop)) c.next_family.ensures.family c.in-Err.ensures.asked);
}
