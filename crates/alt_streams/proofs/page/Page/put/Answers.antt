-- The record stands behind the others.
use Rattle.std.proofs.Common.{◌≡◌, ◌-◌, refl, ap, subst, ◌∙◌, IfSome, arith}
use Rattle.alt_changes.specs.ChangeRows.{change_in}
use Rattle.alt_machine.specs.Changes.{record_json, record_size}
use Rattle.alt_shape.specs.Objects.{object_json}
use Rattle.alt_streams.proofs.Filled.{put_on}
use Rattle.alt_streams.proofs.page.Page.put.Goals as goal

pub returns-clause-read : goal.returns-clause-read
returns-clause-read c shows most from seen is h fit =
    let d = c.args.schema.now in
    let one = change_in c.args.change in
    let size : c.in-Some.size ≡ record_size d shows one =
    subst (λ o. IfSome o (λ n. n ≡ record_size d shows one)) c.in-Some.is
    (subst (λ o. IfSome o (λ view. IfSome c.in_ok-size.field-0 (λ n. n ≡ record_size d view one)))
    is
    c.in_ok-size.ensures.size) in
    put_on d shows most from c.args.self.now _ seen one c.in_ok-record_of.field-0 h
    c.requires.going c.in_ok-push.ensures.items
    (subst (λ o. IfSome o (λ s. object_json c.in_ok-record_of.field-0 ≡ record_json d s one)) is
    c.in_ok-record_of.ensures.json)
    refl
    (c.saturating_sub-self.ensures ∙ ap (λ n. c.args.self.now.left - n) size)
    (omega (arith, c.saturating_add-self.ensures, fit.0))
