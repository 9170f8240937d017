-- What isn't refused is described anew, and what is refused is refused with a message.
use Rattle.std.proofs.Common.{sym, ◌∙◌, subst}
use Rattle.alt_schema.specs.Described.{IsNew}
use Rattle.alt_schema.proofs.NewDescriptions.{new_description, known}
use Rattle.alt_schema.proofs.described.schema_of_json.Goals as goal

pub returns-in_ok-described-in-None-clause-valid : goal.returns-in_ok-described-in-None-clause-valid
returns-in_ok-described-in-None-clause-valid c =
    subst IsNew (sym c.in_ok-described-in-None.ensures)
    (new_description c.in_ok-stated.stated (sym c.in_ok-refused.ensures.first ∙ c.in-None.is)
    c.args.moment c.args.number c.args.family)

pub returns-in-Some-clause-known : goal.returns-in-Some-clause-known
returns-in-Some-clause-known c =
    known c.in_ok-stated.stated c.in-Some.refusal (sym c.in_ok-refused.ensures.first ∙ c.in-Some.is)
