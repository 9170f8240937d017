-- Entries that ask of the keys make a key condition; others are none.
use Rattle.std.proofs.Common.{Bor, Option}
use Rattle.std.specs.Prelude.{option_map}
use Rattle.serde_json.specs.View.{view}
use Rattle.alt_schema.specs.declared.schema.KeyAttr.{KeyAttr}
use Rattle.alt_expr.specs.KeyForm.{Key}
use Rattle.alt_legacy.specs.Entries.{entries_in}
use Rattle.alt_legacy.specs.Keys.{key_of}
use Rattle.alt_legacy.specs.declared.reading.Form.TheVariants as forms
use Rattle.alt_legacy.proofs.Keyed.{is_key_condition, not_asked}
use Rattle.alt_legacy.proofs.key.key_of.Goals as goal

-- the key of a description that may be there
abbrev key_there : Option (Bor KeyAttr) → Option Key
key_there o = option_map (λ (r : Bor KeyAttr). key_of r.now) o

pub returns-then-not-are_key-clause-cause : goal.returns-then-not-are_key-clause-cause
returns-then-not-are_key-clause-cause c =
    not_asked (entries_in forms.Filter (view c.args.entries.now)) (key_of c.args.hash.now)
    (key_there c.args.range) c.in_ok-entries.entries.items c.in_ok-entries.ensures.ok (cc)

pub returns-in-Ok-Some-clause-asks : goal.returns-in-Ok-Some-clause-asks
returns-in-Ok-Some-clause-asks c =
    is_key_condition (key_of c.args.hash.now) (key_there c.args.range)
    (entries_in forms.Filter (view c.args.entries.now)) c.in_ok-entries.entries.items
    c.in-Ok-Some.condition c.in_ok-entries.ensures.ok (cc)
    (rw c.in-Ok-Some.field-0-is at c.in-Ok-Some.ensures)
