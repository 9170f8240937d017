-- The condition holds of what meets its ask, whose values are keys.
use Rattle.std.proofs.Common.{◌≡◌, Some}
use Rattle.std.specs.Prelude.{option_map}
use Rattle.alt_value.specs.Stands.{tree_of}
use Rattle.alt_expr.specs.KeyForm.{ask_of}
use Rattle.alt_keyorder.specs.KeyBytes.{IsKey}
use Rattle.alt_keycond.specs.Asked.{answer_asks, key_of}
use Rattle.alt_keycond.specs.KeysAsked.{AsksKeys}
use Rattle.alt_keycond.proofs.FormLaws.{held}
use Rattle.alt_keycond.proofs.Forms.{ok_on}
use Rattle.alt_keycond.proofs.KeysAskedLaws.{asks_keys}
use Rattle.alt_keycond.proofs.ask.key_ask.Goals as goal

pub returns-clause-holds : goal.returns-clause-holds
returns-clause-holds c =
    held (key_of c.args.hash.now) (option_map (λ r. key_of r.now) c.args.range) c.args.cond.now
    c.asked.result c.asked.ensures.ask

pub returns-clause-keys : goal.returns-clause-keys
returns-clause-keys c =
    let hash = key_of c.args.hash.now in
    let range = option_map (λ r. key_of r.now) c.args.range in
    ok_on (λ a. ask_of hash range c.args.cond.now ≡ Some (answer_asks a))
    (λ a. IsKey (tree_of a.hash) × AsksKeys a.range)
    (λ a e. asks_keys hash range c.args.cond.now a e) c.asked.result c.asked.ensures.ask
