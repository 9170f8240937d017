-- What is asked by two conditions and more, and of which items a condition holds.
use Rattle.std.proofs.Common.{◌≡◌, List, Option, Some, Ok, Err, rules}
use Rattle.std.specs.Prelude.{Result, IfOk}
use Rattle.alt_expr.specs.declared.cond.Cond.{Cond, the_lemmas}
use Rattle.alt_expr.specs.declared.cond.Cond.TheVariants as cond
use Rattle.alt_expr.specs.Holds.{holds}
use Rattle.alt_expr.specs.KeyForm.{Key, ask_of, joined_ask, meets}
use Rattle.alt_expr.specs.Located.{View}
use Rattle.alt_expr.proofs.KeyLaws.{holds_as_asked}
use Rattle.alt_keycond.specs.Asked.{answer_asks}
use Rattle.alt_keycond.specs.declared.ask.KeyAsk.{KeyAsk}
use Rattle.alt_keycond.specs.declared.ask.KeyCondFault.{KeyCondFault}

-- the members of AND
pub ask_of_all : (hash : Key) (range : Option Key) (members : List Cond)
    → ask_of hash range (cond.All members) ≡ joined_ask hash range members
unfolding ask_of
ask_of_all hash range members = search (rules, the_lemmas)

-- a condition holds of what meets the ask that was answered
pub held : (hash : Key) (range : Option Key) (x : Cond) (r : Result KeyAsk KeyCondFault)
    → IfOk r (λ a. ask_of hash range x ≡ Some (answer_asks a))
    → IfOk r (λ a. (item : View) → holds item x ≡ meets hash range (answer_asks a) item)
held hash range x (Ok a) e = λ item. holds_as_asked hash range x (answer_asks a) e item
held hash range x (Err f) e = tt
