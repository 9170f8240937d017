-- The names and values of a request, and the members that are expressions, as the machine has them.
use Rattle.std.specs.Prelude.{◌≡◌, ◌||◌, Bool, false, List, [], Option, Some, None, Result, Ok, option_map}
use Rattle.std.specs.Option.{option_map_or}
use Rattle.serde_json.specs.Data.{Members, no_members, member}
use Rattle.alt_expr.specs.Given as expr
use Rattle.alt_expr.specs.Given.{has_unused}
use Rattle.alt_expr.specs.Lookups.{given_by, names_alone}
use Rattle.alt_expr.specs.NamesGiven.{given_names, used_names, given_values, used_values, is_empty_given}
use Rattle.alt_expr.specs.NamesIn.{names_in as expr_names, gives_empty}
use Rattle.alt_expr.specs.declared.fault.ExprFault.{ExprFault}
use Rattle.alt_expr.specs.declared.fault.ExprFault.TheVariants as fault
use Rattle.alt_expr.specs.declared.names.Names.{Names}
use Rattle.alt_expr.specs.declared.values.Values.{Values}
use Rattle.alt_expr.proofs.CondTexts.{condition_of}
use Rattle.alt_expr.proofs.PathsTexts.{paths_of}
use Rattle.alt_expr.proofs.UpdateTexts.{update_of}
use Rattle.alt_machine.specs.declared.Expressions.{Expressions}
use Rattle.alt_machine.specs.Expressions as machine
use Rattle.alt_machine.specs.Refusals.{◌>>=◌, first_answer, unless_answer}
use Rattle.alt_said.specs.Older.{older_of}
use Rattle.alt_said.specs.declared.words.Given.{Given}
use Rattle.alt_said.specs.declared.words.Texts.{Texts}
use Rattle.alt_said.specs.declared.stop.Stop.{Stop}
use Rattle.alt_said.specs.declared.stop.Stop.TheVariants.{Refused, Fault}
use Rattle.alt_shape.specs.Refusals.{Answer}
use Rattle.alt_shape.specs.declared.refusal.Refusal.{Refusal}
use Rattle.alt_tables.specs.DeclaredTableFault.TheVariants.{NoMemory}
use Rattle.alt_value.specs.Tree.{Pair}

-- the members that are expressions
abbrev pub texts_of : Texts → machine.Texts
texts_of texts = record {
  key_condition = option_map (λ w. w.now) texts.key_condition;
  condition = option_map (λ w. w.now) texts.condition;
  update = option_map (λ w. w.now) texts.update;
  projection = option_map (λ w. w.now) texts.projection;
  older = older_of texts.older;
}

-- the first that is there
abbrev pub earlier : {A : Type 0} → Option A → Option A → Option A
earlier (Some x) y = Some x
earlier None y = y

-- the names and values
abbrev pub given_of : Given → expr.Given
given_of g = given_by g.names g.values

-- the refusal of the first name that is refused
abbrev pub names_refusal : Members → Option Refusal
names_refusal no_members = None
names_refusal (member word d ms) = earlier (machine.name_refusal d) (names_refusal ms)

-- the names of such a member, or the refusal of the first that is refused
abbrev pub names_or_refusal : Members → Result (List Pair) Answer
names_or_refusal ms = unless_answer (first_answer (machine.of_names ms)) (expr_names [] ms)

-- none of the names is used yet, and the empty word is among them where the request gives it
pub record AreFreshNames (ms : Members) (names : Names) : Type 0 where
  pub used : used_names names ≡ []
  pub empty : is_empty_given names ≡ option_map_or gives_empty (machine.names_member ms) false

-- neither is any of the values
pub record AreFreshWords (ms : Members) (g : Given) : Type 0 where
  pub names : AreFreshNames ms g.names
  pub values : used_values g.values ≡ []

-- a name or a value stands in none of the texts that were parsed
abbrev pub has_unused_words : Names → Values → Bool
has_unused_words names values = (is_empty_given names || has_unused (given_names names) (used_names names))
    || has_unused (given_values values) (used_values values)

-- what the texts state, each refused for its first fault
abbrev pub all_stated : machine.Texts → Members → expr.Given → Result Expressions Answer
all_stated texts ms g = do
  keys ← machine.stated_by_text condition_of g (machine.text_at texts.key_condition ms)
  condition ← machine.stated_by_text condition_of g (machine.text_at texts.condition ms)
  update ← machine.stated_by_text update_of g (machine.text_at texts.update ms)
  projection ← machine.stated_by_text paths_of (names_alone g.names) (machine.text_at texts.projection ms)
  Ok (record {
    key_condition = keys;
    condition = condition;
    update = update;
    projection = projection;
  })

-- a request stops for the fault of a text by its refusal, or for want of memory
abbrev pub stop_of : ExprFault → Stop
stop_of fault.NoMemory = Fault NoMemory
stop_of f = Refused (machine.expression_refusal f)
