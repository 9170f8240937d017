-- Each member in turn, where an update or names stop the request.
use Rattle.std.proofs.Common.{sym, subst, option_map}
use Rattle.serde_json.specs.Data.{Members}
use Rattle.serde_json.specs.View.{view, members_view}
use Rattle.alt_machine.specs.declared.Expressions.{Expressions}
use Rattle.alt_machine.specs.Older as machine
use Rattle.alt_said.specs.Older.{all_older, older_of}
use Rattle.alt_said.specs.Steps.{Comes}
use Rattle.alt_said.proofs.OlderSaid.{update_stops, names_stop}
use Rattle.alt_said.proofs.Passed.{err_is}
use Rattle.alt_said.proofs.older.older_said.Goals as goal

pub returns-in_err-update : goal.returns-in_err-update
returns-in_err-update c =
    let ms : Members = members_view c.args.body.now.entries in
    let older : machine.Older = older_of c.args.older.now in record {
      said = subst (λ r. Comes {X = Expressions} (λ e. e) (all_older older ms) r)
          (sym (err_is c.from_residual-in_err-update.result c.in_err-update.field-0.0
          c.from_residual-in_err-update.ensures))
          (update_stops older ms (option_map (λ v. view v.now) c.value_at.result)
          (option_map (λ v. view v.now) c.value_at-2.result)
          (option_map (λ v. view v.now) c.value_at-3.result)
          (option_map (λ v. view v.now) c.value_at-3.result) c.asks-any.result
          c.value_at.ensures c.value_at-2.ensures c.value_at-3.ensures c.asks-any.ensures.asked
          c.in_ok-key_condition.key_condition c.in_ok-condition.condition
          c.in_ok-key_condition.ensures.said c.in_ok-condition.ensures.said
          c.in_err-update.field-0.0 c.in_err-update.ensures.said);
    }

pub returns-in_err-projection : goal.returns-in_err-projection
returns-in_err-projection c =
    let ms : Members = members_view c.args.body.now.entries in
    let older : machine.Older = older_of c.args.older.now in record {
      said = subst (λ r. Comes {X = Expressions} (λ e. e) (all_older older ms) r)
          (sym (err_is c.from_residual-in_err-projection.result c.in_err-projection.field-0.0
          c.from_residual-in_err-projection.ensures))
          (names_stop older ms (option_map (λ v. view v.now) c.value_at.result)
          (option_map (λ v. view v.now) c.value_at-2.result)
          (option_map (λ v. view v.now) c.value_at-3.result)
          (option_map (λ v. view v.now) c.value_at-4.result) c.asks-any.result
          c.value_at.ensures c.value_at-2.ensures c.value_at-3.ensures c.asks-any.ensures.asked
          c.in_ok-key_condition.key_condition c.in_ok-condition.condition
          c.in_ok-key_condition.ensures.said c.in_ok-condition.ensures.said
          c.in_ok-update.update c.in_ok-update.ensures.said c.value_at-4.ensures
          c.in_err-projection.field-0.0 c.in_err-projection.ensures.said);
    }
