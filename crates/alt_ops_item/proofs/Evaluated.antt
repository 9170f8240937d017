-- An update that was evaluated: its changes, or its fault.
use Rattle.std.proofs.Common.{◌≡◌, ◌≢◌, sym, ap, subst, ◌∙◌, List, [], Option, Result, Ok, Err, IfOk, IfErr, arith}
use Rattle.std.specs.Prelude.{unwrap_or}
use Rattle.alt_decimal.specs.declared.fault.NumberFault.{NumberFault}
use Rattle.alt_decimal.specs.declared.fault.NumberFault.TheVariants.{NotANumber, TooManyDigits, TooLarge, TooSmall}
use Rattle.alt_expr.specs.Located.{View}
use Rattle.alt_expr.specs.Updated.{ActionFault, updated}
use Rattle.alt_expr.specs.declared.update.Action.{Action}
use Rattle.alt_machine.specs.Conditional.{seen}
use Rattle.alt_machine.specs.Ops.UpdateItem.{item_after, or_update_refusal, names_of, pairs_of}
use Rattle.alt_machine.specs.Refusals.{number_refusal, ◌>>=◌}
use Rattle.alt_ops_item.specs.private.Updates.{with_changes, stop_of_update_fault}
use Rattle.alt_ops_item.proofs.Changed.{seen_is, pairs_are}
use Rattle.alt_request.specs.Steps.{Comes, IsMemory}
use Rattle.alt_request.specs.declared.stop.Stop.{Stop}
use Rattle.alt_shape.specs.Refusals.{Answer, IsKnown}
use Rattle.alt_updeval.specs.Answers.{fault_as_defined}
use Rattle.alt_updeval.specs.Changes.{changed_by}
use Rattle.alt_updeval.specs.declared.fault.UpdateFault.{UpdateFault}
use Rattle.alt_updeval.specs.declared.fault.UpdateFault.TheVariants as fault
use Rattle.alt_updeval.specs.declared.update.AttrChange.{AttrChange}
use Rattle.alt_value.specs.Item.{IsItem, at_name}
use Rattle.alt_value.specs.Tree.{Pair}

-- the item of what an update makes of the attributes
abbrev pub behind_view : List Action → Option (List Pair) → Result View ActionFault
    → Result (List Pair) Answer
behind_view update old r = or_update_refusal r
    >>= (λ view. Ok (pairs_of view (names_of update old)))

-- the refusal of a number has a message
number_known : (f : NumberFault) → IsKnown (number_refusal f)
number_known NotANumber = omega arith
number_known TooManyDigits = omega arith
number_known TooLarge = omega arith
number_known TooSmall = omega arith

module _ (old : Option (List Pair)) (update : List Action) (before : List Pair)
    (same : before ≡ unwrap_or old []) where
  -- the attributes that were there
  pub view_same : seen old ≡ (λ name. at_name name before)
  view_same = seen_is old ∙ ap (λ (i : List Pair). λ name. at_name name i) (sym same)

  -- the changes that were told, made of the item that was there
  pub after-changes : (cs : List AttrChange) → IsItem before
      → updated (λ name. at_name name before) update
      ≡ Ok (changed_by cs (λ name. at_name name before))
      → item_after update old ≡ Ok (with_changes cs before)
  after-changes cs item told =
      let told_so : updated (seen old) update ≡ Ok (changed_by cs (seen old)) =
      subst (λ (v : View). updated v update ≡ Ok (changed_by cs v)) (sym view_same) told in
      ap (behind_view update old) told_so
      ∙ ap (λ x. Ok x) (pairs_are old update cs (subst IsItem same item) told_so)
      ∙ ap (λ i. Ok (with_changes cs i)) (sym same)

  -- the refusal of a fault
  fault_so : (f : ActionFault) → updated (λ name. at_name name before) update ≡ Err f
      → item_after update old ≡ behind_view update old (Err f)
  fault_so f told = ap (behind_view update old)
      (subst (λ (v : View). updated v update ≡ Err f) (sym view_same) told)

  -- the fault that was told
  pub after-fault : (f : UpdateFault)
      → (f ≢ fault.NoMemory → updated (λ name. at_name name before) update ≡ Err (fault_as_defined f))
      → Comes {X = List Pair} (λ i. i) (item_after update old) (Err (stop_of_update_fault f))
  after-fault fault.BadPath told = (fault_so _ (told (λ e. let g : ⊥ = cc in g)), omega arith)
  after-fault fault.BadKind told = (fault_so _ (told (λ e. let g : ⊥ = cc in g)), omega arith)
  after-fault (fault.BadNumber n) told =
      (fault_so _ (told (λ e. let g : ⊥ = cc in g)), number_known n)
  after-fault fault.NoMemory told = tt

-- an item that was made, or want of memory for it
pub comes_made : (r : Result (List Pair) Answer) (made : List Pair) → r ≡ Ok made
    → (result : Result (List Pair) Stop) → IfOk result (λ i. i ≡ made) → IfErr result IsMemory
    → Comes (λ i. i) r result
comes_made r made e (Ok i) ok err = e ∙ ap (λ x. Ok x) (sym ok)
comes_made r made e (Err stop) ok err =
    subst (λ (s : Stop). Comes {X = List Pair} (λ i. i) r (Err s)) (sym err) tt
