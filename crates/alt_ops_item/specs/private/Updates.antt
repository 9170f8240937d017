-- What changes make of an item, and what an update leaves at its place.
use Rattle.std.specs.Prelude.{◌≡◌, Bool, true, nat_le, List, [], ◌∷◌, Option, Some, None, unwrap_or, Result}
use Rattle.std.specs.Option.{option_map_or}
use Rattle.alt_expr.specs.Updated.{put_name}
use Rattle.alt_machine.specs.declared.Expressions.{Expressions}
use Rattle.alt_machine.specs.Ops.UpdateItem as machine
use Rattle.alt_machine.specs.Refusals.{first_answer, unless_answer, ◌>>=◌}
use Rattle.alt_request.specs.declared.stop.Stop.{Stop}
use Rattle.alt_request.specs.declared.stop.Stop.TheVariants.{Refused, Fault}
use Rattle.alt_schema.specs.declared.schema.TableSchema.{TableSchema}
use Rattle.alt_shape.specs.Refusals.{Answer}
use Rattle.alt_request.specs.TablesDeclaredTableFault.TheVariants.{NoMemory}
use Rattle.alt_updeval.specs.Answers.{fault_as_defined}
use Rattle.alt_updeval.specs.declared.fault.UpdateFault.{UpdateFault}
use Rattle.alt_updeval.specs.declared.fault.UpdateFault.TheVariants as fault
use Rattle.alt_updeval.specs.declared.update.AttrChange.{AttrChange}
use Rattle.alt_machine.specs.Valid.{deepest}
use Rattle.alt_value.specs.Item.{with_pair, without}
use Rattle.alt_value.specs.Size.{depth}
use Rattle.alt_value.specs.Stands.{tree_of}
use Rattle.alt_value.specs.Tree.{Pair}

-- an attribute has a new value, or isn't there any longer
abbrev pub with_attribute_change : AttrChange → List Pair → List Pair
with_attribute_change c item = option_map_or (λ a. put_name c.name (tree_of a) item) c.value
    (without c.name item)

-- one change after another
abbrev pub with_changes : List AttrChange → List Pair → List Pair
with_changes [] item = item
with_changes (c ∷ cs) item = with_changes cs (with_attribute_change c item)

-- a request stops for the fault of an update by its refusal, or for want of memory
abbrev pub stop_of_update_fault : UpdateFault → Stop
stop_of_update_fault fault.NoMemory = Fault NoMemory
stop_of_update_fault f = Refused (machine.update_refusal (fault_as_defined f))

-- what an update leaves at the place of a key, or the refusal of its first refused action, or of the table
abbrev pub left_or_refusal : TableSchema → Expressions → List Pair → Option (List Pair)
    → Result (Option (List Pair)) Answer
left_or_refusal d said key old = machine.item_after (unwrap_or said.update []) old
    >>= (λ item. unless_answer (first_answer (machine.of_left d (machine.left_by_update said key old item)))
    (machine.left_by_update said key old item))

-- an item got this pair
abbrev pub WithPart : Option Pair → List Pair → List Pair → Type 0
WithPart None old new = ⊥
WithPart (Some p) old new = new ≡ with_pair p.0 p.1 old

-- a value, if there is one, isn't too deep
abbrev pub is_flat : Option Pair → Bool
is_flat None = true
is_flat (Some p) = nat_le (depth p.1) deepest
