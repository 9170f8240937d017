-- The row has the bytes of the description, and that time to live.
use Rattle.std.proofs.Common.{◌∙◌, ◌++◌, ap, refl, Some, option_map, Result, Ok, Err, IfOk}
use Rattle.alt_schemabytes.specs.Format.{description_bytes}
use Rattle.alt_tablerows.proofs.TableRow.{one_described, row_timed}
use Rattle.alt_tablerows.proofs.catalog_row.plain_row.Goals as goal

-- what holds of a value by what held of it
if_ok : {A E : Type 0} (P Q : A → Type 0) (r : Result A E) → ((x : A) → P x → Q x) → IfOk r P
    → IfOk r Q
if_ok P Q (Ok x) leads p = leads x p
if_ok P Q (Err e) leads p = tt

pub returns-in-Some : goal.returns-in-Some
returns-in-Some c = record {
  row = if_ok _ _ c.timed_row.result (λ row is. row_timed row (Some c.in-Some.name.now) _
      c.schema_bytes.new.out.items c.args.schema.now _ is
      (ap (option_map (λ t. t.now)) c.in-Some.is)
      (c.in_ok-schema_bytes.ensures.appended
      ∙ ap (λ b. b ++ description_bytes c.args.schema.now) c.new-bytes.ensures.items) refl)
      c.timed_row.ensures.row;
}

pub returns-in-None : goal.returns-in-None
returns-in-None c = record {
  row = if_ok _ _ c.one_column.result (λ row is. row_timed row _ _
      c.schema_bytes.new.out.items c.args.schema.now _
      (is ∙ one_described c.schema_bytes.new.out.items)
      (ap (option_map (λ t. t.now)) c.in-None.is)
      (c.in_ok-schema_bytes.ensures.appended
      ∙ ap (λ b. b ++ description_bytes c.args.schema.now) c.new-bytes.ensures.items) refl)
      c.one_column.ensures.row;
}
