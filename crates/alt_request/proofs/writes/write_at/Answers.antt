-- What is there couldn't be read; or it was, and what was decided is told or written.
use Rattle.std.proofs.Common.{◌≡◌, sym, ap, subst, ◌∙◌, ℕ, List, Option, Some, Ok}
use Rattle.std.specs.Prelude.{IfSome}
use Rattle.std.specs.FinMap as map
use Rattle.serde_json.specs.Data.{Members}
use Rattle.serde_json.specs.View.{members_view}
use Rattle.alt_disk.specs.Disk.{DiskState}
use Rattle.alt_machine.specs.Members.{table_name}
use Rattle.alt_machine.specs.Outcomes.{a_number}
use Rattle.alt_machine.specs.State.{State}
use Rattle.alt_machine.specs.Valid.{IsStored}
use Rattle.alt_machine.specs.Writes.{item_writes}
use Rattle.alt_request.specs.private.Decided.{decision, Decides}
use Rattle.alt_request.specs.ItemWrites.{Writer, changes_item}
use Rattle.alt_request.specs.declared.deciding.Decided.TheVariants.{Left}
use Rattle.alt_request.proofs.Decisions.{comes_decided, decided_left, left_answered}
use Rattle.alt_request.proofs.Named.{table_found}
use Rattle.alt_request.proofs.Working.{works_unfound, works_told, works_stopped, works_wrote, works_broke}
use Rattle.alt_schema.specs.declared.schema.TableSchema.{TableSchema}
use Rattle.alt_shape.specs.Refusals.{answer_of}
use Rattle.alt_said.proofs.TablesLooking.{ready_only}
use Rattle.alt_said.proofs.TablesStanding.{file_stays}
use Rattle.alt_said.specs.TablesFaults.{BreakOff}
use Rattle.alt_said.specs.TablesStands.{Stands, catalog_of}
use Rattle.alt_value.specs.Tree.{Pair}
use Rattle.alt_request.proofs.writes.write_at.Goals as goal

same_Some : {A : Type 0} (x y : A) → Some x ≡ Some y → x ≡ y
same_Some x y e = cc

pub returns-in-Err : goal.returns-in-Err
returns-in-Err g c = record {
  works = λ t.
      let ms : Members = members_view c.args.body.now.entries in
      let before : DiskState = g.D.Disk.state c.args.disk.now in
      let read : DiskState = g.D.Disk.state c.find.new.disk in
      works_unfound (λ s. changes_item g.W.ItemWrite.says s c.args.moment ms c.args.said.now c.args.item t
      c.args.place) (λ s. Stands before c.args.tables.now s
      × (map.get s.tables (table_name ms) ≡ Some t)) (Stands read c.find.new.self)
      c.args.tables.now before read (λ s h. h.0) c.in-Err.ensures.only.disk c.in-Err.fault
      (λ s h. c.in-Err.ensures.fails.fault s h.0) (λ s h. (c.in-Err.ensures.only.stays s).0 h.0)
      c.in-Err.ensures.fails.cause;
  limits = c.in-Err.ensures.only.catalog.limits;
}

pub returns-in-Ok-Told : goal.returns-in-Ok-Told
returns-in-Ok-Told g c = record {
  works = λ t.
      let ms : Members = members_view c.args.body.now.entries in
      let w : Writer = g.W.ItemWrite.says in
      let before : DiskState = g.D.Disk.state c.args.disk.now in
      let read : DiskState = g.D.Disk.state c.find.new.disk in
      let name : List ℕ = c.table_name-name.result.now in
      let old : State → Type 0 = λ s. Stands before c.args.tables.now s
      × (map.get s.tables (table_name ms) ≡ Some t) in
      let there : (s : State) → old s → map.get s.tables name ≡ Some t =
      λ s h. ap (map.get s.tables) c.table_name-name.ensures.name ∙ h.1 in
      works_told (λ s. changes_item w s c.args.moment ms c.args.said.now c.args.item t c.args.place) old
      (Stands read c.find.new.self) c.args.tables.now before read (λ s h. h.0) c.in-Ok.ensures.only.disk
      c.args.moment name t c.in-Ok.found.place
      (decision w ms c.in-Some.schema.now c.args.said.now c.args.item c.in-Ok.found.item)
      (λ s h. comes_decided w s c.args.moment ms c.args.said.now c.args.item t c.args.place
      c.in-Some.schema.now c.in-Ok.found.item read c.find.new.self name c.in-Ok.found.place
      c.table_name-name.ensures.name c.in-Ok.ensures.place c.in-Some.ensures.table
      ((c.in-Ok.ensures.only.stays s).0 h.0) (there s h)
      (c.in-Ok.ensures.item s h.0 t (there s h)))
      (λ s h. (c.in-Ok.ensures.only.stays s).0 h.0) c.in-Ok-Told.reply
      (rw c.in-Ok-Told.field-0-is at c.in-Ok-Told.ensures.decides);
  limits = c.in-Ok.ensures.only.catalog.limits;
}

pub returns-in-Err-decide : goal.returns-in-Err-decide
returns-in-Err-decide g c = record {
  works = λ t.
      let ms : Members = members_view c.args.body.now.entries in
      let w : Writer = g.W.ItemWrite.says in
      let before : DiskState = g.D.Disk.state c.args.disk.now in
      let read : DiskState = g.D.Disk.state c.find.new.disk in
      let name : List ℕ = c.table_name-name.result.now in
      let old : State → Type 0 = λ s. Stands before c.args.tables.now s
      × (map.get s.tables (table_name ms) ≡ Some t) in
      let there : (s : State) → old s → map.get s.tables name ≡ Some t =
      λ s h. ap (map.get s.tables) c.table_name-name.ensures.name ∙ h.1 in
      works_stopped (λ s. changes_item w s c.args.moment ms c.args.said.now c.args.item t c.args.place) old
      (Stands read c.find.new.self) c.args.tables.now before read (λ s h. h.0) c.in-Ok.ensures.only.disk
      c.args.moment name t c.in-Ok.found.place
      (decision w ms c.in-Some.schema.now c.args.said.now c.args.item c.in-Ok.found.item)
      (λ s h. comes_decided w s c.args.moment ms c.args.said.now c.args.item t c.args.place
      c.in-Some.schema.now c.in-Ok.found.item read c.find.new.self name c.in-Ok.found.place
      c.table_name-name.ensures.name c.in-Ok.ensures.place c.in-Some.ensures.table
      ((c.in-Ok.ensures.only.stays s).0 h.0) (there s h)
      (c.in-Ok.ensures.item s h.0 t (there s h)))
      (λ s h. (c.in-Ok.ensures.only.stays s).0 h.0) c.in-Err-decide.stop
      c.in-Err-decide.ensures.decides;
  limits = c.in-Ok.ensures.only.catalog.limits;
}

pub returns-in-Ok-write : goal.returns-in-Ok-write
returns-in-Ok-write g c = record {
  works = λ t.
      let ms : Members = members_view c.args.body.now.entries in
      let w : Writer = g.W.ItemWrite.says in
      let before : DiskState = g.D.Disk.state c.args.disk.now in
      let read : DiskState = g.D.Disk.state c.find.new.disk in
      let name : List ℕ = c.table_name-name.result.now in
      let old : State → Type 0 = λ s. Stands before c.args.tables.now s
      × (map.get s.tables (table_name ms) ≡ Some t) in
      let there : (s : State) → old s → map.get s.tables name ≡ Some t =
      λ s h. ap (map.get s.tables) c.table_name-name.ensures.name ∙ h.1 in
      let after : DiskState = g.D.Disk.state c.write.new.disk in
      works_wrote (λ s. changes_item w s c.args.moment ms c.args.said.now c.args.item t c.args.place) old
      (Stands after c.write.new.self) c.args.tables.now before read (λ s h. h.0) c.in-Ok.ensures.only.disk
      c.args.moment name t c.in-Ok.found.place
      (decision w ms c.in-Some.schema.now c.args.said.now c.args.item c.in-Ok.found.item)
      (λ s h. comes_decided w s c.args.moment ms c.args.said.now c.args.item t c.args.place
      c.in-Some.schema.now c.in-Ok.found.item read c.find.new.self name c.in-Ok.found.place
      c.table_name-name.ensures.name c.in-Ok.ensures.place c.in-Some.ensures.table
      ((c.in-Ok.ensures.only.stays s).0 h.0) (there s h)
      (c.in-Ok.ensures.item s h.0 t (there s h)))
      c.in-Ok-Left.new c.in-Ok-Left.reply
      (rw c.in-Ok-Left.field-0-is at c.in-Ok-Left.ensures.decides) after
      c.in-Ok-write.ensures.goes
      (λ s h. c.in-Ok-write.ensures.disk s t ((c.in-Ok.ensures.only.stays s).0 h.0) (there s h))
      (λ s h. c.in-Ok-write.ensures.writes s t ((c.in-Ok.ensures.only.stays s).0 h.0) (there s h))
      (let decided : Decides (decision w ms c.in-Some.schema.now c.args.said.now c.args.item
      c.in-Ok.found.item) (Ok (Left c.in-Ok-Left.new c.in-Ok-Left.reply)) =
      rw c.in-Ok-Left.field-0-is at c.in-Ok-Left.ensures.decides in
      left_answered w ms c.in-Some.schema.now c.args.said.now c.args.item c.in-Ok.found.item
      c.in-Ok-Left.new (answer_of c.in-Ok-Left.reply) decided.0);
  limits = c.in-Ok-write.ensures.limits ∙ c.in-Ok.ensures.only.catalog.limits;
}

pub returns-in-Err-write : goal.returns-in-Err-write
returns-in-Err-write g c = record {
  works = λ t.
      let ms : Members = members_view c.args.body.now.entries in
      let w : Writer = g.W.ItemWrite.says in
      let before : DiskState = g.D.Disk.state c.args.disk.now in
      let read : DiskState = g.D.Disk.state c.find.new.disk in
      let name : List ℕ = c.table_name-name.result.now in
      let old : State → Type 0 = λ s. Stands before c.args.tables.now s
      × (map.get s.tables (table_name ms) ≡ Some t) in
      let there : (s : State) → old s → map.get s.tables name ≡ Some t =
      λ s h. ap (map.get s.tables) c.table_name-name.ensures.name ∙ h.1 in
      let after : DiskState = g.D.Disk.state c.write.new.disk in
      works_broke (λ s. changes_item w s c.args.moment ms c.args.said.now c.args.item t c.args.place) old
      (Stands after c.write.new.self) c.args.tables.now before read (λ s h. h.0) c.in-Ok.ensures.only.disk
      c.args.moment name t c.in-Ok.found.place
      (decision w ms c.in-Some.schema.now c.args.said.now c.args.item c.in-Ok.found.item)
      (λ s h. comes_decided w s c.args.moment ms c.args.said.now c.args.item t c.args.place
      c.in-Some.schema.now c.in-Ok.found.item read c.find.new.self name c.in-Ok.found.place
      c.table_name-name.ensures.name c.in-Ok.ensures.place c.in-Some.ensures.table
      ((c.in-Ok.ensures.only.stays s).0 h.0) (there s h)
      (c.in-Ok.ensures.item s h.0 t (there s h)))
      c.in-Ok-Left.new c.in-Ok-Left.reply
      (rw c.in-Ok-Left.field-0-is at c.in-Ok-Left.ensures.decides) after
      c.in-Err-write.ensures.goes
      (λ s h. c.in-Err-write.ensures.disk s t ((c.in-Ok.ensures.only.stays s).0 h.0) (there s h))
      c.in-Err-write.fault
      (λ s h. subst (λ (n : ℕ). BreakOff n (Stands after c.write.new.self) a_number s
      (item_writes s c.args.moment name t c.in-Ok.found.place c.in-Ok-Left.new) c.in-Err-write.fault)
      (file_stays c.args.tables.now c.find.new.self c.in-Ok.ensures.only.catalog.limits)
      (c.in-Err-write.ensures.writes s t ((c.in-Ok.ensures.only.stays s).0 h.0) (there s h)))
      c.in-Err-write.ensures.cause c.in-Err-write.ensures.no_memory;
  limits = c.in-Err-write.ensures.limits ∙ c.in-Ok.ensures.only.catalog.limits;
}

pub write-requires-clause-ready : goal.write-requires-clause-ready
write-requires-clause-ready g c = ready_only c.in-Ok.ensures.only c.requires.ready

pub write-requires-clause-new : goal.write-requires-clause-new
write-requires-clause-new g c s stands d there =
    let w : Writer = g.W.ItemWrite.says in
    let new : Option (List Pair) = c.in-Ok-Left.new in
    let decided : Decides (decision w (members_view c.args.body.now.entries) c.in-Some.schema.now
    c.args.said.now c.args.item c.in-Ok.found.item) (Ok (Left new c.in-Ok-Left.reply)) =
    rw c.in-Ok-Left.field-0-is at c.in-Ok-Left.ensures.decides in
    let stood = (c.in-Ok.ensures.only.stays s).1 stands in
    let (t, at, same) = table_found s (catalog_of c.find.new.self) (sym stands.catalog)
    c.table_name-name.result.now d there in
    let found = c.in-Ok.ensures.item s stood t at
    ∙ ap (map.get t.items) c.in-Ok.ensures.place in
    let schema : c.in-Some.schema.now ≡ t.description =
    same_Some c.in-Some.schema.now d (c.in-Some.ensures.table ∙ there) ∙ sym same in
    let left : w.leaves t.description c.args.said.now c.args.item (map.get t.items c.args.place)
    ≡ Ok new =
    (λ i. w.leaves (sym schema i) c.args.said.now c.args.item (sym found i))
    ∙ decided_left w (members_view c.args.body.now.entries) c.in-Some.schema.now c.args.said.now
    c.args.item c.in-Ok.found.item new (answer_of c.in-Ok-Left.reply) decided.0 in
    subst (λ (p : List ℕ). IfSome new (IsStored d p)) (sym c.in-Ok.ensures.place)
    (subst (λ (x : TableSchema). IfSome new (IsStored x c.args.place)) same
    (c.requires.stored s t stood
    (sym (ap (map.get s.tables) c.table_name-name.ensures.name) ∙ at) new left))
