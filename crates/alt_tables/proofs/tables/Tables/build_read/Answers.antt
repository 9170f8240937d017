-- The rows of the items come in one write, with the description in which the index is built of them.
use Rattle.std.proofs.Common.{◌≡◌, ◌≢◌, [], ◌∷◌, sym, ap, subst, ◌∙◌, ℕ, true, List, Some, AllPairs, rules, arith}
use Rattle.std.proofs.lemmas.Slice.Eq.{bytes_eq-Decides}
use Rattle.std.specs.Str.{bytes_eq}
use Rattle.std.specs.FinMap as map
use Rattle.alt_disk.proofs.Runs.{quiet_start}
use Rattle.alt_machine.specs.Building.{with_built}
use Rattle.alt_machine.specs.Outcomes.{a_number}
use Rattle.alt_machine.specs.State.{Texts, families_of}
use Rattle.alt_machine.proofs.BuildSteps.{families_same}
use Rattle.alt_machine.proofs.Lacks.{has_number}
use Rattle.alt_schema.specs.declared.schema.TableSchema.{TableSchema}
use Rattle.alt_tables.specs.Stands.{Stands, catalog_of}
use Rattle.alt_tables.proofs.BuildStands.{batch_of, later_is, step_stands, step_turned}
use Rattle.alt_tables.proofs.Holding.{leaves_quiet}
use Rattle.alt_tables.proofs.TableMaking.{one_made}
use Rattle.alt_tables.proofs.tables.Tables.build_read.Goals as goal

pub returns-in_err-built-clause-disk : goal.returns-in_err-built-clause-disk
returns-in_err-built-clause-disk g c s t i stands at building =
    leaves_quiet (g.D.Disk.state c.args.disk.now) (g.D.Disk.state c.args.disk.now)
    c.args.self.now.engine s (with_built s c.args.most c.args.table.now t i ∷ []) stands.rows
    stands.valid (quiet_start (g.D.Disk.state c.args.disk.now))

pub returns-in_err-later-clause-disk : goal.returns-in_err-later-clause-disk
returns-in_err-later-clause-disk g c s t i stands at building =
    leaves_quiet (g.D.Disk.state c.args.disk.now) (g.D.Disk.state c.args.disk.now)
    c.args.self.now.engine s (with_built s c.args.most c.args.table.now t i ∷ []) stands.rows
    stands.valid (quiet_start (g.D.Disk.state c.args.disk.now))

pub returns-in_err-batch-clause-disk : goal.returns-in_err-batch-clause-disk
returns-in_err-batch-clause-disk g c s t i stands at building =
    leaves_quiet (g.D.Disk.state c.args.disk.now) (g.D.Disk.state c.args.disk.now)
    c.args.self.now.engine s (with_built s c.args.most c.args.table.now t i ∷ []) stands.rows
    stands.valid (quiet_start (g.D.Disk.state c.args.disk.now))

pub make-requires-clause-ready : goal.make-requires-clause-ready
make-requires-clause-ready g c trusted =
    let (s, stands) = c.requires.ready trusted in (s, stands.rows)

pub returns-in-Ok-clause-writes : goal.returns-in-Ok-clause-writes
returns-in-Ok-clause-writes g c s t i stands at building =
    let d = c.in-Some.schema.now in
    let here : map.get (catalog_of c.args.self.now) c.args.table.now ≡ Some d =
    sym c.in-Some.ensures.table in
    let read = c.requires.read s t i stands at building in
    let is_later = later_is (g.D.Disk.state c.args.disk.now) c.args.self.now s stands
    c.args.table.now t at i building c.args.most c.requires.some d here c.taken_of-taken.result
    c.args.items.now read c.taken_of-taken.ensures.all c.taken_of-taken.ensures.some
    c.in_ok-built.built c.in_ok-later.later c.in_ok-later.ensures.built
    c.in_ok-built.ensures.whole c.in_ok-built.ensures.up_to in
    let is = batch_of (g.D.Disk.state c.args.disk.now) c.args.self.now s stands
    c.args.table.now t at i building c.args.most c.requires.some d here c.taken_of-taken.result
    c.args.items.now read c.taken_of-taken.ensures.all c.taken_of-taken.ensures.some
    c.in_ok-built.built c.in_ok-later.later c.in_ok-later.ensures.built c.in_ok-batch.batch
    c.in_ok-batch.ensures.changes in
    let turned = step_turned (g.D.Disk.state c.args.disk.now) c.args.self.now s stands
    c.args.table.now t at i building c.args.most c.requires.some d here c.in_ok-later.later is_later
    c.in_ok-batch.batch is c.requires.room c.held.ensures.held in
    one_made (Stands (g.D.Disk.state c.make.new.disk) _) a_number s
    (with_built s c.args.most c.args.table.now t i)
    (step_stands (g.D.Disk.state c.args.disk.now) c.args.self.now s stands
    c.args.table.now t at i building c.args.most c.requires.some d here c.in_ok-later.later is_later
    c.in_ok-batch.batch is (g.D.Disk.state c.make.new.disk) _
    (c.in-Ok.ensures.ok s (with_built s c.args.most c.args.table.now t i) stands.rows turned)
    turned.valid
    (ap (λ (x : TableSchema). x.name) is_later
    ∙ (stands.valid.tables c.args.table.now t at).named)
    (c.replace.ensures.replaced
    ∙ ap (λ (m : Texts TableSchema). map.insert m c.in_ok-later.later.name c.in_ok-later.later)
    c.make.ensures.kept.0)
    c.make.ensures.kept.1 c.make.ensures.kept.2 c.make.ensures.kept.3 c.make.ensures.kept.4
    c.make.ensures.kept.5 c.make.ensures.kept.7 c.make.ensures.kept.6 c.in-Ok.ensures.next c.in-Ok.ensures.distinct
    (c.in-Ok.ensures.rows stands.rows.trusted stands.rows.layout stands.rows.is))
    (has_number s.next_number (omega (arith, stands.number, c.requires.room)))

pub returns-in-Ok-clause-disk : goal.returns-in-Ok-clause-disk
returns-in-Ok-clause-disk g c s t i stands at building =
    let d = c.in-Some.schema.now in
    let here : map.get (catalog_of c.args.self.now) c.args.table.now ≡ Some d =
    sym c.in-Some.ensures.table in
    let read = c.requires.read s t i stands at building in
    let is_later = later_is (g.D.Disk.state c.args.disk.now) c.args.self.now s stands
    c.args.table.now t at i building c.args.most c.requires.some d here c.taken_of-taken.result
    c.args.items.now read c.taken_of-taken.ensures.all c.taken_of-taken.ensures.some
    c.in_ok-built.built c.in_ok-later.later c.in_ok-later.ensures.built
    c.in_ok-built.ensures.whole c.in_ok-built.ensures.up_to in
    let is = batch_of (g.D.Disk.state c.args.disk.now) c.args.self.now s stands
    c.args.table.now t at i building c.args.most c.requires.some d here c.taken_of-taken.result
    c.args.items.now read c.taken_of-taken.ensures.all c.taken_of-taken.ensures.some
    c.in_ok-built.built c.in_ok-later.later c.in_ok-later.ensures.built c.in_ok-batch.batch
    c.in_ok-batch.ensures.changes in
    let turned = step_turned (g.D.Disk.state c.args.disk.now) c.args.self.now s stands
    c.args.table.now t at i building c.args.most c.requires.some d here c.in_ok-later.later is_later
    c.in_ok-batch.batch is c.requires.room c.held.ensures.held in
    c.make.ensures.disk s (with_built s c.args.most c.args.table.now t i) stands.rows stands.valid
    turned

pub returns-clause-disk : goal.returns-clause-disk
returns-clause-disk g c s t i stands at building =
    let d = c.in-Some.schema.now in
    let here : map.get (catalog_of c.args.self.now) c.args.table.now ≡ Some d =
    sym c.in-Some.ensures.table in
    let read = c.requires.read s t i stands at building in
    let is_later = later_is (g.D.Disk.state c.args.disk.now) c.args.self.now s stands
    c.args.table.now t at i building c.args.most c.requires.some d here c.taken_of-taken.result
    c.args.items.now read c.taken_of-taken.ensures.all c.taken_of-taken.ensures.some
    c.in_ok-built.built c.in_ok-later.later c.in_ok-later.ensures.built
    c.in_ok-built.ensures.whole c.in_ok-built.ensures.up_to in
    let is = batch_of (g.D.Disk.state c.args.disk.now) c.args.self.now s stands
    c.args.table.now t at i building c.args.most c.requires.some d here c.taken_of-taken.result
    c.args.items.now read c.taken_of-taken.ensures.all c.taken_of-taken.ensures.some
    c.in_ok-built.built c.in_ok-later.later c.in_ok-later.ensures.built c.in_ok-batch.batch
    c.in_ok-batch.ensures.changes in
    let turned = step_turned (g.D.Disk.state c.args.disk.now) c.args.self.now s stands
    c.args.table.now t at i building c.args.most c.requires.some d here c.in_ok-later.later is_later
    c.in_ok-batch.batch is c.requires.room c.held.ensures.held in
    c.make.ensures.disk s (with_built s c.args.most c.args.table.now t i) stands.rows stands.valid
    turned

pub returns-then-not-stands_under-clause-disk : goal.returns-then-not-stands_under-clause-disk
returns-then-not-stands_under-clause-disk g c s t i stands at building =
    leaves_quiet (g.D.Disk.state c.args.disk.now) (g.D.Disk.state c.args.disk.now)
    c.args.self.now.engine s (with_built s c.args.most c.args.table.now t i ∷ []) stands.rows
    stands.valid (quiet_start (g.D.Disk.state c.args.disk.now))

pub replace-requires-clause-there : goal.replace-requires-clause-there
replace-requires-clause-there g c =
    let told : bytes_eq c.in-Some.schema.now.name c.args.table.now ≡ true = search rules in
    (λ j. map.contains_key (c.make.ensures.kept.0 j)
    ((ap (λ (x : TableSchema). x.name) c.in_ok-later.ensures.built
    ∙ (bytes_eq-Decides c.in-Some.schema.now.name c.args.table.now).0 told) j))
    ∙ c.requires.there

pub replace-requires-clause-families : goal.replace-requires-clause-families
replace-requires-clause-families g c =
    subst (λ (fs : List ℕ). AllPairs (λ f g. f ≢ g) fs)
    (sym (ap families_of c.in_ok-later.ensures.built
    ∙ families_same c.in_ok-built.built c.in-Some.schema.now))
    c.in-Some.ensures.families
