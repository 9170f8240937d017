-- A step of the merge beside the hand.
use Rattle.std.proofs.Common.{◌≡◌, ◌++◌, Err, take, drop, sym, ap, subst, ◌∙◌, refl}
use Rattle.alt_disk.specs.Disk.{DiskState}
use Rattle.alt_filemerge.specs.FileMerges.{MergeStands, any_file}
use Rattle.alt_hand.specs.Merging.{files_at}
use Rattle.alt_merging.specs.declared.merging.Merging.{Merging}
use Rattle.alt_merging.proofs.StepLaws.{cause_of, files_stay, hand_stays, images_stay, last_stays, moves_it, sound_source, steps, unspent_source}
use Rattle.alt_merging.proofs.merging.Merging.step.Goals as goal

pub step-requires-clause-stands : goal.step-requires-clause-stands
step-requires-clause-stands g c trusted =
    let given = c.requires trusted in
    let old = c.args.self.now in
    let files : c.first-files.result.now ≡ take old.taken (files_at c.args.hand.now old.family) =
    c.first-files.ensures ∙ ap (take old.taken) c.files.ensures in (
      given.3.done,
      given.1,
      subst (λ fs. MergeStands (g.D.Disk.state c.args.disk.now) fs old.merge given.3.done given.1)
          (sym files) given.3.stands,
    )

pub returns-in-Ok-clause-ok : goal.returns-in-Ok-clause-ok
returns-in-Ok-clause-ok g c trusted l stands left merging =
    let a : DiskState = g.D.Disk.state c.args.disk.now in
    let b : DiskState = g.D.Disk.state c.step.new.disk in
    let old = c.args.self.now in
    hand_stays a b c.args.hand.now l stands old.family old.taken merging.number old.file
    merging.merging (moves_it a b old.merge old.file trusted merging.output c.step.ensures.moves)

pub returns-in-Err-clause-ok : goal.returns-in-Err-clause-ok
returns-in-Err-clause-ok g c trusted l stands left merging =
    let a : DiskState = g.D.Disk.state c.args.disk.now in
    let b : DiskState = g.D.Disk.state c.step.new.disk in
    let old = c.args.self.now in
    hand_stays a b c.args.hand.now l stands old.family old.taken merging.number old.file
    merging.merging (moves_it a b old.merge old.file trusted merging.output c.step.ensures.moves)

pub returns-in-Ok-clause-any_moment : goal.returns-in-Ok-clause-any_moment
returns-in-Ok-clause-any_moment g c trusted l stands left merging =
    let a : DiskState = g.D.Disk.state c.args.disk.now in
    let b : DiskState = g.D.Disk.state c.step.new.disk in
    let old = c.args.self.now in
    images_stay a b c.args.hand.now l stands old.family old.taken merging.number old.file
    merging.merging (moves_it a b old.merge old.file trusted merging.output c.step.ensures.moves)

pub returns-in-Err-clause-any_moment : goal.returns-in-Err-clause-any_moment
returns-in-Err-clause-any_moment g c trusted l stands left merging =
    let a : DiskState = g.D.Disk.state c.args.disk.now in
    let b : DiskState = g.D.Disk.state c.step.new.disk in
    let old = c.args.self.now in
    images_stay a b c.args.hand.now l stands old.family old.taken merging.number old.file
    merging.merging (moves_it a b old.merge old.file trusted merging.output c.step.ensures.moves)

pub returns-in-Ok-clause-taken : goal.returns-in-Ok-clause-taken
returns-in-Ok-clause-taken g c trusted l stands left merging =
    let a : DiskState = g.D.Disk.state c.args.disk.now in
    let b : DiskState = g.D.Disk.state c.step.new.disk in
    let e = c.args.hand.now in
    let old = c.args.self.now in
    let new : Merging = record old { merge = c.step.new.self } in
    let files : c.first-files.result.now ≡ take old.taken (files_at e old.family) =
    c.first-files.ensures ∙ ap (take old.taken) c.files.ensures in
    let at = c.in-Ok.ensures.taken trusted merging.done left
    (subst (λ fs. MergeStands a fs old.merge merging.done left) (sym files) merging.stands) in (
      steps a b e l stands old new left (drop 256 left) (take 256 left) merging
          (moves_it a b old.merge old.file trusted merging.output c.step.ensures.moves) refl refl refl
          c.step.ensures.output c.step.ensures.purge
          (subst (λ fs. MergeStands b fs c.step.new.self (merging.done ++ take 256 left) (drop 256 left))
          files at.0),
      at.1,
    )

pub returns-in-Err-clause-cause : goal.returns-in-Err-clause-cause
returns-in-Err-clause-cause g c e =
    cause_of (any_file c.first-files.result.now) (g.D.Disk.state c.args.disk.now)
    (g.D.Disk.state c.step.new.disk) c.in-Err.fault c.from.result c.from.ensures c.in-Err.ensures.cause
    (Err c.from.result) refl e

pub returns-in-Ok-clause-still : goal.returns-in-Ok-clause-still
returns-in-Ok-clause-still g c trusted l stands left merging other =
    let a : DiskState = g.D.Disk.state c.args.disk.now in
    let b : DiskState = g.D.Disk.state c.step.new.disk in
    let old = c.args.self.now in
    files_stay a b c.args.hand.now l stands old.family old.taken merging.number old.file
    merging.merging (moves_it a b old.merge old.file trusted merging.output c.step.ensures.moves) other

pub returns-in-Err-clause-still : goal.returns-in-Err-clause-still
returns-in-Err-clause-still g c trusted l stands left merging other =
    let a : DiskState = g.D.Disk.state c.args.disk.now in
    let b : DiskState = g.D.Disk.state c.step.new.disk in
    let old = c.args.self.now in
    files_stay a b c.args.hand.now l stands old.family old.taken merging.number old.file
    merging.merging (moves_it a b old.merge old.file trusted merging.output c.step.ensures.moves) other

pub returns-in-Err-clause-unspent : goal.returns-in-Err-clause-unspent
returns-in-Err-clause-unspent g c =
    unspent_source c.in-Err.fault c.from.result c.from.ensures

pub returns-in-Err-clause-sound : goal.returns-in-Err-clause-sound
returns-in-Err-clause-sound g c trusted left merging =
    let a : DiskState = g.D.Disk.state c.args.disk.now in
    let old = c.args.self.now in
    let files : c.first-files.result.now ≡ take old.taken (files_at c.args.hand.now old.family) =
    c.first-files.ensures ∙ ap (take old.taken) c.files.ensures in
    sound_source c.in-Err.fault c.from.result c.from.ensures
    (c.in-Err.ensures.sound trusted merging.done left
    (subst (λ fs. MergeStands a fs old.merge merging.done left) (sym files) merging.stands))

pub returns-in-Ok-clause-last : goal.returns-in-Ok-clause-last
returns-in-Ok-clause-last g c trusted l stands left merging =
    let a : DiskState = g.D.Disk.state c.args.disk.now in
    let b : DiskState = g.D.Disk.state c.step.new.disk in
    let old = c.args.self.now in
    last_stays a b c.args.hand.now l stands old.family old.taken merging.number old.file
    merging.merging (moves_it a b old.merge old.file trusted merging.output c.step.ensures.moves)

pub returns-in-Ok-clause-only : goal.returns-in-Ok-clause-only
returns-in-Ok-clause-only g c trusted left merging f apart =
    let a : DiskState = g.D.Disk.state c.args.disk.now in
    let b : DiskState = g.D.Disk.state c.step.new.disk in
    let old = c.args.self.now in
    (moves_it a b old.merge old.file trusted merging.output c.step.ensures.moves).file f apart

pub returns-in-Err-clause-last : goal.returns-in-Err-clause-last
returns-in-Err-clause-last g c trusted l stands left merging =
    let a : DiskState = g.D.Disk.state c.args.disk.now in
    let b : DiskState = g.D.Disk.state c.step.new.disk in
    let old = c.args.self.now in
    last_stays a b c.args.hand.now l stands old.family old.taken merging.number old.file
    merging.merging (moves_it a b old.merge old.file trusted merging.output c.step.ensures.moves)

pub returns-in-Err-clause-only : goal.returns-in-Err-clause-only
returns-in-Err-clause-only g c trusted left merging f apart =
    let a : DiskState = g.D.Disk.state c.args.disk.now in
    let b : DiskState = g.D.Disk.state c.step.new.disk in
    let old = c.args.self.now in
    (moves_it a b old.merge old.file trusted merging.output c.step.ensures.moves).file f apart
