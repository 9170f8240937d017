use Rattle.std.proofs.Common.{◌≡◌, ℕ, List, Option, Some, None, refl, sym, ◌∙◌, ap, subst}
use Rattle.alt_disk.specs.Fates.{Fits}
use Rattle.alt_disk.specs.Memory.{Track, at_moment}
use Rattle.alt_disk.specs.Stopped.{files_at_stop, choice_at, picked_image, settled, settled_fates}
use Rattle.alt_disk.specs.declared.made.Made.{Made}
use Rattle.alt_disk.proofs.MemoryCalls.{now_whole}
use Rattle.alt_disk.proofs.PickedFits.{picked_fits, choice_bytes, fitting_bytes}
use Rattle.alt_disk.proofs.memory.MemoryDisk.stopped.Goals as goal

settled-bytes : (file : Option (List ℕ)) → (settled file).bytes ≡ file
settled-bytes None = refl
settled-bytes (Some bytes) = refl

settled-fates : (file : Option (List ℕ)) → (settled file).fates ≡ settled_fates (settled file).bytes
settled-fates None = refl
settled-fates (Some bytes) = refl

pub returns-clause-picked : goal.returns-clause-picked
returns-clause-picked c f =
    ap (λ (s : Track). s.bytes) (c.in_ok-history.ensures.image f)
    ∙ settled-bytes (picked_image (λ g. at_moment c.args.moment g c.as_slice.result.now)
    c.args.choice.now f)
    ∙ ap (λ (calls : List Made). picked_image
    (λ g. at_moment c.args.moment g calls) c.args.choice.now f) c.as_slice.ensures.value

pub returns-clause-image : goal.returns-clause-image
returns-clause-image c f =
    let files : ℕ → Track = files_at_stop c.args.self.now c.args.moment in
    subst (λ (file : Option (List ℕ)). Fits (files f).fates file) (sym (returns-clause-picked c f))
    (picked_fits (files f) (choice_at files f c.args.choice.now)
    (choice_bytes files f c.args.choice.now
    (fitting_bytes c.args.choice.now c.type_inv.choice)))

pub returns-clause-synced : goal.returns-clause-synced
returns-clause-synced c f =
    let calls = c.in_ok-history.history.calls.items in
    let file = picked_image (λ g. at_moment c.args.moment g c.as_slice.result.now) c.args.choice.now
    f in
    let is = c.in_ok-history.ensures.image f in
    ap (λ (s : Track). s.fates) (now_whole calls 0 f c.in_ok-history.ensures.timed ∙ is)
    ∙ settled-fates file ∙ ap (λ (s : Track). settled_fates s.bytes) (sym is)
