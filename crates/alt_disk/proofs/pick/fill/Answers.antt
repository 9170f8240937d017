use Rattle.std.proofs.Common.{◌≡◌, ◌++◌, ℕ, List, Some, ◌∙◌, ap, sym}
use Rattle.alt_disk.specs.Stopped.{filled, behind_filled, open_bytes, behind_length, laid}
use Rattle.alt_disk.specs.Trace.{generation_of}
use Rattle.alt_disk.proofs.Picking.{filled-append, behind-append}
use Rattle.alt_disk.proofs.pick.fill.Goals as goal

pub returns-clause-bytes : goal.returns-clause-bytes
returns-clause-bytes c =
    let g = generation_of c.args.copy.now in
    let choice = c.args.choice.now.rest.now in
    let known = c.as_slice.result.now in
    let first = c.length_past-past.new.choice.rest.now in
    let past = c.length_past-past.result in
    let front : c.fill_known.new.bytes.items ≡ filled known first =
    c.in_ok-fill_known.ensures.bytes ∙ ap
    (λ (l : List ℕ). l ++ filled known first) c.new-bytes.ensures.items in
    let both : c.fill_open.new.bytes.items ≡ filled (known ++ open_bytes past) first =
    c.in_ok-fill_open.ensures.bytes ∙ (λ i. front i
    ++ filled (open_bytes past) (c.in_ok-fill_known.ensures.rest i))
    ∙ sym (filled-append known (open_bytes past) first) in
    let whole : c.fill_open.new.bytes.items ≡ filled (laid g choice) (behind_length g choice) =
    both ∙ (λ i. filled (c.as_slice.ensures.value i
    ++ open_bytes (c.length_past-past.ensures.past i)) (c.length_past-past.ensures.rest i)) in
    ap (λ (l : List ℕ). Some l) whole

pub returns-clause-rest : goal.returns-clause-rest
returns-clause-rest c =
    let known = c.as_slice.result.now in
    let first = c.length_past-past.new.choice.rest.now in
    let past = c.length_past-past.result in
    c.in_ok-fill_open.ensures.rest ∙ ap (λ (l : List ℕ). behind_filled (open_bytes past) l)
    c.in_ok-fill_known.ensures.rest ∙ sym (behind-append known (open_bytes past) first)
    ∙ (λ i. behind_filled (c.as_slice.ensures.value i
    ++ open_bytes (c.length_past-past.ensures.past i)) (c.length_past-past.ensures.rest i))
