use Rattle.std.proofs.Common.{ℕ, ap, take, ◌∙◌}
use Rattle.alt_http.proofs.Fronts.{window_cut}
use Rattle.alt_http.proofs.reading.window.Goals as goal

pub returns : goal.returns
returns c = ap (λ (n : ℕ). take n c.args.bytes.now) c.min.ensures
    ∙ window_cut 16384 c.args.bytes.now
