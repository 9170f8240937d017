-- The whole is read as what is left is, behind those so far.
use Rattle.std.proofs.Common.{◌≡◌, ◌-◌, []}
use Rattle.alt_schemabytes.specs.Parts.{read_more, read_name, any_name}
use Rattle.alt_schemabytes.proofs.parts.take_each_name.Given as goal

abbrev pub invariant-loop-done : goal.invariant-loop-done
invariant-loop-done l = read_more (λ before. read_name any_name) l.count [] l.bytes
    ≡ read_more (λ before. read_name any_name) (l.count - l._done) l.list l.rest
