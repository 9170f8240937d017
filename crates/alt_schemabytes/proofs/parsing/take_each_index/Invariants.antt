-- The whole is read as what is left is, behind those so far.
use Rattle.std.proofs.Common.{◌≡◌, ◌-◌, []}
use Rattle.alt_schemabytes.specs.Parts.{read_more, read_index}
use Rattle.alt_schemabytes.proofs.parsing.take_each_index.Given as goal

abbrev pub invariant-loop-done : goal.invariant-loop-done
invariant-loop-done l = read_more (λ before. read_index l.definitions) l.count [] l.bytes
    ≡ read_more (λ before. read_index l.definitions) (l.count - l._done) l.list l.rest
