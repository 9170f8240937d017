-- The elements so far have kinds, and their names are put in.
use Rattle.std.proofs.Common.{is_some}
use Rattle.std.specs.Str.{bytes_eq}
use Rattle.alt_schema.specs.Named.{kind_at}
use Rattle.alt_schema.proofs.InUse.{Goes}
use Rattle.alt_schema.proofs.rules.add_keys.Given as goal

abbrev pub invariant-loop-element : goal.invariant-loop-element
invariant-loop-element l =
    Goes (λ e. is_some (kind_at l.kinds e.name)) (λ name e. bytes_eq e.name name)
    l.fn.used l.used l.keys l.element-index
