-- The bytes so far, and those to come.
use Rattle.std.proofs.Common.{◌≡◌, ◌++◌, drop}
use Rattle.alt_base.specs.Prefix.{IsPrefix}
use Rattle.alt_schemabytes.specs.Format.{definition_bytes}
use Rattle.alt_schemabytes.specs.Format.{each}
use Rattle.alt_schemabytes.proofs.format.put_each_definition.Given as goal

-- what is out and the bytes of those from here on stay together
abbrev pub invariant-loop-definition : goal.invariant-loop-definition
invariant-loop-definition l = record {
  together : l.out.items ++ each definition_bytes (drop l.definition-index l.definitions)
      ≡ l.fn.out.items ++ each definition_bytes l.definitions;
  begun : IsPrefix l.fn.out.items l.out.items;
}
