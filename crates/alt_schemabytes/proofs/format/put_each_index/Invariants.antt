-- The bytes so far, and those to come.
use Rattle.std.proofs.Common.{◌≡◌, ◌++◌, drop}
use Rattle.alt_base.specs.Prefix.{IsPrefix}
use Rattle.alt_schemabytes.specs.Format.{index_bytes}
use Rattle.alt_schemabytes.specs.Format.{each}
use Rattle.alt_schemabytes.proofs.format.put_each_index.Given as goal

-- what is out and the bytes of those from here on stay together
abbrev pub invariant-loop-index : goal.invariant-loop-index
invariant-loop-index l = record {
  together : l.out.items ++ each index_bytes (drop l.index-index l.indexes) ≡ l.fn.out.items
      ++ each index_bytes l.indexes;
  begun : IsPrefix l.fn.out.items l.out.items;
}
