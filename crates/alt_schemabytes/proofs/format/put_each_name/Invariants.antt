-- The bytes so far, and those to come.
use Rattle.std.proofs.Common.{◌≡◌, ◌++◌, drop}
use Rattle.alt_base.specs.Prefix.{IsPrefix}
use Rattle.alt_fields.specs.Field.{field}
use Rattle.alt_schemabytes.specs.Format.{each}
use Rattle.alt_schemabytes.proofs.format.put_each_name.Given as goal

-- what is out and the bytes of those from here on stay together
abbrev pub invariant-loop-name : goal.invariant-loop-name
invariant-loop-name l = record {
  together : l.out.items ++ each field (drop l.name-index l.names) ≡ l.fn.out.items
      ++ each field l.names;
  begun : IsPrefix l.fn.out.items l.out.items;
}
