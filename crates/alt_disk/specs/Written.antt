-- A call that writes.
use Rattle.std.specs.Prelude.{◌≡◌, ℕ, List}
use Rattle.alt_disk.specs.declared.made.Deed.{Deed}
use Rattle.alt_disk.specs.declared.made.Deed.TheVariants.{Write, WriteFailed, Sync, Remove, RemoveFailed}

-- it writes these bytes at a place
abbrev pub IsWrite : ℕ → List ℕ → Deed → Type 0
IsWrite at bytes (Write place written) = (place ≡ at) × (written.items ≡ bytes)
IsWrite at bytes (WriteFailed place count) = ⊥
IsWrite at bytes Sync = ⊥
IsWrite at bytes Remove = ⊥
IsWrite at bytes RemoveFailed = ⊥
