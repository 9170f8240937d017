-- What the step of a merge makes of a draft, and of its layout.
use Rattle.std.proofs.Common.{⊎_elim, ℕ, List}
use Rattle.std.specs.List.{AllByRecursion}
use Rattle.alt_disk.specs.Disk.{DiskState, IsSettled}
use Rattle.alt_layout.specs.Families.{Held, flushed_of}
use Rattle.alt_layout.specs.Files.{HoldsRows}
use Rattle.alt_layout.specs.Merged.{MayReplace, version_made}
use Rattle.alt_layout.proofs.MergedLaws.{named_made, stored_made, version_made_is}
use Rattle.alt_manifest.specs.Versions.{IsIn, files_named}
use Rattle.alt_manifest.specs.declared.version.Version.{Version}
use Rattle.alt_writes.specs.Writes.{Write}
use Rattle.alt_flush.specs.Drafts.{Drafted}
use Rattle.alt_manifest.proofs.Among.{in_all}

-- The draft with what was made is one, once that lies on the disk.
pub merged_drafted : (s : DiskState) (u : Version) (held more : Held) (parts : List (List Write))
    (family taken number : ℕ) (made : List ℕ) → Drafted s u held parts
    → MayReplace u held more family taken number made
    → AllByRecursion (λ g. HoldsRows (more g) (flushed_of u.families family) (s.file g)) made
    → AllByRecursion (IsSettled s) made
    → Drafted s (version_made u family taken made) more parts
merged_drafted s u held more parts family taken number made drafted may new last = record {
  is = version_made_is u held more family taken number made drafted.is may;
  stored = stored_made u held more family taken number made drafted.is may s.file parts
      drafted.stored new;
  settled = λ g there. ⊎_elim (λ (new : IsIn made g). in_all (IsSettled s) made g last new)
      (λ (old : IsIn (files_named u) g). drafted.settled g old)
      (named_made u held more family taken number made drafted.is may g there);
  fresh = drafted.fresh;
  next = drafted.next;
}
