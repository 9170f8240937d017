-- What follows of versions and of their bytes alone.
use Rattle.std.specs.Prelude.{◌≡◌, ℕ, List, Option}
use Rattle.alt_manifest.specs.Versions.{HasVersion, IsVersion, version_bytes}
use Rattle.alt_manifest.specs.declared.version.Version.{Version}

-- Bytes are those of one version at most.
abbrev pub OneVersion : Type 0
OneVersion = (v w : Version) → IsVersion v → IsVersion w → version_bytes v ≡ version_bytes w → v ≡ w

-- A file has one last version at most.
abbrev pub OneLastVersion : Type 0
OneLastVersion = (file : Option (List ℕ)) (v w : Version) → HasVersion v file → HasVersion w file
    → v ≡ w
