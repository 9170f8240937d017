-- The log in hand and the bytes of all entries, where files change.
use Rattle.std.proofs.Common.{◌≡◌, ℕ, List, []}
use Rattle.alt_disk.specs.Disk.{DiskState}
use Rattle.alt_gatelog.specs.InHand.{StandsForEntries as LogStands}
use Rattle.alt_gatelog.specs.declared.gatelog.GateLog.{GateLog}
use Rattle.alt_gatelog.proofs.Elsewhere.{reads_stays}
use Rattle.alt_layout.specs.Files.{Image}
use Rattle.alt_layout.proofs.EntryLaws.{holds_none}
use Rattle.alt_layout.proofs.SizeLaws.{sized_on}
use Rattle.alt_manifest.specs.Versions.{IsIn}
use Rattle.alt_writes.specs.Writes.{Write}
use Rattle.alt_hand.specs.InHand.{IsLength, LogHolds}

-- it holds what it held while its file reads as it read
pub holds_on : (a b : DiskState) (log : GateLog) (ws : List Write)
    → b.file log.file ≡ a.file log.file → LogHolds a log ws → LogHolds b log ws
holds_on a b log ws same holds = record {
  entries = holds.entries;
  reads = reads_stays a b log holds.entries same holds.reads;
  holds = holds.holds;
}

-- an empty log holds no writes
pub holds_empty : (s : DiskState) (log : GateLog) → LogStands s log [] → LogHolds s log []
holds_empty s log stands = record {
  entries = [];
  reads = stands.reads;
  holds = holds_none log.form;
}

-- segments have the bytes that they had while they read as they read
pub length_on : (image other : Image) (segments : List ℕ) (length : ℕ)
    → ((g : ℕ) → IsIn segments g → other g ≡ image g) → IsLength image segments length
    → IsLength other segments length
length_on image other segments length same is = record {
  bytes = is.bytes;
  sized = sized_on image other segments is.bytes same is.sized;
  is = is.is;
}
