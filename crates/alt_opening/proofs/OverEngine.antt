-- What is known of an engine in hand.
use Rattle.std.proofs.Common.{◌≡◌, ℕ, List, Option}
use Rattle.alt_disk.specs.Disk.{DiskState, IsImage}
use Rattle.alt_engine.proofs.HandHandLaws as laws
use Rattle.alt_layout.proofs.OneLayout.{one_layout}
use Rattle.alt_layout.specs.Files.{IsLayout}
use Rattle.alt_engine.specs.InHand.{ReadsLayout, StandsForLayout, hand_of}
use Rattle.alt_engine.proofs.EngineLaws as engine
use Rattle.alt_layout.specs.Layout.{Layout, IsPast}
use Rattle.alt_engine.specs.declared.engine.Engine.{Engine}

-- whatever a stop leaves holds its rows
pub in_each_image : (s : DiskState) (e : Engine) (l : Layout) → StandsForLayout s e l
    → (image : ℕ → Option (List ℕ)) → IsImage s s.moment image → IsLayout image l
in_each_image s e l stands image is = laws.each_image s (hand_of e) l stands.hand image is

-- and so do the files as they read
pub files_hold : (s : DiskState) (e : Engine) (l : Layout) → ReadsLayout s e l → IsLayout s.file l
files_hold s e l reads = laws.files_hold s (hand_of e) l reads

-- none of its rows has a cell of a later write
pub stands_past : (s : DiskState) (e : Engine) (l : Layout) → StandsForLayout s e l → IsPast l
stands_past s e l stands = laws.reads_past s (hand_of e) l stands.hand.reads

-- an engine has one layout
pub one_layout_in_hand : (s : DiskState) (e : Engine) (l m : Layout) → StandsForLayout s e l → StandsForLayout s e m
    → l ≡ m
one_layout_in_hand s e l m a b = one_layout s.file l m (files_hold s e l a.hand.reads)
    (files_hold s e m b.hand.reads)
