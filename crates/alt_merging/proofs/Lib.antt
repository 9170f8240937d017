pub mod EachLaws
pub mod StepLaws
pub mod TombstoneLaws
pub use Rattle.alt_hand.proofs.AddingLaws as HandAddingLaws
pub use Rattle.alt_hand.proofs.BesideLaws as HandBesideLaws
pub use Rattle.alt_hand.proofs.CarryDrafts as HandCarryDrafts
pub use Rattle.alt_hand.proofs.CarryLaws as HandCarryLaws
pub use Rattle.alt_hand.proofs.EndLaws as HandEndLaws
pub use Rattle.alt_hand.proofs.HandLaws as HandHandLaws
pub use Rattle.alt_hand.proofs.NeedLaws as HandNeedLaws
pub use Rattle.alt_hand.proofs.SegmentFiles as HandSegmentFiles
pub use Rattle.alt_hand.proofs.WorkLaws as HandWorkLaws
