pub mod Among
pub mod OneVersion
pub mod PutLaws
pub mod ReadLaws
pub mod RecoverLaws
pub mod RuleLaws
pub mod AppendLaws
pub mod DistinctLaws
