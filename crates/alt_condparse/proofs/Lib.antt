pub mod CrowdedLaws
