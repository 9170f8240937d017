pub mod FileMerges
