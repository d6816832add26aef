pub mod ReadSets
