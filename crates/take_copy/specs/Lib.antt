pub mod copy_tests
pub mod kept_tracks
pub mod turn
