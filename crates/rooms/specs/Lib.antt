pub mod tracks
