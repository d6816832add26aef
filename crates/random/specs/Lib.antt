pub mod SplitMix64
