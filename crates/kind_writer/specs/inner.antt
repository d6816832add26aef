pub mod WalksKinds
