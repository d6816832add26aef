pub mod SlotWalk
