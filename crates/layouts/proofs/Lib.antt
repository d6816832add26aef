pub mod Legal
pub mod Chosen
pub mod Verdicts
pub mod Exact
pub mod FirstBad
pub mod OwnLines
pub mod Made
