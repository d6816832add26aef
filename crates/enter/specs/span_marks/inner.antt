pub mod NewEntries
