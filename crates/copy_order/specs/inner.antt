pub mod KindTables
