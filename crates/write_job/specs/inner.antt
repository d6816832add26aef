pub mod PutJob
