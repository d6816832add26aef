pub mod span_marks
pub mod inner
