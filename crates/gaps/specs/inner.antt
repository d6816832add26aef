pub mod OpenGaps
