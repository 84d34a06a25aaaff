pub mod LengthSpans
