pub mod Items
pub mod CappedSpans
pub mod WideSpans
