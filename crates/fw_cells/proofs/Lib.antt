pub mod ChangeLemmas
pub mod FindLemmas
pub mod LookLemmas
pub mod RunLemmas
pub mod ShownLemmas
pub mod SpanLemmas
