pub mod Steps
pub mod LayoutLemmas
pub mod ScatterLemmas
pub mod Examples
pub mod Lies
pub mod PutLemmas
pub mod Offers
pub mod QueueSizes
