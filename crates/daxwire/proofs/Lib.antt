pub mod ReadForms
pub mod WholeRuns
pub mod ServedChains
pub mod ServingChains
pub mod Divided
