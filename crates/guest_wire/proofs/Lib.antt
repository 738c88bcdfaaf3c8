pub mod StepKeeps
pub mod Carrying
pub mod Judging
pub mod Hearing
pub mod Serving
