pub mod Answers
pub mod Devices
pub mod Queues
pub mod RingImage
