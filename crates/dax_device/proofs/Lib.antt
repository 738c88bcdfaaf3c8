pub mod DeviceAnswers
pub mod RingImages
pub mod Serving
