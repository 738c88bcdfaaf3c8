pub mod Options
pub mod Words
pub mod Numbers
pub mod Hexadecimal
pub mod Printed
pub mod Fronts
