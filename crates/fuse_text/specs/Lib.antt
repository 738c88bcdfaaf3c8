pub mod FieldText
pub mod Lines
pub mod RecordText
