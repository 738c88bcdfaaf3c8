pub mod AttributeLaws
pub mod ErrorNumbers
mod Examples
pub mod ForgetLaws
pub mod InitLaws
pub mod Laws
pub mod MappingLaws
pub mod OpenLaws
pub mod RecordLaws
