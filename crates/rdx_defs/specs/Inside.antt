pub mod FormOutlines
pub mod BranchReadings
pub mod Contracts
pub mod FormViews
pub mod BareForms
