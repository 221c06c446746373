pub mod StandView
pub mod PartViews
pub mod BaseView
pub mod BoundView
pub mod CheckedForms
