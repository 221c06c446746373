pub mod FilledItems
pub mod StepsDown
