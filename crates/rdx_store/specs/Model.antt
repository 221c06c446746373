pub mod Codes
pub mod Shapes
pub mod KeyView
pub mod ShapeLaws
pub mod Entries
