pub mod Extending
pub mod Ids
pub mod ShapesOfTrees
pub mod Inserting
