pub mod Inside
pub mod Opening
pub mod Picking
pub mod Seeking
