pub mod Pool
pub mod UpTo
pub mod Laws
pub mod Inside
