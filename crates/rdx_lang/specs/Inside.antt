pub mod Capped
pub mod Keys
pub mod Alternatives
pub mod Texts
pub mod Places
