pub mod Taken
pub mod OneEnd
pub mod Leading
pub mod SomeEnd
pub mod Turning
pub mod Examples
