pub mod ReplyCode
pub mod OneWay
