pub mod AscendingProps
pub mod RankProps
pub mod ValueOrder
pub mod TotalOrders
pub mod Places
pub mod FactProps
