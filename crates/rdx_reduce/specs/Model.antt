pub mod TotalOrder
