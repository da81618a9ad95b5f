pub mod Exchange
pub mod Exchanges
pub mod ReadBack
pub mod Wire
