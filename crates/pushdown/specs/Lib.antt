pub mod Pushdown
pub mod AnyOrder
pub mod Laws
pub mod ReadBack
