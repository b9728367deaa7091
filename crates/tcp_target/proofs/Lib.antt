mod Mapped
mod PlaceCuts
mod PlaceEnds
mod PlaceOrder
mod QueueCuts
mod Live
mod Others
mod Served
mod Counted
pub mod Ticking
mod ConnectionsStay
mod Roles
mod Connects
mod Cuts
mod QueuesApart
pub mod Apart
pub mod Order
pub mod Fine
pub mod Used
