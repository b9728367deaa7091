pub mod Handing
pub mod Handed
pub mod Laws
pub mod Left
