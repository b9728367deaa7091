mod Ordered
mod Covered
mod Renewed
mod Left
mod There
