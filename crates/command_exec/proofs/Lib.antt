mod Failing
mod Saving
mod Stopping
mod Tallies
