mod Slots
mod Faultless
