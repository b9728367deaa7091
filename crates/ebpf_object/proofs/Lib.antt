mod Passed
mod Tables
mod Functions
mod Apart
mod Steps
