mod Loads
mod Loading
mod Runs
mod Words
mod Answering
mod Witness
