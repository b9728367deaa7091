mod Names
mod Parts
mod Tables
mod Whole
mod Fitting
