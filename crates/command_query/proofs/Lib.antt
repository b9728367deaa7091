mod Cut
mod Makes
