mod Sums
mod Dealt
mod Fresh
