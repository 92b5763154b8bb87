mod NoEnds
mod Fitting
mod FirstLine
mod Stopping
mod Outcomes
mod AsLoose
mod Recovering
