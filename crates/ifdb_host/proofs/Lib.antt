mod Rests
mod Keeping
mod AtGates
mod Openings
mod Visits
