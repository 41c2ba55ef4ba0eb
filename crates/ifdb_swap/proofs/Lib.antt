mod Damage
mod Files
mod Twice
mod Deciding
mod Names
mod Swaps
mod Ends
mod Inspecting
