mod Writing
mod Walking
mod Sizing
mod Putting
mod Taking
