mod Keeping
mod First
mod Serving
mod Compactions
mod Inspections
