mod Keeps
mod Grammar
mod Words
mod Quiet
mod Landed
mod Blanks
