mod Older
mod Pieces
mod Restoring
