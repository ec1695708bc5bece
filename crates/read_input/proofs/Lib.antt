mod AnyMetadata
mod Lines
mod Pieces
mod Program
mod Reading
mod Scan
