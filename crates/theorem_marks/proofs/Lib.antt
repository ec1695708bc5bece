mod Marks
mod Order
pub mod Stand
mod Replies
pub mod Start
