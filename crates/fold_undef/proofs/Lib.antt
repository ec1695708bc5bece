mod Telling
mod Onces
mod Gathering
mod Turns
