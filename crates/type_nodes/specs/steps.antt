pub mod Graphs
