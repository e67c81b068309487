mod Heads
mod Crossings
