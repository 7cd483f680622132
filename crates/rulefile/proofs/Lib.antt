mod Heads
mod Parts
