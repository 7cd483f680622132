mod Answering
mod Counting
mod Passing
