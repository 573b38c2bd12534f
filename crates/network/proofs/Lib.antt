mod Lines
mod Zeros
