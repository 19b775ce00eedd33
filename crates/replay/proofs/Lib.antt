mod Beside
mod Days
mod Lines
