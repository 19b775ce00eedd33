pub mod Answered
mod Products
