mod Bytes
mod Named
mod Saying
