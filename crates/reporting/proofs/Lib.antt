mod Reading
mod Settling
