pub mod Homes
pub mod Reading
pub mod Laying
pub mod Changing
