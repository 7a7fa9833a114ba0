mod Kept
mod Laying
mod Scanning
mod Tables
mod Utf8
mod Closing
mod Spelled
mod Written
