mod AfterName
mod First
mod Line
mod Numbers
mod Plain
mod Taken
