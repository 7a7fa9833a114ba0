mod Closing
mod Numbers
