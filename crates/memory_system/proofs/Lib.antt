-- What opening a stream comes to.
mod Opened
