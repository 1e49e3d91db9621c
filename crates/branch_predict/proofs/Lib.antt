mod Settings
mod Squashes
