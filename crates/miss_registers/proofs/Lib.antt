mod Entries
mod LineMaps
