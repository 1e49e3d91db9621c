mod Binding
mod Cutting
mod Forwarding
mod Picking
mod Ringed
mod Rising
mod Seen
mod Walking
