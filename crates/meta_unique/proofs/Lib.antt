mod ProbeOrder
mod Walks
mod Sizes
mod Filling
mod Indexes
mod Selecting
mod Overlaps
pub mod Numbered
pub mod Finding
pub mod OneFilling
