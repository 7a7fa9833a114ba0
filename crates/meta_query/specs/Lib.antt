pub mod Shapes
pub mod Seeds
pub mod Synth
pub mod Summary
pub mod Command
pub mod Recheck
pub mod Synthesis
pub mod Run
