pub mod Faults
pub mod Taking
pub mod Putting
pub mod MemSource
pub mod MemSink
pub mod SteadySource
pub mod SteadySink
pub mod StdEnds
