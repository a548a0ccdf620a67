pub mod ByteLoops
pub mod Copying
