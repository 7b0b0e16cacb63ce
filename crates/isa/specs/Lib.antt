pub mod Answer
pub mod Flags
pub mod Map
pub mod Printed
pub mod PrintedFlags
