pub mod Field
pub mod Form
pub mod Memory
pub mod Pcie
pub mod Processor
pub mod Row
pub mod Section
