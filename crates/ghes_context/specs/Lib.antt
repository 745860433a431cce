pub mod Context
pub mod Ends
pub mod Found
pub mod Nmi
pub mod Told
