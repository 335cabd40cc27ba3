pub mod Bytes
pub mod Grammar
pub mod Scanner
pub mod Layer
