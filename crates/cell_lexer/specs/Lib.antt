pub mod ByteClass
