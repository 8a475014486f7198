pub mod Named
pub mod FirstByte
