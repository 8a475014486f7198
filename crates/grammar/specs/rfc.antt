-- The grammars of the RFCs, and what a derivation gives.
pub mod Types
pub mod Rfc5234
pub mod Rfc3629
pub mod Derived
pub mod Rfc8259
