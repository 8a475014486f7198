-- Statements over the definitions: laws, round trips, the demands, and the examples of the rules.
pub mod Viable
pub mod Laws
pub mod Folding
pub mod RoundTrips
pub mod Demands
pub mod Scans
pub mod Targets
pub mod Places
pub mod Machine
pub mod Ascii
pub mod Computes
pub mod Examples
