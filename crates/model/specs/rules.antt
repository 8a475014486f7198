-- The rules (docs/RULES.md) as executable definitions, each file over those before it.
pub mod Types
pub mod Base
pub mod Dialect
pub mod Utf8
pub mod Cell
pub mod File
pub mod Decode
pub mod Text
pub mod Names
pub mod Report
pub mod Records
pub mod Api
pub mod Ledger
