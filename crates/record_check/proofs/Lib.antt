pub mod DecodedNames
pub mod Keys
pub mod RepeatedNames
pub mod Records
