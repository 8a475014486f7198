pub mod Passes
pub mod ConverterAnswers
