-- The types of the scanner's step, under short names.
pub use Rattle.record_scanner.specs.declared.record_state.RecordState.{RecordState}
pub use Rattle.record_scanner.specs.declared.token.Token.{Token}
pub use Rattle.record_scanner.specs.declared.token.Token.TheVariants.{Is, Skipped, AfterCell, Refused, Open}
pub use Rattle.record_scanner.specs.declared.token.ScanOutcome.{ScanOutcome}
