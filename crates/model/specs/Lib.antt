-- rules: the definitions that a reader has to trust. laws: statements over them, proved in proofs/.
pub mod rules
pub mod laws
