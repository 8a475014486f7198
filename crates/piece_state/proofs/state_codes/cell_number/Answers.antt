-- `piece_state::state_codes::cell_number` meets its contract.
use native.Mathlib.Omega.{arith}
use Rattle.piece_state.proofs.Codes.{char_small, hex_small, numeral_small, word_small}
use Rattle.piece_state.proofs.state_codes.cell_number.Goals as goal

pub overflow_add-result : goal.overflow_add-result
overflow_add-result c = omega (arith, c.char_number.ensures, char_small c.in-Quoted.t)

pub overflow_add-result-in-Plain : goal.overflow_add-result-in-Plain
overflow_add-result-in-Plain c = omega (arith, c.char_number-in-Plain.ensures, char_small c.in-Plain.t)

pub overflow_add-result-in-Hex : goal.overflow_add-result-in-Hex
overflow_add-result-in-Hex c = omega (arith, c.hex_number.ensures, hex_small c.in-Hex.h)

pub overflow_add-result-in-InNumber : goal.overflow_add-result-in-InNumber
overflow_add-result-in-InNumber c = omega (arith, c.numeral_number.ensures, numeral_small c.in-InNumber.m)

pub overflow_add-result-in-InWord : goal.overflow_add-result-in-InWord
overflow_add-result-in-InWord c = omega (arith, c.word_number.ensures, word_small c.in-InWord.w)
