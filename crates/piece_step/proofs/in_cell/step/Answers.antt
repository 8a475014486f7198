-- `piece_step::in_cell::step` meets its contract: ordinary bytes within the limits stay in the cell (proofs/InCell.antt), and all else
-- falls back.
use native.Mathlib.Omega.{arith}
use mathlib.Core.Path.{refl, sym, ◌∙◌}
use Rattle.std.proofs.Common.{rules, tests}
use Rattle.swar.specs.Words.{ordinary}
use Rattle.piece_step.specs.InCell.{not_found}
use Rattle.piece_step.proofs.InCell.{piece_kept}
use Rattle.piece_step.proofs.in_cell.step.Goals as goal

pub returns-then-not-fits : goal.returns-then-not-fits
returns-then-not-fits c = not_found refl

pub returns-in_default : goal.returns-in_default
returns-in_default c = not_found refl

pub returns-then-not-all_words : goal.returns-then-not-all_words
returns-then-not-all_words c = not_found refl

pub returns-in_err-q : goal.returns-in_err-q
returns-in_err-q c = rw c.from_residual.ensures (not_found refl)

pub buffer_open-fill-requires : goal.buffer_open-fill-requires
buffer_open-fill-requires c =
    let fits = c.fits.ensures c.if-not-fits.false in
    omega (arith, fits.in_record_lem, c.requires.in_bounds.fill, c.requires.bytes_len.0)

pub returns : goal.returns
returns c =
    let a = c.args in
    let fits = c.fits.ensures c.if-not-fits.false in
    let state = c.in-Inside.is in
    let stops = sym c.run_stop.ensures ∙ c.in_ok-q.was in
    let all = c.all_words.ensures (ordinary c.quote_of-quote.result c.in_ok-q.q) (λ w flags h p. search (rules, tests)) c.if-not-all_words.false in
    let kept = c.buffer_open-fill.ensures in
    piece_kept a.d a.piece.now a.p a.bytes.now a.ends.now c.requires.in_bounds c.requires.bytes_len.0 c.requires.bytes_len.1 _ _ state stops
    (rw c.quote_of-quote.ensures at all) fits _ kept.1 kept.0
