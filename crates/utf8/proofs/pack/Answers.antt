-- `utf8::pack` meets its contract: at each length the tests bound the bits below the tag, so that the tag adds.
use mathlib.Core.Path.{◌≡◌, sym, ◌∙◌}
use Prim.Native.Nat.{◌+◌, ◌/◌}
use native.Mathlib.Omega.{arith}
use lib.Bits.{bit_or, or_shifted_r}
use Rattle.utf8.proofs.Codes.{packed_one, packed_two, packed_three, packed_four, packed_none}
use Rattle.utf8.proofs.pack.Goals as goal

pub returns-in-0-to-127 : goal.returns-in-0-to-127
returns-in-0-to-127 c = c.new.ensures ∙ sym (packed_one c.args.u (omega arith))

pub returns-in-128-to-2047 : goal.returns-in-128-to-2047
returns-in-128-to-2047 c =
    let u = c.args.u in
    let lead : bit_or (u / 0x40) 0xC0 ≡ 0xC0 + u / 0x40 = or_shifted_r 6 5 (u / 0x40) (omega arith) in
    c.new-in-128-to-2047.ensures ∙ rw (lead, c.six_bits.ensures, packed_two u (omega arith) (omega arith))

pub returns-in-2048-to-65535 : goal.returns-in-2048-to-65535
returns-in-2048-to-65535 c =
    let u = c.args.u in
    let lead : bit_or (u / 0x1000) 0xE0 ≡ 0xE0 + u / 0x1000 = or_shifted_r 14 4 (u / 0x1000) (omega arith) in
    c.new-in-2048-to-65535.ensures
    ∙ rw (lead, c.six_bits-in-2048-to-65535.ensures, c.six_bits-in-2048-to-65535-2.ensures, packed_three u (omega arith) (omega arith))

pub returns-in-65536-to-1114111 : goal.returns-in-65536-to-1114111
returns-in-65536-to-1114111 c =
    let u = c.args.u in
    let lead : bit_or (u / 0x40000) 0xF0 ≡ 0xF0 + u / 0x40000 = or_shifted_r 30 3 (u / 0x40000) (omega arith) in
    c.new-in-65536-to-1114111.ensures
    ∙ rw (lead, c.six_bits-in-65536-to-1114111.ensures, c.six_bits-in-65536-to-1114111-2.ensures, c.six_bits-in-65536-to-1114111-3.ensures, packed_four u (omega arith) (omega arith))

pub returns-in_default : goal.returns-in_default
returns-in_default c = c.new-in_default.ensures ∙ sym (packed_none c.args.u (omega arith))
