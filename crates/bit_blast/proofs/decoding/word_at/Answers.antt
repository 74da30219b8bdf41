use Rattle.std.proofs.Common.{◌≡◌, ◌<◌, ◌≤◌, ◌+◌, ◌*◌, ◌^◌, ℕ, Bool, true, false, arith}
use Rattle.bv_term.specs.Words.{flag}
use Rattle.bit_blast.proofs.Reading.{word-step, word-half, word-end}
use Rattle.bit_blast.proofs.decoding.word_at.Goals as goal

pub overflow_mul-word : goal.overflow_mul-word
overflow_mul-word c =
    let half : c.loop-bit.word < 2 ^ 31 = word-half c.args.values.now c.args.n c.loop-bit.bit c.loop-bit.word (omega arith) c.loop-bit.invariant in
    record { fits = omega (arith, half) }

by_bit : (word f : ℕ) (b : Bool) → word < 2 ^ 31 → f ≡ flag b → 2 * word + f < 2 ^ 32
by_bit word f true half e = omega arith
by_bit word f false half e = omega arith

pub overflow_add-word : goal.overflow_add-word
overflow_add-word c =
    let half : c.loop-bit.word < 2 ^ 31 = word-half c.args.values.now c.args.n c.loop-bit.bit c.loop-bit.word (omega arith) c.loop-bit.invariant in
    record { fits = by_bit c.loop-bit.word c.flag.result c.value_at.result half c.flag.ensures }

pub loop-bit-preserved : goal.loop-bit-preserved
loop-bit-preserved c = word-step c.args.values.now c.args.n c.loop-bit.bit c.loop-bit.word c.flag.result c.value_at.result (omega arith) (omega arith) c.loop-bit.invariant c.flag.ensures c.value_at.ensures

pub returns : goal.returns
returns c = word-end c.args.values.now c.args.n c.loop-bit.bit c.loop-bit.word (omega arith) c.loop-bit.invariant
