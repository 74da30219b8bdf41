use Rattle.std.proofs.Common.{◌≡◌, ◌++◌, ◌∷◌, [], List, ℤ, map, length, get_or, Vec, Global, All, IsTrue, arith, refl, sym, ap, ◌∙◌, subst}
use Rattle.std.proofs.lemmas.List.{map-append}
use Rattle.bit_circuits.specs.declared.literal.Literal.{Literal}
use Rattle.bit_circuits.specs.Formula.{bits_at, op_bits, terms_bits as terms_bits_of}
use Rattle.bit_circuits.specs.Runs.{Adds, next_of}
use Rattle.bit_circuits.proofs.Formulas.Fitting.{are-over, over-at}
use Rattle.bit_circuits.proofs.WordArithmetic.Terms.{Words, length-bits_at}
use Rattle.bit_circuits.proofs.Construction.Growing.{words-more, terms-more, terms-end}
use Rattle.bit_circuits.proofs.term.terms_bits.Goals as goal

pub op_bits-requires-clause-wide : goal.op_bits-requires-clause-wide
op_bits-requires-clause-wide c = λ t.
    let items = λ (w : Vec Literal Global). w.items in
    ap (λ ws. length (bits_at (map items ws) t)) c.as_slice.ensures.value ∙ length-bits_at (next_of c.loop-op.netlist) (map items c.loop-op.words.items) t c.loop-op.invariant.wide

pub op_bits-requires-clause-over : goal.op_bits-requires-clause-over
op_bits-requires-clause-over c = over-at c.args.inputs c.args.ops.now c.loop-op.op-index _ (are-over c.args.inputs 0 c.args.ops.now c.requires.over) (omega arith)

pub loop-op-preserved : goal.loop-op-preserved
loop-op-preserved c =
    let items = λ (w : Vec Literal Global). w.items in
    let words = map items c.loop-op.words.items in
    let w = c.in_ok-word.word.items in
    let added = rw c.as_slice.ensures.value at c.in_ok-word.ensures in
    let next : map items c.push.new.self.items ≡ words ++ w ∷ [] = ap (map items) c.in_ok-push.ensures.items ∙ map-append items c.loop-op.words.items (c.in_ok-word.word ∷ []) in
    let grown = words-more c.args.inputs words _ w c.loop-op.netlist c.op_bits.new.netlist c.loop-op.invariant.past
    (over-at c.args.inputs c.args.ops.now c.loop-op.op-index _ (are-over c.args.inputs 0 c.args.ops.now c.requires.over) (omega arith)) c.loop-op.invariant.wide added in
    record {
      past = grown.1;
      wide = subst (λ ws. Words (next_of c.op_bits.new.netlist) ws) (sym next) grown.0;
      whole = terms-more (λ t out. Adds (terms_bits_of [] c.args.ops.now) c.args.netlist.now t out) c.args.ops.now words (map items c.push.new.self.items) c.loop-op.op-index _ _ w c.loop-op.netlist c.op_bits.new.netlist (omega arith) refl added next c.loop-op.invariant.whole;
    }

pub returns : goal.returns
returns c =
    let items = λ (w : Vec Literal Global). w.items in
    terms-end (λ t out. Adds (terms_bits_of [] c.args.ops.now) c.args.netlist.now t out) c.args.ops.now (map items c.loop-op.words.items) c.loop-op.op-index c.loop-op.netlist (omega arith) c.loop-op.invariant.whole
