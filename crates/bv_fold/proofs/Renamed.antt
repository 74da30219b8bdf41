-- The word of an operator over other operands.
use Rattle.std.proofs.Common.{◌≡◌, ◌<◌, ℕ, false, List, [], ◌∷◌, refl}
use Rattle.std.specs.Prelude.{map}
use Rattle.bv_term.specs.declared.op.Op.{Op}
use Rattle.bv_term.specs.declared.op.Op.TheVariants as op
use Rattle.bv_term.specs.Words.{op_word}
use Rattle.bv_term.specs.Stores.{FitsOp}
use Rattle.bv_fold.specs.Folding.{operands, is_input}
use Rattle.bv_fold.specs.Steps.{renamed_op, AreBelow}

-- over renamed operands it is that over their words
pub word_renamed : (input at to : ℕ → ℕ) (o : Op) → op_word input at (renamed_op to o) ≡ op_word input (λ s. at (to s)) o
word_renamed input at to (op.Input n) = refl
word_renamed input at to (op.Const n) = refl
word_renamed input at to (op.Not a) = refl
word_renamed input at to (op.Neg a) = refl
word_renamed input at to (op.Add a b) = refl
word_renamed input at to (op.Sub a b) = refl
word_renamed input at to (op.Mul a b) = refl
word_renamed input at to (op.DivU a b) = refl
word_renamed input at to (op.RemU a b) = refl
word_renamed input at to (op.DivS a b) = refl
word_renamed input at to (op.RemS a b) = refl
word_renamed input at to (op.Shl a b) = refl
word_renamed input at to (op.ShrU a b) = refl
word_renamed input at to (op.ShrS a b) = refl
word_renamed input at to (op.And a b) = refl
word_renamed input at to (op.Or a b) = refl
word_renamed input at to (op.Xor a b) = refl
word_renamed input at to (op.Eq a b) = refl
word_renamed input at to (op.LtU a b) = refl
word_renamed input at to (op.LtS a b) = refl
word_renamed input at to (op.Ite c a b) = refl

-- two words for each of these terms are the same
abbrev pub AreSameAt : (ℕ → ℕ) → (ℕ → ℕ) → List ℕ → Type 0
AreSameAt f g [] = Unit {0}
AreSameAt f g (s ∷ ss) = (f s ≡ g s) × AreSameAt f g ss

-- the word of an operator that is no input depends on those of its operands alone
pub word_on_operands : (input other f g : ℕ → ℕ) (o : Op) → is_input o ≡ false → AreSameAt f g (operands o) → op_word input f o ≡ op_word other g o
word_on_operands input other f g (op.Input n) other_op h = absurd (cc other_op)
word_on_operands input other f g (op.Const n) _ h = refl
word_on_operands input other f g (op.Not a) _ h = cc h.0
word_on_operands input other f g (op.Neg a) _ h = cc h.0
word_on_operands input other f g (op.Add a b) _ h = cc (h.0, h.1.0)
word_on_operands input other f g (op.Sub a b) _ h = cc (h.0, h.1.0)
word_on_operands input other f g (op.Mul a b) _ h = cc (h.0, h.1.0)
word_on_operands input other f g (op.DivU a b) _ h = cc (h.0, h.1.0)
word_on_operands input other f g (op.RemU a b) _ h = cc (h.0, h.1.0)
word_on_operands input other f g (op.DivS a b) _ h = cc (h.0, h.1.0)
word_on_operands input other f g (op.RemS a b) _ h = cc (h.0, h.1.0)
word_on_operands input other f g (op.Shl a b) _ h = cc (h.0, h.1.0)
word_on_operands input other f g (op.ShrU a b) _ h = cc (h.0, h.1.0)
word_on_operands input other f g (op.ShrS a b) _ h = cc (h.0, h.1.0)
word_on_operands input other f g (op.And a b) _ h = cc (h.0, h.1.0)
word_on_operands input other f g (op.Or a b) _ h = cc (h.0, h.1.0)
word_on_operands input other f g (op.Xor a b) _ h = cc (h.0, h.1.0)
word_on_operands input other f g (op.Eq a b) _ h = cc (h.0, h.1.0)
word_on_operands input other f g (op.LtU a b) _ h = cc (h.0, h.1.0)
word_on_operands input other f g (op.LtS a b) _ h = cc (h.0, h.1.0)
word_on_operands input other f g (op.Ite c a b) _ h = cc (h.0, h.1.0, h.1.1.0)

-- an operator that fits has operands below, and fits where they are renamed below
pub operands_below : (inputs k : ℕ) (o : Op) → FitsOp inputs k o → AreBelow k (operands o)
operands_below inputs k (op.Input n) h = tt
operands_below inputs k (op.Const n) h = tt
operands_below inputs k (op.Not a) h = (h, tt)
operands_below inputs k (op.Neg a) h = (h, tt)
operands_below inputs k (op.Add a b) h = (h.0, (h.1, tt))
operands_below inputs k (op.Sub a b) h = (h.0, (h.1, tt))
operands_below inputs k (op.Mul a b) h = (h.0, (h.1, tt))
operands_below inputs k (op.DivU a b) h = (h.0, (h.1, tt))
operands_below inputs k (op.RemU a b) h = (h.0, (h.1, tt))
operands_below inputs k (op.DivS a b) h = (h.0, (h.1, tt))
operands_below inputs k (op.RemS a b) h = (h.0, (h.1, tt))
operands_below inputs k (op.Shl a b) h = (h.0, (h.1, tt))
operands_below inputs k (op.ShrU a b) h = (h.0, (h.1, tt))
operands_below inputs k (op.ShrS a b) h = (h.0, (h.1, tt))
operands_below inputs k (op.And a b) h = (h.0, (h.1, tt))
operands_below inputs k (op.Or a b) h = (h.0, (h.1, tt))
operands_below inputs k (op.Xor a b) h = (h.0, (h.1, tt))
operands_below inputs k (op.Eq a b) h = (h.0, (h.1, tt))
operands_below inputs k (op.LtU a b) h = (h.0, (h.1, tt))
operands_below inputs k (op.LtS a b) h = (h.0, (h.1, tt))
operands_below inputs k (op.Ite c a b) h = (h.0, (h.1, (h.2, tt)))

pub renamed_fits : (inputs k many : ℕ) (to : ℕ → ℕ) (o : Op) → FitsOp inputs k o → ((s : ℕ) → s < k → to s < many) → FitsOp inputs many (renamed_op to o)
renamed_fits inputs k many to (op.Input n) h below = h
renamed_fits inputs k many to (op.Const n) h below = h
renamed_fits inputs k many to (op.Not a) h below = below a h
renamed_fits inputs k many to (op.Neg a) h below = below a h
renamed_fits inputs k many to (op.Add a b) h below = (below a h.0, below b h.1)
renamed_fits inputs k many to (op.Sub a b) h below = (below a h.0, below b h.1)
renamed_fits inputs k many to (op.Mul a b) h below = (below a h.0, below b h.1)
renamed_fits inputs k many to (op.DivU a b) h below = (below a h.0, below b h.1)
renamed_fits inputs k many to (op.RemU a b) h below = (below a h.0, below b h.1)
renamed_fits inputs k many to (op.DivS a b) h below = (below a h.0, below b h.1)
renamed_fits inputs k many to (op.RemS a b) h below = (below a h.0, below b h.1)
renamed_fits inputs k many to (op.Shl a b) h below = (below a h.0, below b h.1)
renamed_fits inputs k many to (op.ShrU a b) h below = (below a h.0, below b h.1)
renamed_fits inputs k many to (op.ShrS a b) h below = (below a h.0, below b h.1)
renamed_fits inputs k many to (op.And a b) h below = (below a h.0, below b h.1)
renamed_fits inputs k many to (op.Or a b) h below = (below a h.0, below b h.1)
renamed_fits inputs k many to (op.Xor a b) h below = (below a h.0, below b h.1)
renamed_fits inputs k many to (op.Eq a b) h below = (below a h.0, below b h.1)
renamed_fits inputs k many to (op.LtU a b) h below = (below a h.0, below b h.1)
renamed_fits inputs k many to (op.LtS a b) h below = (below a h.0, below b h.1)
renamed_fits inputs k many to (op.Ite c a b) h below = (below c h.0, below a h.1, below b h.2)

pub is_input_renamed : (to : ℕ → ℕ) (o : Op) → is_input (renamed_op to o) ≡ is_input o
is_input_renamed to (op.Input n) = refl
is_input_renamed to (op.Const n) = refl
is_input_renamed to (op.Not a) = refl
is_input_renamed to (op.Neg a) = refl
is_input_renamed to (op.Add a b) = refl
is_input_renamed to (op.Sub a b) = refl
is_input_renamed to (op.Mul a b) = refl
is_input_renamed to (op.DivU a b) = refl
is_input_renamed to (op.RemU a b) = refl
is_input_renamed to (op.DivS a b) = refl
is_input_renamed to (op.RemS a b) = refl
is_input_renamed to (op.Shl a b) = refl
is_input_renamed to (op.ShrU a b) = refl
is_input_renamed to (op.ShrS a b) = refl
is_input_renamed to (op.And a b) = refl
is_input_renamed to (op.Or a b) = refl
is_input_renamed to (op.Xor a b) = refl
is_input_renamed to (op.Eq a b) = refl
is_input_renamed to (op.LtU a b) = refl
is_input_renamed to (op.LtS a b) = refl
is_input_renamed to (op.Ite c a b) = refl

pub operands_renamed : (to : ℕ → ℕ) (o : Op) → operands (renamed_op to o) ≡ map to (operands o)
operands_renamed to (op.Input n) = refl
operands_renamed to (op.Const n) = refl
operands_renamed to (op.Not a) = refl
operands_renamed to (op.Neg a) = refl
operands_renamed to (op.Add a b) = refl
operands_renamed to (op.Sub a b) = refl
operands_renamed to (op.Mul a b) = refl
operands_renamed to (op.DivU a b) = refl
operands_renamed to (op.RemU a b) = refl
operands_renamed to (op.DivS a b) = refl
operands_renamed to (op.RemS a b) = refl
operands_renamed to (op.Shl a b) = refl
operands_renamed to (op.ShrU a b) = refl
operands_renamed to (op.ShrS a b) = refl
operands_renamed to (op.And a b) = refl
operands_renamed to (op.Or a b) = refl
operands_renamed to (op.Xor a b) = refl
operands_renamed to (op.Eq a b) = refl
operands_renamed to (op.LtU a b) = refl
operands_renamed to (op.LtS a b) = refl
operands_renamed to (op.Ite c a b) = refl

-- the word of an operator depends on those of its operands alone, and of the inputs
pub word_on_words : (input f g : ℕ → ℕ) (o : Op) → AreSameAt f g (operands o) → op_word input f o ≡ op_word input g o
word_on_words input f g (op.Input n) h = refl
word_on_words input f g (op.Const n) h = refl
word_on_words input f g (op.Not a) h = cc h.0
word_on_words input f g (op.Neg a) h = cc h.0
word_on_words input f g (op.Add a b) h = cc (h.0, h.1.0)
word_on_words input f g (op.Sub a b) h = cc (h.0, h.1.0)
word_on_words input f g (op.Mul a b) h = cc (h.0, h.1.0)
word_on_words input f g (op.DivU a b) h = cc (h.0, h.1.0)
word_on_words input f g (op.RemU a b) h = cc (h.0, h.1.0)
word_on_words input f g (op.DivS a b) h = cc (h.0, h.1.0)
word_on_words input f g (op.RemS a b) h = cc (h.0, h.1.0)
word_on_words input f g (op.Shl a b) h = cc (h.0, h.1.0)
word_on_words input f g (op.ShrU a b) h = cc (h.0, h.1.0)
word_on_words input f g (op.ShrS a b) h = cc (h.0, h.1.0)
word_on_words input f g (op.And a b) h = cc (h.0, h.1.0)
word_on_words input f g (op.Or a b) h = cc (h.0, h.1.0)
word_on_words input f g (op.Xor a b) h = cc (h.0, h.1.0)
word_on_words input f g (op.Eq a b) h = cc (h.0, h.1.0)
word_on_words input f g (op.LtU a b) h = cc (h.0, h.1.0)
word_on_words input f g (op.LtS a b) h = cc (h.0, h.1.0)
word_on_words input f g (op.Ite c a b) h = cc (h.0, h.1.0, h.1.1.0)

-- an operator fits where its own operands are renamed below
pub renamed_fits_on : (inputs k j : ℕ) (to : ℕ → ℕ) (o : Op) → FitsOp inputs k o → AreBelow j (map to (operands o)) → FitsOp inputs j (renamed_op to o)
renamed_fits_on inputs k j to (op.Input n) h b = h
renamed_fits_on inputs k j to (op.Const n) h b = h
renamed_fits_on inputs k j to (op.Not a) h b = b.0
renamed_fits_on inputs k j to (op.Neg a) h b = b.0
renamed_fits_on inputs k j to (op.Add a c) h b = (b.0, b.1.0)
renamed_fits_on inputs k j to (op.Sub a c) h b = (b.0, b.1.0)
renamed_fits_on inputs k j to (op.Mul a c) h b = (b.0, b.1.0)
renamed_fits_on inputs k j to (op.DivU a c) h b = (b.0, b.1.0)
renamed_fits_on inputs k j to (op.RemU a c) h b = (b.0, b.1.0)
renamed_fits_on inputs k j to (op.DivS a c) h b = (b.0, b.1.0)
renamed_fits_on inputs k j to (op.RemS a c) h b = (b.0, b.1.0)
renamed_fits_on inputs k j to (op.Shl a c) h b = (b.0, b.1.0)
renamed_fits_on inputs k j to (op.ShrU a c) h b = (b.0, b.1.0)
renamed_fits_on inputs k j to (op.ShrS a c) h b = (b.0, b.1.0)
renamed_fits_on inputs k j to (op.And a c) h b = (b.0, b.1.0)
renamed_fits_on inputs k j to (op.Or a c) h b = (b.0, b.1.0)
renamed_fits_on inputs k j to (op.Xor a c) h b = (b.0, b.1.0)
renamed_fits_on inputs k j to (op.Eq a c) h b = (b.0, b.1.0)
renamed_fits_on inputs k j to (op.LtU a c) h b = (b.0, b.1.0)
renamed_fits_on inputs k j to (op.LtS a c) h b = (b.0, b.1.0)
renamed_fits_on inputs k j to (op.Ite c a d) h b = (b.0, b.1.0, b.1.1.0)
