use Rattle.std.proofs.Common.{◌≡◌, sym, ◌∙◌}
use Rattle.c_tree.specs.Tokens.TokenKinds.{base_of, digits_of}
use Rattle.c_lexemes.proofs.Numerals.{held, constant_in_held}
use Rattle.c_lexemes.proofs.constant.constant_in.Goals as goal

pub returns-in_err-value : goal.returns-in_err-value
returns-in_err-value c =
    let bytes = c.args.bytes.now in
    let is : c.value_of.result ≡ held (base_of bytes) (digits_of bytes) = rw (c.base_of-base.ensures.value, c.digits_of.ensures) at c.value_of.ensures in
    c.from_residual.ensures ∙ sym (rw c.in_err-value.was at (constant_in_held c.args.suffixed bytes c.value_of.result is))

pub returns : goal.returns
returns c =
    let bytes = c.args.bytes.now in
    let is : c.value_of.result ≡ held (base_of bytes) (digits_of bytes) = rw (c.base_of-base.ensures.value, c.digits_of.ensures) at c.value_of.ensures in
    rw c.base_of-base.ensures.value at c.typed.ensures ∙ sym (rw c.in_ok-value.was at (constant_in_held c.args.suffixed bytes c.value_of.result is))
