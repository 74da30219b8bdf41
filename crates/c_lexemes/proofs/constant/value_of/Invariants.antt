use Rattle.std.proofs.Common.{◌≡◌, ◌<◌, ◌^◌, drop, length, ltb}
use Rattle.std.specs.List.{list_all}
use Rattle.std.specs.Char.{digit_value}
use Rattle.std.specs.Str.Parse.{digits_value, digits_value_after}
use Rattle.c_lexemes.proofs.constant.value_of.Given as goal

abbrev pub invariant-loop-byte : goal.invariant-loop-byte
invariant-loop-byte l = record {
  value : digits_value_after l.base l.value (drop l.byte-index l.digits) ≡ digits_value l.base l.digits;
  numeral : list_all (λ c. ltb (digit_value c) l.base) (drop l.byte-index l.digits) ≡ list_all (λ c. ltb (digit_value c) l.base) l.digits;
  small : l.value < 2 ^ 64;
  some : 0 < length l.digits;
}
