-- Equality of symbols.
use Rattle.std.specs.Prelude.{Bool}
use Rattle.c_tree.specs.declared.symbol.Symbol.{Symbol}
use Rattle.c_tree.specs.contracts.symbol.SymbolPartialEq.TheImpl as derived

abbrev pub is_same_symbol : Symbol → Symbol → Bool
is_same_symbol a b = derived.ghosts.eq a b
