-- Texts that are accepted are those of one program and its costs.
use Rattle.std.proofs.Common.{◌≡◌, ℕ, List, Option, Some, None, Ok, sym, ◌∙◌, ap, subst}
use Rattle.c_tree.specs.declared.unit.Unit.{Unit as Tree}
use Rattle.c_tree.specs.declared.program.Program.{Program}
use Rattle.c_tree.specs.declared.program.Costs.{Costs}
use Rattle.c_tree.specs.Checking.Naming.{program_of}
use Rattle.c_tree.specs.Grammar.Spelling.{Spells}
use Rattle.c_token.proofs.Answering.{lexed_once}
use Rattle.parse_laws.proofs.Whole.{unique}
use Rattle.cost_table.specs.Tables.{verdict}
use Rattle.front_end.specs.Accepted.{IsRead, IsTextOf, ArePriced, Accepts}

pub one_unit : (text : List ℕ) (a b : Tree) → IsRead text a → IsRead text b → a ≡ b
one_unit text a b h k =
    let tokens = lexed_once text k.of_text.tokens h.of_text.tokens k.of_text.lexed h.of_text.lexed in
    unique text h.of_text.tokens a b h.of_text.spelled (subst (λ ts. Spells text ts b) tokens k.of_text.spelled)

pub one_text : (text entry : List ℕ) (a b : Program) → IsTextOf text entry a → IsTextOf text entry b → a ≡ b
one_text text entry a b h k =
    h.typed.named ∙ ap (λ u. program_of u entry) (one_unit text h.unit k.unit h.read k.read) ∙ sym k.typed.named

pub one_pricing : (table : Option (List ℕ)) (p : Program) (t u : Costs) → ArePriced table p t → ArePriced table p u → t ≡ u
one_pricing None p t u h k = h ∙ sym k
one_pricing (Some bytes) p t u h k =
    let first : verdict p bytes ≡ Ok t = h.1 in
    let second : verdict p bytes ≡ Ok u = k.1 in
    cc

pub one_program : (text : List ℕ) (table : Option (List ℕ)) (entry : List ℕ) (p q : Program) (t u : Costs)
    → Accepts text table entry p t → Accepts text table entry q u → (p ≡ q) × (t ≡ u)
one_program text table entry p q t u h k =
    let programs = one_text text entry p q h.program k.program in
    (programs, one_pricing table q t u (subst (λ r. ArePriced table r t) programs h.costs) k.costs)
