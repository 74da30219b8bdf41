use Rattle.std.proofs.Common.{◌≡◌, All, false, sym, ap, ◌∙◌, subst}
use Rattle.cnf_form.specs.Literals.{IsLiteral, NamesOnce, IsClause}
use Rattle.bit_circuits.specs.Tidy.{once, has_both_signs}
use Rattle.bit_circuits.proofs.Formulas.Clauses.{once-named}
use Rattle.bit_blast.proofs.tidy.push_tidied.Goals as goal

pub of_clause-requires : goal.of_clause-requires
of_clause-requires c =
    let is : c.as_slice-2.result.now ≡ once c.args.literals.now = c.as_slice-2.ensures.value ∙ c.in_ok-numbers.ensures.value ∙ c.as_slice.ensures.value ∙ c.in_ok-kept.ensures in
    let apart : has_both_signs c.args.literals.now ≡ false = sym c.has_both_signs.ensures ∙ c.if-has_both_signs.false in
    record {
      each = subst (λ ls. All IsLiteral ls) (sym c.as_slice-2.ensures.value) c.in_ok-numbers.ensures.each;
      once = subst (λ ls. NamesOnce ls) (sym is) (once-named c.args.literals.now apart);
    }
