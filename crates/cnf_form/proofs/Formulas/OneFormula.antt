-- A text of a formula is that of one formula alone.
use Rattle.std.proofs.Common.{◌≡◌, ◌≢◌, ℕ, ℤ, pos, negsuc, zero, suc, ◌<◌, ◌≤◌, ◌^◌, List, [], ◌∷◌, ◌++◌, length, codes, map, All, unsigned_abs, refl, sym, ◌∙◌, ap, arith}
use Rattle.std.specs.List.{flat_map}
use Rattle.std.specs.Fmt.{decimal, signed_decimal}
use Rattle.std.proofs.lemmas.Fmt.{decimal_injective, signed_decimal_injective}
use Rattle.std.proofs.lemmas.List.Elements.{All-head, All-tail}
use lib.Signed.{mag}
use Rattle.cnf_form.specs.Literals.{most, IsLiteral, IsClause}
use Rattle.cnf_form.specs.Forms.{words, numbers_of, IsCnfText}
use Rattle.plain_laws.proofs.Lists.{cons-parts}

-- each number has at most 2,147,483,647 as its magnitude
unfoldable pub AllSmall : List ℤ → Type 0
AllSmall [] = Unit {0}
AllSmall (l ∷ ls) = (unsigned_abs l ≤ most) × AllSmall ls

pub small_mag : (l : ℤ) → unsigned_abs l ≤ most → mag l < 2 ^ 63
small_mag (pos n) small = omega arith
small_mag (negsuc n) small = omega arith

-- written numbers are those that were written
pub same_numbers : (xs ys : List ℤ) → AllSmall xs → AllSmall ys → map signed_decimal xs ≡ map signed_decimal ys → xs ≡ ys
unfolding AllSmall
same_numbers [] [] one other h = refl
same_numbers [] (y ∷ ys) one other h = cc
same_numbers (x ∷ xs) [] one other h = cc
same_numbers (x ∷ xs) (y ∷ ys) one other h =
    let head : signed_decimal x ≡ signed_decimal y = cc in
    let tail : map signed_decimal xs ≡ map signed_decimal ys = cc in
    let first = signed_decimal_injective x y (small_mag x one.0) (small_mag y other.0) head in
    let rest = same_numbers xs ys one.1 other.1 tail in
    cc

-- no literal is 0
pub not_zero : (l : ℤ) → IsLiteral l → l ≢ pos 0
not_zero (pos zero) literal same = omega (arith, literal.0)
not_zero (pos (suc n)) literal same = cc
not_zero (negsuc n) literal same = cc

-- a clause ends at its 0
pub same_clause : (c d ns ms : List ℤ) → All IsLiteral c → All IsLiteral d → (c ++ pos 0 ∷ []) ++ ns ≡ (d ++ pos 0 ∷ []) ++ ms → (c ≡ d) × (ns ≡ ms)
same_clause [] [] ns ms one other h = (refl, cc)
same_clause [] (y ∷ ys) ns ms one other h = let e : pos 0 ≡ y = cc in absurd (not_zero y (All-head IsLiteral y ys other) (sym e))
same_clause (x ∷ xs) [] ns ms one other h = let e : x ≡ pos 0 = cc in absurd (not_zero x (All-head IsLiteral x xs one) e)
same_clause (x ∷ xs) (y ∷ ys) ns ms one other h =
    let head : x ≡ y = cc in
    let tail : (xs ++ pos 0 ∷ []) ++ ns ≡ (ys ++ pos 0 ∷ []) ++ ms = cc in
    let rest = same_clause xs ys ns ms (All-tail IsLiteral x xs one) (All-tail IsLiteral y ys other) tail in
    let behind : xs ≡ ys = rest.0 in
    (cc, rest.1)

pub no_number : (c ns : List ℤ) → [] ≢ (c ++ pos 0 ∷ []) ++ ns
no_number [] ns h = cc
no_number (x ∷ xs) ns h = cc

same_clauses : (cs ds : List (List ℤ)) → All IsClause cs → All IsClause ds → numbers_of cs ≡ numbers_of ds → cs ≡ ds
same_clauses [] [] one other h = refl
same_clauses [] (d ∷ ds) one other h = absurd (no_number d (numbers_of ds) h)
same_clauses (c ∷ cs) [] one other h = absurd (no_number c (numbers_of cs) (sym h))
same_clauses (c ∷ cs) (d ∷ ds) one other h =
    let split = same_clause c d (numbers_of cs) (numbers_of ds) (All-head IsClause c cs one).each (All-head IsClause d ds other).each h in
    let head : c ≡ d = split.0 in
    let rest : cs ≡ ds = same_clauses cs ds (All-tail IsClause c cs one) (All-tail IsClause d ds other) split.1 in
    cc

pub small_clause : (c ns : List ℤ) → All IsLiteral c → AllSmall ns → AllSmall ((c ++ pos 0 ∷ []) ++ ns)
unfolding AllSmall
small_clause [] ns each rest = (omega arith, rest)
small_clause (x ∷ xs) ns each rest = ((All-head IsLiteral x xs each).1, small_clause xs ns (All-tail IsLiteral x xs each) rest)

pub small_clauses : (cs : List (List ℤ)) → All IsClause cs → AllSmall (numbers_of cs)
unfolding AllSmall
small_clauses [] each = tt
small_clauses (c ∷ cs) each = small_clause c (numbers_of cs) (All-head IsClause c cs each).each (small_clauses cs (All-tail IsClause c cs each))

pub third : (p q x y m n : List ℕ) → p ∷ q ∷ x ∷ m ∷ [] ≡ p ∷ q ∷ y ∷ n ∷ [] → x ≡ y
third p q x y m n h = cc

pub one_formula : (text : List ℕ) (v w : ℕ) (cs ds : List (List ℤ)) → IsCnfText text v cs → IsCnfText text w ds → (v ≡ w) × (cs ≡ ds)
one_formula text v w cs ds one other =
    let same = cons-parts one.head other.head one.body other.body (sym one.lines ∙ other.lines) in
    let heads = sym one.numbers ∙ ap words same.0 ∙ other.numbers in
    let variables = third (codes "p") (codes "cnf") (decimal v) (decimal w) (decimal (length cs)) (decimal (length ds)) heads in
    let bodies = sym one.clauses_follow ∙ ap (λ b. words (flat_map (λ line. line) b)) same.1 ∙ other.clauses_follow in
    let numbers = same_numbers (numbers_of cs) (numbers_of ds) (small_clauses cs one.formula.each) (small_clauses ds other.formula.each) bodies in
    let few = one.formula.few_variables in
    let other_few = other.formula.few_variables in
    (decimal_injective v w (omega arith) (omega arith) variables, same_clauses cs ds one.formula.each other.formula.each numbers)
