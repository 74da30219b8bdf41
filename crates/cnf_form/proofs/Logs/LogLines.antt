-- The lines of a log's text, number by number.
use Rattle.std.proofs.Common.{◌≡◌, ◌≢◌, ℕ, ℤ, pos, suc, zero, ◌+◌, ◌^◌, ◌<◌, ◌≤◌, ◌⊎◌, inl, inr, List, [], ◌∷◌, ◌++◌, length, codes, All, unsigned_abs, refl, sym, ◌∙◌, ap, subst, arith, append_assoc, length-append}
use Rattle.std.specs.Fmt.{decimal, signed_decimal}
use Rattle.std.proofs.lemmas.List.{append-nil}
use Rattle.std.proofs.lemmas.List.Concat.{flat_map-append}
use Rattle.std.proofs.lemmas.List.Elements.{All-nil, All-push, All-head, All-tail}
use Rattle.std.proofs.lemmas.Fmt.{decimal_injective, signed_decimal_injective}
use Rattle.cnf_form.specs.declared.log.LogLine.{LogLine}
use Rattle.cnf_form.specs.Literals.{most, IsLiteral, IsClause}
use Rattle.cnf_form.specs.Texts.{literals_text, hints_text, line_text}
use Rattle.cnf_form.specs.Forms.{IsLogLine}
use Rattle.cnf_form.specs.Words.{IsSolid}
use Rattle.cnf_form.specs.Reading.{IsNew, IsFront, GoesOnBy, Grows}
use Rattle.cnf_form.specs.LogReading.{IsLineOf, StopsInLine, IsNoLine, CutsAt, HasNoCut, hints_behind}
use Rattle.cnf_form.proofs.Formulas.OneFormula.{small_mag, not_zero}
use Rattle.cnf_form.proofs.Formulas.Heads.{zero_is}
use Rattle.cnf_form.proofs.Formulas.Fronts.{longer}
use Rattle.cnf_form.proofs.Formulas.Bodies.{new_in}
use Rattle.cnf_form.proofs.Words.Growing.{number_front, small_number}
use Rattle.cnf_form.proofs.Words.Tokens.{solid_decimal, solid_signed, cut_same, goes_to}

-- ---- how a line is written

blanks_turn : (hints x : List ℕ) → hints_text hints ++ 32 ∷ x ≡ 32 ∷ (hints_behind hints ++ x)
blanks_turn [] x = refl
blanks_turn (h ∷ hs) x =
    ap (λ t. 32 ∷ t) (append_assoc (decimal (h + 1)) (hints_text hs) (32 ∷ x) ∙ ap (λ t. decimal (h + 1) ++ t) (blanks_turn hs x)
    ∙ sym (append_assoc (decimal (h + 1)) (32 ∷ []) (hints_behind hs ++ x)) ∙ sym (append_assoc (decimal (h + 1) ++ 32 ∷ []) (hints_behind hs) x))

pub line_parts : (line : LogLine) → line_text line ≡ literals_text line.clause ++ 48 ∷ (hints_text line.hints ++ codes " 0\n")
line_parts line = append_assoc (literals_text line.clause ++ codes "0") (hints_text line.hints) (codes " 0\n") ∙ append_assoc (literals_text line.clause) (codes "0") (hints_text line.hints ++ codes " 0\n")

-- its clause, a 0, its hints, a 0 and a line feed
pub line_is : (clause : List ℤ) (hints : List ℕ) → line_text (record { clause = clause; hints = hints }) ≡ literals_text clause ++ 48 ∷ 32 ∷ (hints_behind hints ++ 48 ∷ 10 ∷ [])
line_is clause hints = line_parts (record { clause = clause; hints = hints }) ∙ ap (λ t. literals_text clause ++ 48 ∷ t) (blanks_turn hints (48 ∷ 10 ∷ []))

pub literals_more : (literals : List ℤ) (number : ℤ) (x : List ℕ) → literals_text (literals ++ number ∷ []) ++ x ≡ literals_text literals ++ (signed_decimal number ++ 32 ∷ x)
literals_more literals number x =
    ap (λ t. t ++ x) (flat_map-append (λ l. signed_decimal l ++ codes " ") literals (number ∷ []) ∙ ap (λ t. literals_text literals ++ t) (append-nil (signed_decimal number ++ 32 ∷ [])))
    ∙ append_assoc (literals_text literals) (signed_decimal number ++ 32 ∷ []) x ∙ ap (λ t. literals_text literals ++ t) (append_assoc (signed_decimal number) (32 ∷ []) x)

pub hints_more : (hints : List ℕ) (hint : ℕ) (x : List ℕ) → hints_behind (hints ++ hint ∷ []) ++ x ≡ hints_behind hints ++ (decimal (hint + 1) ++ 32 ∷ x)
hints_more hints hint x =
    ap (λ t. t ++ x) (flat_map-append (λ h. decimal (h + 1) ++ codes " ") hints (hint ∷ []) ∙ ap (λ t. hints_behind hints ++ t) (append-nil (decimal (hint + 1) ++ 32 ∷ [])))
    ∙ append_assoc (hints_behind hints) (decimal (hint + 1) ++ 32 ∷ []) x ∙ ap (λ t. hints_behind hints ++ t) (append_assoc (decimal (hint + 1)) (32 ∷ []) x)

-- ---- literals behind literals

record LiteralsBehind (clause literals : List ℤ) (x y : List ℕ) : Type 0 where
  tail : List ℤ
  is : clause ≡ literals ++ tail
  same : x ≡ literals_text tail ++ 48 ∷ 32 ∷ y

zero_solid : IsSolid (48 ∷ [])
zero_solid = refl

one_front : (l : ℤ) (ls : List ℤ) (x : List ℕ) → literals_text (l ∷ ls) ++ x ≡ signed_decimal l ++ 32 ∷ (literals_text ls ++ x)
one_front l ls x = append_assoc (signed_decimal l ++ 32 ∷ []) (literals_text ls) x ∙ append_assoc (signed_decimal l) (32 ∷ []) (literals_text ls ++ x)

no_zero : (l : ℤ) → IsLiteral l → signed_decimal l ≢ 48 ∷ []
no_zero l literal same = not_zero l literal (signed_decimal_injective l (pos 0) (small_mag l literal.1) (omega arith) (same ∙ sym zero_is))

behind_literals : (literals clause : List ℤ) (x y : List ℕ) → All IsLiteral literals → All IsLiteral clause → literals_text literals ++ x ≡ literals_text clause ++ 48 ∷ 32 ∷ y → LiteralsBehind clause literals x y
behind_literals [] clause x y one other same = record { tail = clause; is = refl; same = same }
behind_literals (l ∷ ls) [] x y one other same =
    let literal = All-head IsLiteral l ls one in
    let cut = cut_same (signed_decimal l) (48 ∷ []) 32 32 (literals_text ls ++ x) y (solid_signed l literal.1) zero_solid refl refl (sym (one_front l ls x) ∙ same) in
    absurd (no_zero l literal cut.token)
behind_literals (l ∷ ls) (d ∷ ds) x y one other same =
    let literal = All-head IsLiteral l ls one in
    let literal_too = All-head IsLiteral d ds other in
    let cut = cut_same (signed_decimal l) (signed_decimal d) 32 32 (literals_text ls ++ x) (literals_text ds ++ 48 ∷ 32 ∷ y) (solid_signed l literal.1) (solid_signed d literal_too.1) refl refl (sym (one_front l ls x) ∙ same ∙ one_front d ds (48 ∷ 32 ∷ y)) in
    let first = signed_decimal_injective l d (small_mag l literal.1) (small_mag d literal_too.1) cut.token in
    let rest = behind_literals ls ds x y (All-tail IsLiteral l ls one) (All-tail IsLiteral d ds other) cut.behind in
    record { tail = rest.tail; is = ap (λ z. z ∷ ds) (sym first) ∙ ap (λ zs. l ∷ zs) rest.is; same = rest.same }

-- no literal stands behind the 0
behind_zero : (tail : List ℤ) (x y : List ℕ) → All IsLiteral tail → 48 ∷ 32 ∷ x ≡ literals_text tail ++ 48 ∷ 32 ∷ y → (tail ≡ []) × (x ≡ y)
behind_zero [] x y each same = (refl, cc)
behind_zero (t ∷ ts) x y each same =
    let literal = All-head IsLiteral t ts each in
    let cut = cut_same (48 ∷ []) (signed_decimal t) 32 32 x (literals_text ts ++ 48 ∷ 32 ∷ y) zero_solid (solid_signed t literal.1) refl refl (same ∙ one_front t ts (48 ∷ 32 ∷ y)) in
    absurd (no_zero t literal (sym cut.token))

-- each of them is one
tail_each : (tail front all : List ℤ) → all ≡ front ++ tail → All IsLiteral all → All IsLiteral tail
tail_each tail [] all is each = subst (All IsLiteral) is each
tail_each tail (x ∷ xs) all is each = tail_each tail xs (xs ++ tail) refl (All-tail IsLiteral x (xs ++ tail) (subst (All IsLiteral) is each))

-- ---- hints behind hints

abbrev AreHints : List ℕ → Type 0
AreHints hints = All (λ hint. hint < 2 ^ 32) hints

record HintsBehind (all hints : List ℕ) (x : List ℕ) : Type 0 where
  tail : List ℕ
  is : all ≡ hints ++ tail
  same : x ≡ hints_behind tail ++ 48 ∷ 10 ∷ []

hint_front : (h : ℕ) (hs x : List ℕ) → hints_behind (h ∷ hs) ++ x ≡ decimal (h + 1) ++ 32 ∷ (hints_behind hs ++ x)
hint_front h hs x = append_assoc (decimal (h + 1) ++ 32 ∷ []) (hints_behind hs) x ∙ append_assoc (decimal (h + 1)) (32 ∷ []) (hints_behind hs ++ x)

hint_small : (h : ℕ) → h < 2 ^ 32 → h + 1 < 2 ^ 64
hint_small h small = omega (arith, small)

behind_hints : (hints all x : List ℕ) → AreHints hints → AreHints all → hints_behind hints ++ x ≡ hints_behind all ++ 48 ∷ 10 ∷ [] → HintsBehind all hints x
behind_hints [] all x one other same = record { tail = all; is = refl; same = same }
behind_hints (h ∷ hs) [] x one other same =
    let small = hint_small h (All-head (λ hint. hint < 2 ^ 32) h hs one) in
    let cut = cut_same (decimal (h + 1)) (48 ∷ []) 32 10 (hints_behind hs ++ x) [] (solid_decimal (h + 1) small) zero_solid refl refl (sym (hint_front h hs x) ∙ same) in
    absurd (omega (arith, cut.gap))
behind_hints (h ∷ hs) (k ∷ ks) x one other same =
    let small = hint_small h (All-head (λ hint. hint < 2 ^ 32) h hs one) in
    let small_too = hint_small k (All-head (λ hint. hint < 2 ^ 32) k ks other) in
    let cut = cut_same (decimal (h + 1)) (decimal (k + 1)) 32 32 (hints_behind hs ++ x) (hints_behind ks ++ 48 ∷ 10 ∷ []) (solid_decimal (h + 1) small) (solid_decimal (k + 1) small_too) refl refl (sym (hint_front h hs x) ∙ same ∙ hint_front k ks (48 ∷ 10 ∷ [])) in
    let first : h ≡ k = omega (arith, decimal_injective (h + 1) (k + 1) small small_too cut.token) in
    let rest = behind_hints hs ks x (All-tail (λ hint. hint < 2 ^ 32) h hs one) (All-tail (λ hint. hint < 2 ^ 32) k ks other) cut.behind in
    record { tail = rest.tail; is = ap (λ z. z ∷ ks) (sym first) ∙ ap (λ zs. h ∷ zs) rest.is; same = rest.same }

-- ---- lines are different where their texts are

pub same_line : (one other : LogLine) → IsLogLine one → IsLogLine other → line_text one ≡ line_text other → one ≡ other
same_line one other is is_too same =
    let behind = behind_literals one.clause other.clause (48 ∷ 32 ∷ (hints_behind one.hints ++ 48 ∷ 10 ∷ [])) (hints_behind other.hints ++ 48 ∷ 10 ∷ []) is.clause.each is_too.clause.each (sym (line_is one.clause one.hints) ∙ same ∙ line_is other.clause other.hints) in
    let tail = behind_zero behind.tail (hints_behind one.hints ++ 48 ∷ 10 ∷ []) (hints_behind other.hints ++ 48 ∷ 10 ∷ []) (tail_each behind.tail one.clause other.clause behind.is is_too.clause.each) behind.same in
    let hints = behind_hints one.hints other.hints (48 ∷ 10 ∷ []) is.hints is_too.hints tail.1 in
    let clause : other.clause ≡ one.clause = behind.is ∙ ap (λ t. one.clause ++ t) tail.0 ∙ append-nil one.clause in
    let all : other.hints ≡ one.hints = hints.is ∙ ap (λ t. one.hints ++ t) (no_hint hints.tail hints.same) ∙ append-nil one.hints in
    build one.clause other.clause one.hints other.hints (sym clause) (sym all)
  where
    no_hint : (tail : List ℕ) → 48 ∷ 10 ∷ [] ≡ hints_behind tail ++ 48 ∷ 10 ∷ [] → tail ≡ []
    no_hint [] same = refl
    no_hint (t ∷ ts) same = absurd (omega (arith, ap length same, length-append (hints_behind (t ∷ ts)) (48 ∷ 10 ∷ []), length-append (decimal (t + 1) ++ 32 ∷ []) (hints_behind ts), length-append (decimal (t + 1)) (32 ∷ [])))

    build : (c d : List ℤ) (hs ks : List ℕ) → c ≡ d → hs ≡ ks → (let made : LogLine = record { clause = c; hints = hs } in made) ≡ record { clause = d; hints = ks }
    build c d hs ks clause hints = rw (clause, hints) refl

-- ---- where a clause stands

-- a line goes on with a 0 or a new literal
clause_stuck : (literals : List ℤ) (rest : List ℕ) → IsClause literals → ((more z : List ℕ) (number : ℤ) → GoesOnBy most 1 [] literals (signed_decimal number) number → rest ++ more ≢ signed_decimal number ++ 32 ∷ z) → IsNoLine (literals_text literals ++ rest)
clause_stuck literals rest clause none = record {
  never = λ more line is same.
      let behind = behind_literals literals line.clause (rest ++ more) (hints_behind line.hints ++ 48 ∷ 10 ∷ []) clause.each is.clause.each (sym (append_assoc (literals_text literals) rest more) ∙ same ∙ line_is line.clause line.hints) in
      by_tail more line.clause (hints_behind line.hints ++ 48 ∷ 10 ∷ []) is.clause behind.tail behind.is behind.same;
}
  where
    by_tail : (more : List ℕ) (whole : List ℤ) (y : List ℕ) → IsClause whole → (tail : List ℤ) → whole ≡ literals ++ tail → rest ++ more ≡ literals_text tail ++ 48 ∷ 32 ∷ y → ⊥
    by_tail more whole y is [] split same = none more y (pos 0) (record { room = omega arith; written = refl; fits = inl refl }) (same ∙ ap (λ d. d ++ 32 ∷ y) (sym zero_is))
    by_tail more whole y is (t ∷ ts) split same =
        let now = subst IsClause split is in
        none more (literals_text ts ++ 48 ∷ 32 ∷ y) t (record { room = omega arith; written = refl; fits = inr (new_in most literals ts t now (λ k d less. (now.each k d less).1)) }) (same ∙ one_front t ts (48 ∷ 32 ∷ y))

small_of : (literals : List ℤ) (word : List ℕ) (number : ℤ) → GoesOnBy most 1 [] literals word number → unsigned_abs number ≤ most
small_of literals word number goes = small_number most literals number goes.fits

pub stray_literal : (literals : List ℤ) (line rest token behind : List ℕ) → line ≡ literals_text literals ++ rest → IsClause literals → CutsAt 32 rest token behind → ((number : ℤ) → ¬ GoesOnBy most 1 [] literals token number) → IsNoLine line
stray_literal literals line rest token behind is clause cut none = subst IsNoLine (sym is) (clause_stuck literals rest clause (λ more z number goes same.
    let found = cut_same token (signed_decimal number) 32 32 (behind ++ more) z cut.solid (solid_signed number (small_of literals (signed_decimal number) number goes)) refl refl (sym (append_assoc token (32 ∷ behind) more) ∙ ap (λ t. t ++ more) (sym cut.split) ∙ same) in
    none number (record { room = goes.room; written = found.token; fits = goes.fits })))

pub open_stray : (literals : List ℤ) (rest : List ℕ) → IsClause literals → HasNoCut 32 rest → ¬ Grows most 1 [] literals rest → IsNoLine (literals_text literals ++ rest)
open_stray literals rest clause bare none = clause_stuck literals rest clause (λ more z number goes same.
    let found = goes_to 32 rest more (signed_decimal number) z bare (solid_signed number (small_of literals (signed_decimal number) number goes)) same in
    none (record { more = found.rest; number = number; goes_on = record { room = goes.room; written = found.is; fits = goes.fits } }))

pub line_of_clause : (clause : List ℤ) → IsClause clause → IsLogLine (record { clause = clause; hints = [] })
line_of_clause clause is = record { clause = is; hints = All-nil (λ hint. hint < 2 ^ 32) }

pub grows_at_once : (literals : List ℤ) → IsClause literals → StopsInLine (literals_text literals ++ [])
grows_at_once literals clause = record {
  more = codes "0 0\n";
  some = omega arith;
  log_line = record { clause = literals; hints = [] };
  is_line = line_of_clause literals clause;
  whole = ap (λ t. t ++ codes "0 0\n") (append-nil (literals_text literals)) ∙ sym (line_is literals []);
}

pub grows_by : (literals : List ℤ) (rest : List ℕ) → IsFront most 1 [] literals → Grows most 1 [] literals rest → StopsInLine (literals_text literals ++ rest)
grows_by literals rest front grows = by_case grows.goes_on.fits
  where
    joined : (x : List ℕ) → (literals_text literals ++ rest) ++ (grows.more ++ x) ≡ literals_text literals ++ (signed_decimal grows.number ++ x)
    joined x = append_assoc (literals_text literals) rest (grows.more ++ x) ∙ ap (λ t. literals_text literals ++ t) (sym (append_assoc rest grows.more x) ∙ ap (λ t. t ++ x) grows.goes_on.written)

    by_case : (grows.number ≡ pos 0) ⊎ IsNew most literals grows.number → StopsInLine (literals_text literals ++ rest)
    by_case (inl is) = record {
      more = grows.more ++ codes " 0\n";
      some = omega (arith, length-append grows.more (codes " 0\n"));
      log_line = record { clause = literals; hints = [] };
      is_line = line_of_clause literals front.clause;
      whole = joined (codes " 0\n") ∙ ap (λ z. literals_text literals ++ (signed_decimal z ++ codes " 0\n")) is ∙ ap (λ d. literals_text literals ++ (d ++ codes " 0\n")) zero_is ∙ sym (line_is literals []);
    }
    by_case (inr new) = record {
      more = grows.more ++ codes " 0 0\n";
      some = omega (arith, length-append grows.more (codes " 0 0\n"));
      log_line = record { clause = literals ++ grows.number ∷ []; hints = [] };
      is_line = line_of_clause (literals ++ grows.number ∷ []) (longer most 1 [] literals grows.number front (omega arith) new).clause;
      whole = joined (codes " 0 0\n") ∙ sym (literals_more literals grows.number (codes "0 0\n")) ∙ sym (line_is (literals ++ grows.number ∷ []) []);
    }

-- ---- where hints stand

record Stuck (rest : List ℕ) : Type 0 where
  end : (more : List ℕ) → rest ++ more ≢ 48 ∷ 10 ∷ []
  hint : (more z : List ℕ) (h : ℕ) → h < 2 ^ 32 → rest ++ more ≢ decimal (h + 1) ++ 32 ∷ z

hints_stuck : (clause : List ℤ) (hints rest : List ℕ) → IsClause clause → AreHints hints → Stuck rest → IsNoLine (literals_text clause ++ 48 ∷ 32 ∷ (hints_behind hints ++ rest))
hints_stuck clause hints rest is small stuck = record {
  never = λ more line is_line same.
      let behind = behind_literals clause line.clause (48 ∷ 32 ∷ ((hints_behind hints ++ rest) ++ more)) (hints_behind line.hints ++ 48 ∷ 10 ∷ []) is.each is_line.clause.each
      (sym (append_assoc (literals_text clause) (48 ∷ 32 ∷ (hints_behind hints ++ rest)) more) ∙ same ∙ line_is line.clause line.hints) in
      let tail = behind_zero behind.tail ((hints_behind hints ++ rest) ++ more) (hints_behind line.hints ++ 48 ∷ 10 ∷ []) (tail_each behind.tail clause line.clause behind.is is_line.clause.each) behind.same in
      let found = behind_hints hints line.hints (rest ++ more) small is_line.hints (sym (append_assoc (hints_behind hints) rest more) ∙ tail.1) in
      by_tail more line.hints is_line.hints found.tail found.is found.same;
}
  where
    tail_hints : (tail front all : List ℕ) → all ≡ front ++ tail → AreHints all → AreHints tail
    tail_hints tail [] all split each = subst AreHints split each
    tail_hints tail (x ∷ xs) all split each = tail_hints tail xs (xs ++ tail) refl (All-tail (λ hint. hint < 2 ^ 32) x (xs ++ tail) (subst AreHints split each))

    by_tail : (more all : List ℕ) → AreHints all → (tail : List ℕ) → all ≡ hints ++ tail → rest ++ more ≡ hints_behind tail ++ 48 ∷ 10 ∷ [] → ⊥
    by_tail more all each [] split same = stuck.end more same
    by_tail more all each (t ∷ ts) split same =
        let now = tail_hints (t ∷ ts) hints all split each in
        stuck.hint more (hints_behind ts ++ 48 ∷ 10 ∷ []) t (All-head (λ hint. hint < 2 ^ 32) t ts now) (same ∙ hint_front t ts (48 ∷ 10 ∷ []))

pub stray_hint : (clause : List ℤ) (hints text rest token behind : List ℕ) → text ≡ hints_behind hints ++ rest → IsClause clause → All (λ hint. hint < 2 ^ 32) hints → CutsAt 32 rest token behind → ((h : ℕ) → h < 2 ^ 32 → token ≢ decimal (h + 1))
    → IsNoLine (literals_text clause ++ 48 ∷ 32 ∷ text)
stray_hint clause hints text rest token behind is is_clause small cut none = subst (λ t. IsNoLine (literals_text clause ++ 48 ∷ 32 ∷ t)) (sym is) (hints_stuck clause hints rest is_clause small (record {
  end = λ more same. let found = cut_same token (48 ∷ []) 32 10 (behind ++ more) [] cut.solid zero_solid refl refl (spread more ∙ same) in omega (arith, found.gap);
  hint = λ more z h less same. let found = cut_same token (decimal (h + 1)) 32 32 (behind ++ more) z cut.solid (solid_decimal (h + 1) (hint_small h less)) refl refl (spread more ∙ same) in none h less found.token;
}))
  where
    spread : (more : List ℕ) → token ++ 32 ∷ (behind ++ more) ≡ rest ++ more
    spread more = sym (append_assoc token (32 ∷ behind) more) ∙ ap (λ t. t ++ more) (sym cut.split)

pub open_stray_hint : (clause : List ℤ) (hints rest : List ℕ) → IsClause clause → All (λ hint. hint < 2 ^ 32) hints → HasNoCut 32 rest → 0 < length rest → rest ≢ 48 ∷ 10 ∷ [] → ((n : ℕ) → n ≤ 2 ^ 32 → rest ≢ decimal n)
    → IsNoLine (literals_text clause ++ 48 ∷ 32 ∷ (hints_behind hints ++ rest))
open_stray_hint clause hints rest is small bare some no_end none = hints_stuck clause hints rest is small (record {
  end = λ more same. by_end rest more some no_end none same;
  hint = λ more z h less same.
      let found = goes_to 32 rest more (decimal (h + 1)) z bare (solid_decimal (h + 1) (hint_small h less)) same in
      let front = number_front rest found.rest (h + 1) some (omega (arith, less)) found.is in
      none front.0 (omega (arith, front.1, less)) front.2;
})
  where
    by_end : (rest more : List ℕ) → 0 < length rest → rest ≢ 48 ∷ 10 ∷ [] → ((n : ℕ) → n ≤ 2 ^ 32 → rest ≢ decimal n) → rest ++ more ≢ 48 ∷ 10 ∷ []
    by_end [] more some no_end none same = omega (arith, some)
    by_end (a ∷ []) more some no_end none same = let first : a ≡ 48 = cc in none 0 (omega arith) (ap (λ b. b ∷ []) first ∙ sym zero_is)
    by_end (a ∷ b ∷ []) more some no_end none same = let first : a ≡ 48 = cc in let second : b ≡ 10 = cc in no_end (rw (first, second) refl)
    by_end (a ∷ b ∷ d ∷ ds) more some no_end none same = omega (arith, ap length same, length-append (a ∷ b ∷ d ∷ ds) more)

pub hints_grow_at_once : (clause : List ℤ) (hints : List ℕ) → IsClause clause → All (λ hint. hint < 2 ^ 32) hints → StopsInLine (literals_text clause ++ 48 ∷ 32 ∷ (hints_behind hints ++ []))
hints_grow_at_once clause hints is small = record {
  more = codes "0\n";
  some = omega arith;
  log_line = record { clause = clause; hints = hints };
  is_line = record { clause = is; hints = small };
  whole = ap (λ t. (literals_text clause ++ 48 ∷ 32 ∷ t) ++ 48 ∷ 10 ∷ []) (append-nil (hints_behind hints)) ∙ append_assoc (literals_text clause) (48 ∷ 32 ∷ hints_behind hints) (48 ∷ 10 ∷ []) ∙ sym (line_is clause hints);
}

pub hints_grow_by : (clause : List ℤ) (hints rest : List ℕ) (n : ℕ) → IsClause clause → All (λ hint. hint < 2 ^ 32) hints → n ≤ 2 ^ 32 → rest ≡ decimal n → StopsInLine (literals_text clause ++ 48 ∷ 32 ∷ (hints_behind hints ++ rest))
hints_grow_by clause hints rest zero is small few written = record {
  more = codes "\n";
  some = omega arith;
  log_line = record { clause = clause; hints = hints };
  is_line = record { clause = is; hints = small };
  whole = append_assoc (literals_text clause) (48 ∷ 32 ∷ (hints_behind hints ++ rest)) (10 ∷ []) ∙ ap (λ t. literals_text clause ++ 48 ∷ 32 ∷ t) (append_assoc (hints_behind hints) rest (10 ∷ []))
      ∙ ap (λ t. literals_text clause ++ 48 ∷ 32 ∷ (hints_behind hints ++ (t ++ 10 ∷ []))) (written ∙ zero_is) ∙ sym (line_is clause hints);
}
hints_grow_by clause hints rest (suc h) is small few written = record {
  more = codes " 0\n";
  some = omega arith;
  log_line = record { clause = clause; hints = hints ++ h ∷ [] };
  is_line = record { clause = is; hints = All-push (λ hint. hint < 2 ^ 32) hints h small (omega (arith, few)) };
  whole = append_assoc (literals_text clause) (48 ∷ 32 ∷ (hints_behind hints ++ rest)) (codes " 0\n") ∙ ap (λ t. literals_text clause ++ 48 ∷ 32 ∷ t) (append_assoc (hints_behind hints) rest (codes " 0\n"))
      ∙ ap (λ t. literals_text clause ++ 48 ∷ 32 ∷ (hints_behind hints ++ (t ++ codes " 0\n"))) (written ∙ ap decimal (omega arith))
      ∙ ap (λ t. literals_text clause ++ 48 ∷ 32 ∷ t) (sym (hints_more hints h (codes "0\n"))) ∙ sym (line_is clause (hints ++ h ∷ []));
}

pub hints_end : (clause : List ℤ) (hints rest : List ℕ) → IsClause clause → All (λ hint. hint < 2 ^ 32) hints → rest ≡ codes "0\n" → IsLineOf (literals_text clause ++ 48 ∷ 32 ∷ (hints_behind hints ++ rest)) (record { clause = clause; hints = hints })
hints_end clause hints rest is small ends = record {
  is_line = record { clause = is; hints = small };
  whole = ap (λ t. literals_text clause ++ 48 ∷ 32 ∷ (hints_behind hints ++ t)) ends ∙ sym (line_is clause hints);
}
