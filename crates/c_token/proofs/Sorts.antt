-- One thing stands at a place.
use Rattle.std.proofs.Common.{◌≡◌, ℕ, ◌+◌, ◌<◌, ◌≤◌, Bool, true, false, cond, List, [], ◌∷◌, length, take, Some, Result, Ok, Err, codes, refl, sym, ◌∙◌, ap, subst, arith}
use Rattle.std.proofs.Common.{◌⊎◌, inl, inr}
use Rattle.std.proofs.lemmas.Bool.{cases_lt, and_parts}
use Rattle.std.specs.Prelude.{bytes_eq, take_while}
use Rattle.std.proofs.lemmas.List.Sums.{take_while-cons}
use Rattle.std.proofs.lemmas.Slice.Eq.{bytes_eq-Decides}
use Rattle.c_tree.specs.declared.token.Kind.{Kind}
use Rattle.c_tree.specs.Tokens.Characters.{begins, is_blank, is_digit, is_name_byte}
use Rattle.c_tree.specs.Tokens.TokenKinds.{kind_of}
use Rattle.c_tree.specs.Tokens.Lexing.{IsLongest, opens_block_comment, opens_line_comment, opens_directive, IsBlockComment, line_of, directive_of, after_spaces, word_of, is_marker, after_word, is_pragma, is_loopbound, is_skipped, is_bound_operand, is_bound_line, operand_of, Separates, blank, block_comment, line_comment, skipped_line, IsSpelledToken, IsBoundToken, IsToken, spelled, bound}
use Rattle.c_token.specs.declared.piece.Piece.{Piece}
use Rattle.c_token.specs.declared.piece.Piece.TheVariants.{Gap, Lexeme}
use Rattle.c_token.specs.declared.piece.Flaw.{Flaw}
use Rattle.c_token.specs.declared.piece.Flaw.TheVariants.{Byte, Comment, Number, Directive}
use Rattle.c_lexemes.specs.Unread.{IsOpenComment, IsBadNumber}
use Rattle.c_token.specs.Faults.{IsStrayByte, IsBadDirective}
use Rattle.c_token.specs.Pieces.{IsFlaw, Stands}
use Rattle.c_token.proofs.Beginnings.{block_no_blank, line_no_blank, not_both_comments, directive_is_hash, lexeme_no_blank, lexeme_no_directive, number_no_block_comment, number_no_line_comment, block_is_token, line_is_token}

data Sort : Type 0 where
  at_blank : Sort
  at_block_comment : Sort
  at_line_comment : Sort
  at_directive : Sort
  at_other : Sort

unfoldable sort_of : List ℕ → List ℕ → Sort
sort_of before here =
    cond (begins is_blank here) at_blank (cond (opens_block_comment here) at_block_comment (cond (opens_line_comment here) at_line_comment (cond (opens_directive before here) at_directive at_other)))

-- what may stand at a place of each sort
data AtSort (before here : List ℕ) : Sort → Result Piece Flaw → Type 0 where
  a_blank : {n : ℕ} → n ≡ 1 → AtSort before here at_blank (Ok (Gap n))
  closed : {n : ℕ} → IsBlockComment here n → AtSort before here at_block_comment (Ok (Gap n))
  unclosed : IsOpenComment here → AtSort before here at_block_comment (Err Comment)
  to_end : {n : ℕ} → n ≡ length (line_of here) → AtSort before here at_line_comment (Ok (Gap n))
  skipped : {n : ℕ} → is_skipped (directive_of here) ≡ true → n ≡ 1 + length (directive_of here) → AtSort before here at_directive (Ok (Gap n))
  a_bound : {kind : Kind} {n : ℕ} → IsBoundToken before here kind n → AtSort before here at_directive (Ok (Lexeme kind n))
  bad_line : IsBadDirective before here → AtSort before here at_directive (Err Directive)
  a_lexeme : {kind : Kind} {n : ℕ} → IsSpelledToken here kind n → AtSort before here at_other (Ok (Lexeme kind n))
  bad_number : IsBadNumber here → AtSort before here at_other (Err Number)
  stray : IsStrayByte before here → AtSort before here at_other (Err Byte)

-- ---- the sort of what stands

sort-blank : (before here : List ℕ) → begins is_blank here ≡ true → sort_of before here ≡ at_blank
unfolding sort_of
sort-blank before here e = rw e refl

sort-block : (before here : List ℕ) → opens_block_comment here ≡ true → sort_of before here ≡ at_block_comment
unfolding sort_of
sort-block before here e = rw (block_no_blank here e, e) refl

sort-line : (before here : List ℕ) → opens_line_comment here ≡ true → sort_of before here ≡ at_line_comment
unfolding sort_of
sort-line before here e = rw (line_no_blank here e, not_both_comments here e, e) refl

sort-directive : (before here : List ℕ) → opens_directive before here ≡ true → sort_of before here ≡ at_directive
unfolding sort_of
sort-directive before here e = let h = directive_is_hash before here e in rw (h.no_blank, h.no_block_comment, h.no_line_comment, e) refl

sort-other : (before here : List ℕ) → begins is_blank here ≡ false → opens_block_comment here ≡ false → opens_line_comment here ≡ false → opens_directive before here ≡ false → sort_of before here ≡ at_other
unfolding sort_of
sort-other before here a b c d = rw (a, b, c, d) refl

-- ---- what stands, by its sort

by_sort : (before here : List ℕ) (r : Result Piece Flaw) (s : Sort) → sort_of before here ≡ s → AtSort before here s r → AtSort before here (sort_of before here) r
by_sort before here r s e h = subst (λ (t : Sort). AtSort before here t r) (sym e) h

stray_no_block : (before here : List ℕ) → IsStrayByte before here → opens_block_comment here ≡ false
stray_no_block before here h = by_test (opens_block_comment here) refl
  where
    by_test : (b : Bool) → opens_block_comment here ≡ b → b ≡ false
    by_test true e = let none = h.no_token 1 h.some in let is = block_is_token here e in cc
    by_test false e = refl

stray_no_line : (before here : List ℕ) → IsStrayByte before here → opens_line_comment here ≡ false
stray_no_line before here h = by_test (opens_line_comment here) refl
  where
    by_test : (b : Bool) → opens_line_comment here ≡ b → b ≡ false
    by_test true e = let none = h.no_token 1 h.some in let is = line_is_token here e in cc
    by_test false e = refl

lexeme_sort : (before here : List ℕ) (kind : Kind) (n : ℕ) → IsSpelledToken here kind n → sort_of before here ≡ at_other
lexeme_sort before here kind n l = sort-other before here (lexeme_no_blank n here l.longest.could_be) l.no_block_comment l.no_line_comment (lexeme_no_directive n before here l.longest.could_be)

number_sort : (before here : List ℕ) → IsBadNumber here → sort_of before here ≡ at_other
number_sort before here b = sort-other before here (lexeme_no_blank b.n here b.longest.could_be) (number_no_block_comment b.n here b.number) (number_no_line_comment b.n here b.number) (lexeme_no_directive b.n before here b.longest.could_be)

gap_sort : (before here : List ℕ) (n : ℕ) → Separates before here n → AtSort before here (sort_of before here) (Ok (Gap n))
gap_sort before here n (blank e is) = by_sort before here (Ok (Gap n)) at_blank (sort-blank before here e) (a_blank is)
gap_sort before here n (block_comment c) = by_sort before here (Ok (Gap n)) at_block_comment (sort-block before here c.opens) (closed c)
gap_sort before here n (line_comment c) = by_sort before here (Ok (Gap n)) at_line_comment (sort-line before here c.opens) (to_end c.size)
gap_sort before here n (skipped_line e h is) = by_sort before here (Ok (Gap n)) at_directive (sort-directive before here e) (skipped h is)

token_sort : (before here : List ℕ) (kind : Kind) (n : ℕ) → IsToken before here kind n → AtSort before here (sort_of before here) (Ok (Lexeme kind n))
token_sort before here kind n (spelled l) = by_sort before here (Ok (Lexeme kind n)) at_other (lexeme_sort before here kind n l) (a_lexeme l)
token_sort before here kind n (bound b) = by_sort before here (Ok (Lexeme kind n)) at_directive (sort-directive before here b.opens) (a_bound b)

flaw_sort : (before here : List ℕ) (flaw : Flaw) → IsFlaw before here flaw → AtSort before here (sort_of before here) (Err flaw)
flaw_sort before here Byte h = by_sort before here (Err Byte) at_other (sort-other before here h.no_blank (stray_no_block before here h) (stray_no_line before here h) h.no_directive) (stray h)
flaw_sort before here Comment h = by_sort before here (Err Comment) at_block_comment (sort-block before here h.opens) (unclosed h)
flaw_sort before here Number h = by_sort before here (Err Number) at_other (number_sort before here h) (bad_number h)
flaw_sort before here Directive h = by_sort before here (Err Directive) at_directive (sort-directive before here h.opens) (bad_line h)

sorted : (before here : List ℕ) (r : Result Piece Flaw) → Stands before here r → AtSort before here (sort_of before here) r
sorted before here (Ok (Gap n)) h = gap_sort before here n h
sorted before here (Ok (Lexeme kind n)) h = token_sort before here kind n h
sorted before here (Err flaw) h = flaw_sort before here flaw h

-- ---- of one sort there is one

-- two block comments that open here
same_close : (here : List ℕ) (m n : ℕ) → IsBlockComment here m → IsBlockComment here n → m ≡ n
same_close here m n a b = by_order (cases_lt a.inside b.inside) (cases_lt b.inside a.inside)
  where
    by_order : (a.inside < b.inside) ⊎ (b.inside ≤ a.inside) → (b.inside < a.inside) ⊎ (a.inside ≤ b.inside) → m ≡ n
    by_order (inl less) q = let h = b.first a.inside less in let k = a.closes in cc
    by_order (inr le) (inl less) = let h = a.first b.inside less in let k = b.closes in cc
    by_order (inr le) (inr ge) = let p = a.size in let q = b.size in omega arith

same_length : (here : List ℕ) (m n : ℕ) → IsLongest here m → IsLongest here n → m ≡ n
same_length here m n a b = by_order (cases_lt m n) (cases_lt n m)
  where
    by_order : (m < n) ⊎ (n ≤ m) → (n < m) ⊎ (m ≤ n) → m ≡ n
    by_order (inl less) q = let h = a.longest n less b.within in let k = b.could_be in cc
    by_order (inr le) (inl less) = let h = b.longest m less a.within in let k = a.could_be in cc
    by_order (inr le) (inr ge) = omega arith

same_kind : (bytes : List ℕ) (j k : Kind) → kind_of bytes ≡ Some j → kind_of bytes ≡ Some k → j ≡ k
same_kind bytes j k a b = cc

same_lexeme : (here : List ℕ) (j k : Kind) (m n : ℕ) → IsSpelledToken here j m → IsSpelledToken here k n → (j ≡ k) × (m ≡ n)
same_lexeme here j k m n a b =
    let long = same_length here m n a.longest b.longest in
    (same_kind (take n here) j k (subst (λ (l : ℕ). kind_of (take l here) ≡ Some j) long a.kind_is) b.kind_is, long)

lexeme_is_no_bad_number : (here : List ℕ) (kind : Kind) (n : ℕ) → IsSpelledToken here kind n → IsBadNumber here → ⊥
lexeme_is_no_bad_number here kind n a b =
    let long = same_length here n b.n a.longest b.longest in
    let is = subst (λ (l : ℕ). kind_of (take l here) ≡ Some kind) long a.kind_is in
    let none = b.none in
    cc

longest_is_no_stray : (before here : List ℕ) (n : ℕ) → IsLongest here n → IsStrayByte before here → ⊥
longest_is_no_stray before here n a b = let h = b.no_token n a.within in let k = a.could_be in cc

same_bound : (before here : List ℕ) (j k : Kind) (m n : ℕ) → IsBoundToken before here j m → IsBoundToken before here k n → (j ≡ k) × (m ≡ n)
same_bound before here j k m n a b = (a.kind_is ∙ sym b.kind_is, let p = a.size in let q = b.size in omega arith)

-- the word `pragma` begins with no digit
pragma_is_no_marker : (rest : List ℕ) → take_while is_name_byte rest ≡ codes "pragma" → is_marker rest ≡ false
unfolding is_marker is_digit
pragma_is_no_marker [] is = cc
pragma_is_no_marker (c ∷ cs) is = by_test (is_name_byte c) (sym (take_while-cons is_name_byte c cs) ∙ is)
  where
    by_test : (b : Bool) → cond b (c ∷ take_while is_name_byte cs) [] ≡ codes "pragma" → is_digit c ≡ false
    by_test true e = let first : c ≡ 112 = cc in rw first refl
    by_test false e = cc

pragma_no_marker : (line : List ℕ) → is_pragma line ≡ true → is_marker (after_spaces line) ≡ false
unfolding is_pragma word_of
pragma_no_marker line e = pragma_is_no_marker (after_spaces line) ((bytes_eq-Decides (take_while is_name_byte (after_spaces line)) (codes "pragma")).0 e)

-- a line with a bound is not skipped
bound_not_skipped : (line : List ℕ) → is_bound_line line ≡ true → is_skipped line ≡ true → ⊥
unfolding is_bound_line is_skipped is_loopbound
bound_not_skipped line is skips =
    let loopbound = (and_parts (is_loopbound line) (is_bound_operand (operand_of line)) is).0 in
    let pragma = (and_parts (is_pragma line) (bytes_eq (word_of (after_word line)) (codes "loopbound")) loopbound).0 in
    let h = rw (pragma_no_marker line pragma, pragma, (and_parts (is_pragma line) (bytes_eq (word_of (after_word line)) (codes "loopbound")) loopbound).1) at skips in
    cc

gap_same : {m n : ℕ} → m ≡ n → ◌≡◌ {A = Result Piece Flaw} (Ok (Gap m)) (Ok (Gap n))
gap_same e = ap (λ (n : ℕ). Ok (Gap n)) e

lexeme_same : {j k : Kind} {m n : ℕ} → (j ≡ k) × (m ≡ n) → ◌≡◌ {A = Result Piece Flaw} (Ok (Lexeme j m)) (Ok (Lexeme k n))
lexeme_same e = let p = e.0 in let q = e.1 in cc

same_at : (before here : List ℕ) {s : Sort} {q r : Result Piece Flaw} → AtSort before here s q → AtSort before here s r → q ≡ r
same_at before here (a_blank a) (a_blank b) = gap_same (a ∙ sym b)
same_at before here (closed a) (closed b) = gap_same (same_close here _ _ a b)
same_at before here (closed a) (unclosed b) = let h = b.open_ a.inside in let k = a.closes in cc
same_at before here (unclosed a) (closed b) = let h = a.open_ b.inside in let k = b.closes in cc
same_at before here (unclosed a) (unclosed b) = refl
same_at before here (to_end a) (to_end b) = gap_same (a ∙ sym b)
same_at before here (skipped e a) (skipped f b) = gap_same (a ∙ sym b)
same_at before here (skipped e a) (a_bound b) = absurd (bound_not_skipped (directive_of here) b.line e)
same_at before here (skipped e a) (bad_line b) = let h = b.not_skipped in cc
same_at before here (a_bound a) (skipped f b) = absurd (bound_not_skipped (directive_of here) a.line f)
same_at before here (a_bound a) (a_bound b) = lexeme_same (same_bound before here _ _ _ _ a b)
same_at before here (a_bound a) (bad_line b) = let h = b.no_bound in let k = a.line in cc
same_at before here (bad_line a) (skipped f b) = let h = a.not_skipped in cc
same_at before here (bad_line a) (a_bound b) = let h = a.no_bound in let k = b.line in cc
same_at before here (bad_line a) (bad_line b) = refl
same_at before here (a_lexeme a) (a_lexeme b) = lexeme_same (same_lexeme here _ _ _ _ a b)
same_at before here (a_lexeme a) (bad_number b) = absurd (lexeme_is_no_bad_number here _ _ a b)
same_at before here (a_lexeme a) (stray b) = absurd (longest_is_no_stray before here _ a.longest b)
same_at before here (bad_number a) (a_lexeme b) = absurd (lexeme_is_no_bad_number here _ _ b a)
same_at before here (bad_number a) (bad_number b) = refl
same_at before here (bad_number a) (stray b) = absurd (longest_is_no_stray before here _ a.longest b)
same_at before here (stray a) (a_lexeme b) = absurd (longest_is_no_stray before here _ b.longest a)
same_at before here (stray a) (bad_number b) = absurd (longest_is_no_stray before here _ b.longest a)
same_at before here (stray a) (stray b) = refl

-- one thing stands at a place
pub stands_once : (before here : List ℕ) (q r : Result Piece Flaw) → Stands before here q → Stands before here r → q ≡ r
stands_once before here q r a b = same_at before here (sorted before here q a) (sorted before here r b)
