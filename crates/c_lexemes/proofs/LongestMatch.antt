-- The longest token that begins with a byte, and what it is.
use Rattle.std.proofs.Common.{◌≡◌, ℕ, zero, suc, ◌+◌, ◌<◌, ◌≤◌, Bool, true, false, cond, ◌||◌, List, [], ◌∷◌, length, take, Option, Some, None, MatchOption, refl, sym, ◌∙◌, arith, one-add, add-one}
use Rattle.std.specs.List.{list_all, prefix_len}
use Rattle.std.proofs.lemmas.List.Sums.{prefix_len-le-length}
use Rattle.c_tree.specs.declared.token.Kind.TheVariants.{Word, Name, Mark}
use Rattle.c_tree.specs.Tokens.Characters.{begins, is_digit, is_nondigit, is_name_byte}
use Rattle.c_tree.specs.Tokens.TokenKinds.{is_among, keywords, marks, is_name, is_number_run, continues_number, could_be_token, constant_of, kind_of}
use Rattle.c_tree.specs.Tokens.Lexing.{IsLongest}
use Rattle.c_lexemes.specs.Unread.{HasNoToken, IsBadNumber}
use Rattle.c_lexemes.specs.Lengths.{continues, number_length}
use Rattle.c_lexemes.specs.Marks.{first_length, mark_length}
use Rattle.c_lexemes.proofs.Fronts.{all_front, all_beyond, number_front, number_beyond, keywords_begin}
use Rattle.c_lexemes.proofs.MarkTable.{IsLongestEntry, mark_length-longest}
use Rattle.plain_laws.proofs.Booleans.{or-false}
use Rattle.c_tree.proofs.FirstBytes.{token_nondigit, nondigit_in_name, no_mark, marks_begin, is_among-front, nondigit_is_no_digit}

digit_in_name : (c : ℕ) → is_nondigit c ≡ false → is_digit c ≡ true → is_name_byte c ≡ true
unfolding is_name_byte
digit_in_name c e f = rw (e, f) refl

token_digit : (c : ℕ) (cs : List ℕ) → is_nondigit c ≡ false → is_digit c ≡ true → could_be_token (c ∷ cs) ≡ continues_number c cs
unfolding could_be_token is_name is_number_run
token_digit c cs e f = rw (e, f, no_mark c cs (digit_in_name c e f)) (or-false (continues_number c cs))

token_mark : (c : ℕ) (cs : List ℕ) → is_nondigit c ≡ false → is_digit c ≡ false → could_be_token (c ∷ cs) ≡ is_among marks (c ∷ cs)
unfolding could_be_token is_name is_number_run
token_mark c cs e f = rw (e, f) refl

pub no_token_empty : could_be_token [] ≡ false
unfolding could_be_token is_name is_number_run marks
no_token_empty = refl

-- ---- the longest token

longest_name : (c : ℕ) (cs : List ℕ) → is_nondigit c ≡ true → IsLongest (c ∷ cs) (prefix_len is_name_byte (c ∷ cs))
longest_name c cs e = rw (nondigit_in_name c e, one-add) (record {
  within = let le = prefix_len-le-length is_name_byte cs in omega arith;
  could_be = token_nondigit c (take (prefix_len is_name_byte cs) cs) e ∙ all_front is_name_byte cs;
  longest = longer;
})
  where
    longer : (m : ℕ) → suc (prefix_len is_name_byte cs) < m → m ≤ length (c ∷ cs) → could_be_token (take m (c ∷ cs)) ≡ false
    longer zero more within = absurd (omega arith)
    longer (suc m) more within = token_nondigit c (take m cs) e ∙ all_beyond is_name_byte cs m (omega arith) (omega arith)

number_length-le : (last : ℕ) (xs : List ℕ) → number_length last xs ≤ length xs
unfolding number_length
number_length-le last [] = omega arith
number_length-le last (x ∷ xs) = by_test (number_length-le x xs) (continues last x)
  where
    by_test : number_length x xs ≤ length xs → (b : Bool) → cond b (number_length x xs + 1) 0 ≤ suc (length xs)
    by_test ih true = omega arith
    by_test ih false = omega arith

number_length-first : (c : ℕ) (cs : List ℕ) → is_name_byte c ≡ true → number_length 0 (c ∷ cs) ≡ suc (number_length c cs)
unfolding number_length continues
number_length-first c cs e = rw (e, add-one) refl

longest_number : (c : ℕ) (cs : List ℕ) → is_nondigit c ≡ false → is_digit c ≡ true → IsLongest (c ∷ cs) (number_length 0 (c ∷ cs))
longest_number c cs e f = rw (number_length-first c cs (digit_in_name c e f)) (record {
  within = let le = number_length-le c cs in omega arith;
  could_be = token_digit c (take (number_length c cs) cs) e f ∙ number_front c cs;
  longest = longer;
})
  where
    longer : (m : ℕ) → suc (number_length c cs) < m → m ≤ length (c ∷ cs) → could_be_token (take m (c ∷ cs)) ≡ false
    longer zero more within = absurd (omega arith)
    longer (suc m) more within = token_digit c (take m cs) e f ∙ number_beyond c cs m (omega arith) (omega arith)

-- of a front that begins with neither a letter nor a digit
front_mark : (c : ℕ) (cs : List ℕ) (m : ℕ) → is_nondigit c ≡ false → is_digit c ≡ false → could_be_token (take m (c ∷ cs)) ≡ is_among marks (take m (c ∷ cs))
unfolding could_be_token is_name is_number_run
front_mark c cs zero e f = refl
front_mark c cs (suc m) e f = token_mark c (take m cs) e f

longest_mark : (c : ℕ) (cs : List ℕ) → is_nondigit c ≡ false → is_digit c ≡ false → MatchOption (mark_length (c ∷ cs)) (HasNoToken (c ∷ cs)) (IsLongest (c ∷ cs))
longest_mark c cs e f = by_result (mark_length (c ∷ cs)) (mark_length-longest (c ∷ cs))
  where
    not_true : (b : Bool) → (b ≡ true → ⊥) → b ≡ false
    not_true true h = absurd (h refl)
    not_true false h = refl

    by_result : (r : Option ℕ) → MatchOption r ((m : ℕ) → m ≤ length (c ∷ cs) → is_among marks (take m (c ∷ cs)) ≡ false) (IsLongestEntry marks (c ∷ cs)) → MatchOption r (HasNoToken (c ∷ cs)) (IsLongest (c ∷ cs))
    by_result None none = λ m within. front_mark c cs m e f ∙ none m within
    by_result (Some n) found = record {
      within = found.within;
      could_be = front_mark c cs n e f ∙ found.is_entry;
      longest = λ m more within. not_true (could_be_token (take m (c ∷ cs))) (λ h. let le = found.longest m within (sym (front_mark c cs m e f) ∙ h) in absurd (omega arith));
    }

longest_none : MatchOption (mark_length []) (HasNoToken []) (IsLongest [])
unfolding mark_length first_length marks could_be_token is_name is_number_run
longest_none = λ n within. no_front n
  where
    no_front : (n : ℕ) → could_be_token (take n []) ≡ false
    no_front zero = no_token_empty
    no_front (suc n) = no_token_empty

-- ---- what it is

kind_digit : (c : ℕ) (cs : List ℕ) → is_digit c ≡ true → could_be_token (c ∷ cs) ≡ true → kind_of (c ∷ cs) ≡ constant_of (c ∷ cs)
unfolding kind_of is_number_run
kind_digit c cs f could = rw (f, sym (token_digit c cs (no_nondigit (is_nondigit c) refl) f) ∙ could) refl
  where
    no_nondigit : (b : Bool) → is_nondigit c ≡ b → is_nondigit c ≡ false
    no_nondigit true e = let bad = nondigit_is_no_digit c e in cc
    no_nondigit false e = e

kind_nondigit : (c : ℕ) (cs : List ℕ) → is_nondigit c ≡ true → could_be_token (c ∷ cs) ≡ true → kind_of (c ∷ cs) ≡ cond (is_among keywords (c ∷ cs)) (Some Word) (Some Name)
unfolding kind_of is_number_run is_name
kind_nondigit c cs e could = rw (nondigit_is_no_digit c e, e, sym (token_nondigit c cs e) ∙ could) refl

kind_mark : (c : ℕ) (cs : List ℕ) → is_nondigit c ≡ false → is_digit c ≡ false → could_be_token (c ∷ cs) ≡ true → kind_of (c ∷ cs) ≡ Some Mark
unfolding kind_of is_number_run is_name
kind_mark c cs e f could = rw (f, no_keyword (is_among keywords (c ∷ cs)) refl, e, sym (token_mark c cs e f) ∙ could) refl
  where
    no_keyword : (b : Bool) → is_among keywords (c ∷ cs) ≡ b → is_among keywords (c ∷ cs) ≡ false
    no_keyword true h = let bad = is_among-front is_nondigit keywords (c ∷ cs) keywords_begin h in cc
    no_keyword false h = h

-- ---- the same of any bytes

pub name_here : (here : List ℕ) → begins is_nondigit here ≡ true → IsLongest here (prefix_len is_name_byte here)
name_here [] e = cc
name_here (c ∷ cs) e = longest_name c cs e

pub number_here : (here : List ℕ) → begins is_nondigit here ≡ false → begins is_digit here ≡ true → IsLongest here (number_length 0 here)
number_here [] e f = cc
number_here (c ∷ cs) e f = longest_number c cs e f

pub mark_here : (here : List ℕ) → begins is_nondigit here ≡ false → begins is_digit here ≡ false → MatchOption (mark_length here) (HasNoToken here) (IsLongest here)
mark_here [] e f = longest_none
mark_here (c ∷ cs) e f = longest_mark c cs e f

pub kind_of_number : (bytes : List ℕ) → could_be_token bytes ≡ true → begins is_digit bytes ≡ true → kind_of bytes ≡ constant_of bytes
kind_of_number [] could f = cc
kind_of_number (c ∷ cs) could f = kind_digit c cs f could

pub kind_of_word : (bytes : List ℕ) → could_be_token bytes ≡ true → begins is_nondigit bytes ≡ true → kind_of bytes ≡ cond (is_among keywords bytes) (Some Word) (Some Name)
kind_of_word [] could e = cc
kind_of_word (c ∷ cs) could e = kind_nondigit c cs e could

pub kind_of_mark : (bytes : List ℕ) → could_be_token bytes ≡ true → begins is_nondigit bytes ≡ false → begins is_digit bytes ≡ false → kind_of bytes ≡ Some Mark
kind_of_mark [] could e f = let none = no_token_empty in cc
kind_of_mark (c ∷ cs) could e f = kind_mark c cs e f could

-- of the bytes that could be a token only a number run may be none
pub no_constant : (here : List ℕ) (n : ℕ) → IsLongest here n → None ≡ kind_of (take n here) → IsBadNumber here
unfolding kind_of could_be_token
no_constant here n longest none =
    let bytes = take n here in
    record { n = n; longest = longest; number = by_tests (is_number_run bytes) (is_among keywords bytes) (is_name bytes) (is_among marks bytes) refl longest.could_be none; none = sym none }
  where
    by_tests : (number keyword name mark : Bool) → is_number_run (take n here) ≡ number → ((name || number) || mark) ≡ true
        → None ≡ cond number (constant_of (take n here)) (cond keyword (Some Word) (cond name (Some Name) (cond mark (Some Mark) None))) → is_number_run (take n here) ≡ true
    by_tests true keyword name mark e could k = e
    by_tests false true name mark e could k = cc
    by_tests false false true mark e could k = cc
    by_tests false false false true e could k = cc
    by_tests false false false false e could k = cc
