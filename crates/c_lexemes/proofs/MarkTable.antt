-- The first entry of a table of marks that stands at a place is the longest there, since a longer entry comes first.
use Rattle.std.proofs.Common.{◌≡◌, ℕ, ◌≤◌, Bool, true, false, cond, ◌&&◌, ◌||◌, leb, List, [], ◌∷◌, length, take, Option, Some, None, MatchOption, refl, sym, ◌∙◌, ap, subst, arith, length-take, length-take-le}
use Rattle.std.specs.Prelude.{bytes_eq}
use Rattle.std.proofs.lemmas.Bool.{leb-true, and_parts}
use Rattle.std.proofs.lemmas.Slice.Eq.{bytes_eq-Decides}
use Rattle.c_tree.specs.Tokens.Characters.{begins_with}
use Rattle.c_tree.specs.Tokens.TokenKinds.{is_among, marks}
use Rattle.c_lexemes.specs.Marks.{first_length, mark_length}

-- no entry is longer than this, nor than one before it
abbrev descends : ℕ → List (List ℕ) → Bool
descends most [] = true
descends most (entry ∷ table) = leb (length entry) most && descends (length entry) table

marks_descend : descends 3 marks ≡ true
unfolding marks
marks_descend = refl

either_true : (a b : Bool) → (a || b) ≡ true → (a ≡ false → b ≡ true)
either_true true b e f = cc
either_true false b e f = e

length-among : (most : ℕ) (table : List (List ℕ)) (bytes : List ℕ) → descends most table ≡ true → is_among table bytes ≡ true → length bytes ≤ most
length-among most [] bytes down among = cc
length-among most (entry ∷ table) bytes down among =
    let parts = and_parts (leb (length entry) most) (descends (length entry) table) down in
    let small : length entry ≤ most = leb-true (length entry) most parts.0 in
    by_test small (λ h. length-among (length entry) table bytes parts.1 h) (bytes_eq entry bytes) refl among
  where
    by_test : length entry ≤ most → (is_among table bytes ≡ true → length bytes ≤ length entry) → (b : Bool) → bytes_eq entry bytes ≡ b → (b || is_among table bytes) ≡ true → length bytes ≤ most
    by_test small ih true e h = let same : length entry ≡ length bytes = ap length ((bytes_eq-Decides entry bytes).0 e) in omega arith
    by_test small ih false e h = let le = ih h in omega arith

-- the front of m bytes is an entry, so it stands there
entry_is_front : (entry here : List ℕ) (m : ℕ) → m ≤ length here → bytes_eq entry (take m here) ≡ true → (begins_with here entry ≡ true) × (m ≡ length entry)
entry_is_front entry here m within same =
    let is : entry ≡ take m here = (bytes_eq-Decides entry (take m here)).0 same in
    let long : m ≡ length entry = sym (ap length is ∙ length-take-le m here within) in
    (subst (λ (k : ℕ). bytes_eq entry (take k here) ≡ true) long same, long)

-- n is the length of the longest entry that stands here
pub record IsLongestEntry (table : List (List ℕ)) (here : List ℕ) (n : ℕ) : Type 0 where
  pub within : n ≤ length here
  pub is_entry : is_among table (take n here) ≡ true
  pub longest : (m : ℕ) → m ≤ length here → is_among table (take m here) ≡ true → m ≤ n

abbrev IsFirstLength : List (List ℕ) → List ℕ → Option ℕ → Type 0
IsFirstLength table here r = MatchOption r ((m : ℕ) → m ≤ length here → is_among table (take m here) ≡ false) (IsLongestEntry table here)

stands : (entry : List ℕ) (table : List (List ℕ)) (here : List ℕ) → descends (length entry) table ≡ true → begins_with here entry ≡ true → IsLongestEntry (entry ∷ table) here (length entry)
stands entry table here down e =
    let is : entry ≡ take (length entry) here = (bytes_eq-Decides entry (take (length entry) here)).0 e in
    record {
      within = omega (arith, ap length is ∙ length-take (length entry) here);
      is_entry = rw e refl;
      longest = λ m within among. by_test m within (bytes_eq entry (take m here)) refl among;
    }
  where
    by_test : (m : ℕ) → m ≤ length here → (b : Bool) → bytes_eq entry (take m here) ≡ b → (b || is_among table (take m here)) ≡ true → m ≤ length entry
    by_test m within true f h = let k = (entry_is_front entry here m within f).1 in omega arith
    by_test m within false f h = let le = length-among (length entry) table (take m here) down h in let long = length-take-le m here within in omega arith

passed_over : (entry : List ℕ) (table : List (List ℕ)) (here : List ℕ) (r : Option ℕ) → begins_with here entry ≡ false → IsFirstLength table here r → IsFirstLength (entry ∷ table) here r
passed_over entry table here None e none = λ m within. rw (not_entry m within (bytes_eq entry (take m here)) refl) (none m within)
  where
    not_entry : (m : ℕ) → m ≤ length here → (b : Bool) → bytes_eq entry (take m here) ≡ b → b ≡ false
    not_entry m within true f = let s = (entry_is_front entry here m within f).0 in cc
    not_entry m within false f = refl
passed_over entry table here (Some n) e found =
    record {
      within = found.within;
      is_entry = rw (not_entry n found.within (bytes_eq entry (take n here)) refl) found.is_entry;
      longest = λ m within among. found.longest m within (either_true (bytes_eq entry (take m here)) (is_among table (take m here)) among (not_entry m within (bytes_eq entry (take m here)) refl));
    }
  where
    not_entry : (m : ℕ) → m ≤ length here → (b : Bool) → bytes_eq entry (take m here) ≡ b → bytes_eq entry (take m here) ≡ false
    not_entry m within true f = let s = (entry_is_front entry here m within f).0 in cc
    not_entry m within false f = f

first_length-longest : (most : ℕ) (table : List (List ℕ)) (here : List ℕ) → descends most table ≡ true → IsFirstLength table here (first_length table here)
unfolding first_length
first_length-longest most [] here down = λ m within. refl
first_length-longest most (entry ∷ table) here down =
    let parts = and_parts (leb (length entry) most) (descends (length entry) table) down in
    by_test parts.1 (first_length-longest (length entry) table here parts.1) (begins_with here entry) refl
  where
    by_test : descends (length entry) table ≡ true → IsFirstLength table here (first_length table here) → (b : Bool) → begins_with here entry ≡ b → IsFirstLength (entry ∷ table) here (cond b (Some (length entry)) (first_length table here))
    by_test down ih true e = stands entry table here down e
    by_test down ih false e = passed_over entry table here (first_length table here) e ih

pub mark_length-longest : (here : List ℕ) → IsFirstLength marks here (mark_length here)
unfolding mark_length
mark_length-longest here = first_length-longest 3 marks here marks_descend
