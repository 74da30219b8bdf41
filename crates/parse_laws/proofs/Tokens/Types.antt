-- The name of a type that is spelled is read, and one that is read is spelled.
use Rattle.std.proofs.Common.{◌≡◌, ◌<◌, Bool, true, false, List, ◌∷◌, length, Option, Some, Ok, refl, ap, ◌∙◌, arith}
use Rattle.c_tree.specs.declared.tree.Ty.{Ty}
use Rattle.c_tree.specs.declared.tree.Ty.TheVariants as ty
use Rattle.c_tree.specs.declared.symbol.Symbol.{Symbol}
use Rattle.c_tree.specs.declared.symbol.Symbol.TheVariants as s
use Rattle.c_tree.specs.Grammar.SpelledExpressions.{TypeName, int, signed, signed_int, unsigned, unsigned_int}
use Rattle.c_tree.specs.Grammar.SpelledStatements.{Optional, absent, present}
use Rattle.c_tree.specs.Tokens.Symbols.{Lexeme}
use Rattle.parse_laws.specs.Parser.{first, sees, optional_word, is_type, begins_type, with_int, type_by, type_name}
use Rattle.parse_laws.proofs.Reading.Steps.{Sound, bind, step, split_at, not_seen, expect-yes, optional_word-yes, optional_word-no}

pub type_shorter : {ts rest : List Lexeme} {to : Ty} → TypeName ts to rest → length rest < length ts
type_shorter (int h) = omega arith
type_shorter (signed h) = omega arith
type_shorter (signed_int h i) = omega arith
type_shorter (unsigned h) = omega arith
type_shorter (unsigned_int h i) = omega arith

pub type_begins : {ts rest : List Lexeme} {to : Ty} → TypeName ts to rest → begins_type ts ≡ true
unfolding begins_type
type_begins (int h) = rw h refl
type_begins (signed h) = rw h refl
type_begins (signed_int h i) = rw h refl
type_begins (unsigned h) = rw h refl
type_begins (unsigned_int h i) = rw h refl

-- the name of a type begins with none but its words
pub type_no : (m : Symbol) → is_type (Some m) ≡ false → {ts rest : List Lexeme} {to : Ty} → TypeName ts to rest → sees m ts ≡ false
unfolding begins_type
type_no m never {ts} d = not_seen is_type m ts never (type_begins d)

with_int-alone : (m : Symbol) (to : Ty) (t : Lexeme) (rest : List Lexeme) → t.symbol ≡ m → sees s.Int rest ≡ false → with_int m to (t ∷ rest) ≡ Ok (to, rest)
unfolding with_int
with_int-alone m to t rest h alone = rw (expect-yes m t rest h, optional_word-no s.Int rest alone) refl

with_int-both : (m : Symbol) (to : Ty) (t i : Lexeme) (rest : List Lexeme) → t.symbol ≡ m → i.symbol ≡ s.Int → with_int m to (t ∷ i ∷ rest) ≡ Ok (to, rest)
unfolding with_int
with_int-both m to t i rest h k = rw (expect-yes m t (i ∷ rest) h, optional_word-yes s.Int i rest k) refl

type-is : (m : Symbol) (t : Lexeme) (ts : List Lexeme) → t.symbol ≡ m → type_name (t ∷ ts) ≡ type_by (Some m) (t ∷ ts)
unfolding type_name
type-is m t ts h = ap (λ (x : Symbol). type_by (Some x) (t ∷ ts)) h

int-alone : (t : Lexeme) (rest : List Lexeme) → t.symbol ≡ s.Int → type_by (Some s.Int) (t ∷ rest) ≡ Ok (ty.Int, rest)
int-alone t rest h = rw (expect-yes s.Int t rest h) refl

-- before what is no `int`
pub type_yes : {ts rest : List Lexeme} {to : Ty} → TypeName ts to rest → sees s.Int rest ≡ false → type_name ts ≡ Ok (to, rest)
type_yes (int {t = t} {rest = rest} h) alone = type-is s.Int t rest h ∙ int-alone t rest h
type_yes (signed {t = t} {rest = rest} h) alone = type-is s.Signed t rest h ∙ with_int-alone s.Signed ty.Int t rest h alone
type_yes (signed_int {t = t} {i = i} {rest = rest} h k) alone = type-is s.Signed t (i ∷ rest) h ∙ with_int-both s.Signed ty.Int t i rest h k
type_yes (unsigned {t = t} {rest = rest} h) alone = type-is s.Unsigned t rest h ∙ with_int-alone s.Unsigned ty.Unsigned t rest h alone
type_yes (unsigned_int {t = t} {i = i} {rest = rest} h k) alone = type-is s.Unsigned t (i ∷ rest) h ∙ with_int-both s.Unsigned ty.Unsigned t i rest h k

-- ---- a word that may be missing

pub optional_sound : (m : Symbol) (ts : List Lexeme) → Sound (λ b u. Optional m ts b u) (optional_word m ts)
unfolding optional_word
optional_sound m ts = split_at m (λ v. Sound (λ b u. Optional m v b u) (optional_word m v)) ts
    (λ t u is. rw (optional_word-yes m t u is) (present is))
    (λ none. rw (optional_word-no m ts none) absent)

pub optional_yes : {m : Symbol} {ts rest : List Lexeme} {b : Bool} → Optional m ts b rest → sees m rest ≡ false → optional_word m ts ≡ Ok (b, rest)
optional_yes {m = m} {rest = rest} absent h = optional_word-no m rest h
optional_yes {m = m} (present {t = t} {rest = rest} is) h = optional_word-yes m t rest is

-- ---- what is read is spelled

with_int_sound : (m : Symbol) (to : Ty) → ((t : Lexeme) (rest : List Lexeme) → t.symbol ≡ m → TypeName (t ∷ rest) to rest)
    → ((t i : Lexeme) (rest : List Lexeme) → t.symbol ≡ m → i.symbol ≡ s.Int → TypeName (t ∷ i ∷ rest) to rest)
    → (ts : List Lexeme) → Sound (λ a u. TypeName ts a u) (with_int m to ts)
unfolding with_int
with_int_sound m to alone both ts = step m _ _ (λ u. Unit {0}) (λ u a v. TypeName u a v) ts tt
    (λ t u _ is. bind (λ b v. Optional s.Int u b v) (λ a v. TypeName (t ∷ u) a v) (optional_word s.Int u) _ (optional_sound s.Int u)
    (λ b v d. by_optional t u b v is d))
  where
    by_optional : (t : Lexeme) (u : List Lexeme) (b : Bool) (v : List Lexeme) → t.symbol ≡ m → Optional s.Int u b v → TypeName (t ∷ u) to v
    by_optional t u b v is absent = alone t u is
    by_optional t u b v is (present {t = x} {rest = rest} i) = both t x rest is i

type_by_sound : (x : Option Symbol) (ts : List Lexeme) → Sound (λ a u. TypeName ts a u) (type_by x ts)
type_by_sound (Some s.Int) ts = step s.Int _ _ (λ u. Unit {0}) (λ u a v. TypeName u a v) ts tt (λ t u _ is. int is)
type_by_sound (Some s.Signed) ts = with_int_sound s.Signed ty.Int (λ t rest h. signed h) (λ t i rest h k. signed_int h k) ts
type_by_sound (Some s.Unsigned) ts = with_int_sound s.Unsigned ty.Unsigned (λ t rest h. unsigned h) (λ t i rest h k. unsigned_int h k) ts
type_by_sound _ ts = tt

pub type_sound : (ts : List Lexeme) → Sound (λ a u. TypeName ts a u) (type_name ts)
unfolding type_name
type_sound ts = type_by_sound (first ts) ts
