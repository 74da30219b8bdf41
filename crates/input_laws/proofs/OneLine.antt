-- The text of an input has no line feed.
use Rattle.std.proofs.Common.{◌≡◌, ℕ, zero, suc, ◌^◌, ◌<◌, ◌≤◌, ◌==◌, Bool, true, false, not, List, [], ◌∷◌, ◌++◌, replicate, drop, ℤ, pos, negsuc, refl, ◌∙◌, arith, ne_eqb}
use Rattle.std.specs.Prelude.{IsTrue, codes, decimal, slice_get, unwrap_or, if◌then◌else◌}
use Rattle.std.specs.Fmt.{signed_decimal}
use Rattle.std.specs.List.{list_all}
use Rattle.std.proofs.lemmas.Bool.{and_parts}
use Rattle.std.proofs.lemmas.Bool.Decides.{nat_tests}
use Rattle.std.proofs.lemmas.Fmt.{decimal_by_steps_wide}
use Rattle.std.proofs.lemmas.List.Folds.{list_all-append}
use Rattle.c_tree.specs.declared.program.Local.{Local}
use Rattle.c_tree.specs.declared.program.Global.{Global}
use Rattle.c_tree.specs.declared.program.Func.{Func}
use Rattle.c_tree.specs.declared.program.Input.{Input}
use Rattle.c_tree.specs.Keeping.Programs.{Program}
use Rattle.c_tree.specs.Checking.Checked.{IsProgram}
use Rattle.c_tree.specs.Meaning.Runs.{fits}
use Rattle.c_tree.specs.Tokens.Characters.{is_digit, is_nondigit, is_name_byte}
use Rattle.c_tree.specs.Tokens.TokenKinds.{is_name}
use Rattle.c_input.specs.InputTexts.{own_leads, param_leads, entry_leads, outer_leads, input_leads, led_numbers, input_text}
use Rattle.c_input.specs.Reading.{IsSmall, Suits}
use Rattle.c_input.proofs.InputLeads.{fitting_suits}
use Rattle.print_laws.proofs.Composing.ComposedExpressions.{IsIdentifier}
use Rattle.print_laws.proofs.Named.Showable.{AreNamed, AreShowableFuncs, AreShowableGlobals, IsShowableProgram}
use Rattle.print_laws.proofs.Named.ShowablePrograms.{showable}
use Rattle.text_lines.specs.Cutting.{HasNoFeed}

-- ---- bytes

feedless_append : (xs ys : List ℕ) → HasNoFeed xs → HasNoFeed ys → HasNoFeed (xs ++ ys)
feedless_append xs ys one other = list_all-append (λ b. not (b == 10)) xs ys ∙ rw (one, other) refl

feedless_drop : (xs : List ℕ) → HasNoFeed xs → HasNoFeed (drop 1 xs)
feedless_drop [] none = refl
feedless_drop (x ∷ xs) none = (and_parts (not (x == 10)) (list_all (λ b. not (b == 10)) xs) none).1

-- ---- names

nondigit_plain : (c : ℕ) → is_nondigit c ≡ true → (c == 10) ≡ false
unfolding is_nondigit
nondigit_plain c e = grind (arith, nat_tests)

name_byte_plain : (c : ℕ) → is_name_byte c ≡ true → (c == 10) ≡ false
unfolding is_name_byte is_nondigit is_digit
name_byte_plain c e = grind (arith, nat_tests)

name_bytes_plain : (cs : List ℕ) → list_all is_name_byte cs ≡ true → HasNoFeed cs
name_bytes_plain [] all = refl
name_bytes_plain (c ∷ cs) all =
    let parts = and_parts (is_name_byte c) (list_all is_name_byte cs) all in
    rw (name_byte_plain c parts.0, name_bytes_plain cs parts.1) refl

name_plain : (name : List ℕ) → IsIdentifier name → HasNoFeed name
unfolding is_name
name_plain [] named = absurd (let bad = named.name in cc)
name_plain (c ∷ cs) named =
    let parts = and_parts (is_nondigit c) (list_all is_name_byte cs) named.name in
    rw (nondigit_plain c parts.0, name_bytes_plain cs parts.1) refl

-- ---- numbers

digit_plain : (d : ℕ) → 48 ≤ d → HasNoFeed (d ∷ [])
digit_plain d digit = rw (ne_eqb d 10 (λ e. omega (arith, e, digit))) refl

decimal_plain : (n : ℕ) → n < 2 ^ 64 → HasNoFeed (decimal n)
decimal_plain n small =
    decimal_by_steps_wide (λ m ds. HasNoFeed ds) (λ m h. digit_plain _ (omega arith)) (λ m ds h all. feedless_append ds _ all (digit_plain _ (omega arith))) n (omega (arith, small))

number_plain : (z : ℤ) → IsSmall z → HasNoFeed (signed_decimal z)
number_plain (pos n) small = decimal_plain n (omega (arith, small))
number_plain (negsuc n) small = decimal_plain (suc n) (omega (arith, small))

-- ---- what stands before the numbers

abbrev ArePlain : List (List ℕ) → Type 0
ArePlain [] = Unit {0}
ArePlain (l ∷ ls) = HasNoFeed l × ArePlain ls

plain_append : (ls ms : List (List ℕ)) → ArePlain ls → ArePlain ms → ArePlain (ls ++ ms)
plain_append [] ms one other = other
plain_append (l ∷ ls) ms one other = (one.0, plain_append ls ms one.1 other)

plain_replicate : (n : ℕ) (l : List ℕ) → HasNoFeed l → ArePlain (replicate n l)
plain_replicate zero l plain = tt
plain_replicate (suc n) l plain = (plain, plain_replicate n l plain)

own_plain : (name : List ℕ) (n : ℕ) → HasNoFeed name → ArePlain (own_leads name n)
own_plain name zero plain = tt
own_plain name (suc n) plain =
    (feedless_append (codes " " ++ name) (codes "=") (feedless_append (codes " ") name refl plain) refl, plain_replicate n (codes ",") refl)

params_plain : (n : ℕ) (ls : List Local) → AreNamed ls → ArePlain (param_leads n ls)
params_plain zero ls named = tt
params_plain (suc n) [] named = tt
params_plain (suc n) (l ∷ ls) named = plain_append (own_leads l.name 1) (param_leads n ls) (own_plain l.name 1 (name_plain l.name named.0)) (params_plain n ls named.1)

entry_plain : (p : Program) (fs : List Func) (k : ℕ) → AreShowableFuncs p fs → ArePlain (entry_leads (slice_get fs k))
entry_plain p [] k shown = tt
entry_plain p (f ∷ fs) zero shown = params_plain f.params f.locals shown.0.locals
entry_plain p (f ∷ fs) (suc k) shown = entry_plain p fs k shown.1

with_own : (outer : Bool) (own rest : List (List ℕ)) → ArePlain own → ArePlain rest → ArePlain (if outer then own ++ rest else rest)
with_own true own rest one other = plain_append own rest one other
with_own false own rest one other = other

outers_plain : (gs : List Global) → AreShowableGlobals gs → ArePlain (outer_leads gs)
outers_plain [] shown = tt
outers_plain (g ∷ gs) shown =
    let n = unwrap_or g.length 1 in
    with_own g.outer (own_leads g.name n) (outer_leads gs) (own_plain g.name n (name_plain g.name shown.0.named)) (outers_plain gs shown.1)

leads_plain : (p : Program) → IsShowableProgram p → ArePlain (input_leads p)
leads_plain p shown =
    plain_append (entry_leads (slice_get p.funcs p.entry)) (outer_leads p.globals) (entry_plain p p.funcs p.entry shown.funcs) (outers_plain p.globals shown.globals)

-- ---- the text

led_plain : (ls : List (List ℕ)) (zs : List ℤ) → ArePlain ls → Suits ls zs → HasNoFeed (led_numbers ls zs)
led_plain [] zs plain suits = refl
led_plain (l ∷ ls) [] plain suits = refl
led_plain (l ∷ ls) (z ∷ zs) plain suits =
    feedless_append (l ++ signed_decimal z) (led_numbers ls zs) (feedless_append l (signed_decimal z) plain.0 (number_plain z suits.1.0)) (led_plain ls zs plain.1 suits.1.1)

pub text_feedless : (p : Program) (i : Input) → IsProgram p → IsTrue (fits p i) → HasNoFeed (input_text p i)
text_feedless p i program fit =
    feedless_drop (led_numbers (input_leads p) i.values)
    (led_plain (input_leads p) i.values (leads_plain p (showable program.unit program.entry p program.spelled program.typed)) (fitting_suits p i fit))
