-- Writing and reading the text of an input, a number at a time.
use Rattle.std.proofs.Common.{◌≡◌, ◌+◌, ◌-◌, ℕ, zero, suc, Bool, true, false, if◌then◌else◌, List, [], ◌∷◌, ◌++◌, length, take, drop, Option, Some, None, Result, Ok, Err, MatchResult, Bor, ℤ, pos, negsuc, to_z, of_z, slice_get, refl, sym, ap, ◌∙◌, subst, arith, append_assoc, append-nil}
use Rattle.std.specs.Fmt.{signed_decimal}
use Rattle.std.specs.Int.{w64}
use Rattle.std.specs.List.{prefix_len}
use Rattle.std.specs.Result.{result_ok}
use Rattle.std.specs.Str.Parse.{ParsesSigned}
use Rattle.std.proofs.lemmas.Fmt.{parse-signed_decimal, IsAscii-signed, signed_decimal_injective}
use Rattle.std.proofs.lemmas.Str.{IsUtf8-from_ascii}
use Rattle.std.proofs.lemmas.Int.{to_z-of_z}
use Rattle.std.specs.Str.{IsUtf8}
use Rattle.c_tree.specs.declared.program.Local.{Local}
use Rattle.c_tree.specs.declared.program.Global.{Global}
use Rattle.c_input.specs.InputTexts.{own_leads, param_leads, outer_leads, led_numbers}
use Rattle.c_input.specs.Reading.{is_entry_byte, global_leads, IsSmall, IsApart, Suits, Remains}
use Rattle.c_input.proofs.InputParts.{drop_is}
use Rattle.c_input.proofs.NumberTexts.{number_ends, led_apart}
use Rattle.std.proofs.lemmas.Option.{same_Some}

-- ---- what stands before the numbers

pub params_lead : (k : ℕ) (l : Local) (ls : List Local) (leads more whole : List (List ℕ)) → more ≡ leads ++ own_leads l.name 1 → leads ++ param_leads (suc k) (l ∷ ls) ≡ whole → more ++ param_leads k ls ≡ whole
params_lead k l ls leads more whole pushed so_far =
    ap (λ more. more ++ param_leads k ls) pushed ∙ append_assoc leads (own_leads l.name 1) (param_leads k ls) ∙ so_far

globals_split : (b : Bool) (own rest : List (List ℕ)) → (if b then own ++ rest else rest) ≡ (if b then own else []) ++ rest
globals_split true own rest = refl
globals_split false own rest = refl

pub globals_lead : (g : Global) (gs : List Global) (leads more whole : List (List ℕ)) → more ≡ leads ++ global_leads g → leads ++ outer_leads (g ∷ gs) ≡ whole → more ++ outer_leads gs ≡ whole
globals_lead g gs leads more whole pushed so_far =
    let rest = outer_leads gs in
    ap (λ more. more ++ rest) pushed ∙ append_assoc leads (global_leads g) rest ∙ ap (λ ls. leads ++ ls) (sym (globals_split g.outer (own_leads g.name _) rest)) ∙ so_far

pub no_params : (k : ℕ) → param_leads k [] ≡ []
no_params zero = refl
no_params (suc k) = refl

-- ---- writing

pub no_numbers : (ls : List (List ℕ)) → led_numbers ls [] ≡ []
no_numbers [] = refl
no_numbers (l ∷ ls) = refl

pub write_step : (ls : List (List ℕ)) (zs : List ℤ) (i : ℕ) (l : List ℕ) (z : ℤ) (text more whole : List ℕ) → slice_get ls i ≡ Some l → slice_get zs i ≡ Some z → more ≡ text ++ (l ++ signed_decimal z) → text ++ led_numbers (drop i ls) (drop i zs) ≡ whole → more ++ led_numbers (drop (i + 1) ls) (drop (i + 1) zs) ≡ whole
write_step ls zs i l z text more whole at_ls at_zs pushed so_far =
    let rest = led_numbers (drop (i + 1) ls) (drop (i + 1) zs) in
    ap (λ more. more ++ rest) pushed ∙ append_assoc text (l ++ signed_decimal z) rest ∙ ap (λ ls'. text ++ led_numbers ls' (z ∷ drop (i + 1) zs)) (sym (drop_is ls i l at_ls)) ∙ ap (λ zs'. text ++ led_numbers (drop i ls) zs') (sym (drop_is zs i z at_zs)) ∙ so_far

-- ---- reading one number

pub number_is_text : (z : ℤ) (bytes : List ℕ) → IsSmall z → bytes ≡ signed_decimal z → IsUtf8 bytes
number_is_text (pos n) bytes small is = subst IsUtf8 (sym is) (IsUtf8-from_ascii (signed_decimal (pos n)) (IsAscii-signed (pos n) (omega (arith, small))))
number_is_text (negsuc n) bytes small is = subst IsUtf8 (sym is) (IsUtf8-from_ascii (signed_decimal (negsuc n)) (IsAscii-signed (negsuc n) (omega (arith, small))))

pub number_is_read : {E : Type 0} (z : ℤ) (bytes : List ℕ) (r : Result ℤ E) → IsSmall z → bytes ≡ signed_decimal z → ParsesSigned w64 10 bytes r → r ≡ Ok z
number_is_read (pos n) bytes r small is h = parse-signed_decimal w64 (pos n) bytes r (record { sfits = omega (arith, small) }) (omega (arith, small)) is h
number_is_read (negsuc n) bytes r small is h = parse-signed_decimal w64 (negsuc n) bytes r (record { sfits = omega (arith, small) }) (omega (arith, small)) is h

-- bytes that are text are read as text
pub text_is_read : {E : Type 0} {bytes : List ℕ} (Q : E → Type 0) (r : Result (Bor (List ℕ)) E) → IsUtf8 bytes → result_ok r ≡ None → MatchResult r (λ s. (s.now ≡ bytes) × IsUtf8 bytes) (λ e. ¬ (IsUtf8 bytes) × Q e) → ⊥
text_is_read Q (Ok s) utf8 none h = absurd cc
text_is_read Q (Err e) utf8 none h = h.0 utf8

pub text_is : {E : Type 0} {bytes : List ℕ} (Q : E → Type 0) (r : Result (Bor (List ℕ)) E) (s : Bor (List ℕ)) → result_ok r ≡ Some s → MatchResult r (λ s. (s.now ≡ bytes) × IsUtf8 bytes) (λ e. ¬ (IsUtf8 bytes) × Q e) → s.now ≡ bytes
text_is Q (Ok t) s is h = ap (λ s. s.now) (sym (same_Some t s is)) ∙ h.0
text_is Q (Err e) s is h = absurd cc

-- a small number is kept as an `i64`
pub kept : (y z : ℤ) → IsSmall z → y ≡ z → to_z w64 (of_z w64 y) ≡ z
kept y (pos n) small same = ap (λ y. to_z w64 (of_z w64 y)) same ∙ to_z-of_z w64 (pos n) (record { sfits = omega (arith, small) })
kept y (negsuc n) small same = ap (λ y. to_z w64 (of_z w64 y)) same ∙ to_z-of_z w64 (negsuc n) (record { sfits = omega (arith, small) })

pub none_some : {X : Type 0} → (o : Option X) (x : X) → o ≡ None → o ≡ Some x → ⊥
none_some o x none some = let e = sym none ∙ some in absurd cc

pub some_same : {X : Type 0} → (o : Option X) (x y : X) → o ≡ Some x → o ≡ Some y → x ≡ y
some_same o x y e f = same_Some x y (sym e ∙ f)

drop_front : {X : Type 0} → (xs ys : List X) → drop (length xs) (xs ++ ys) ≡ ys
drop_front [] ys = refl
drop_front (x ∷ xs) ys = drop_front xs ys

take_front : {X : Type 0} → (xs ys : List X) → take (length xs) (xs ++ ys) ≡ xs
take_front [] ys = refl
take_front (x ∷ xs) ys = ap (λ xs. x ∷ xs) (take_front xs ys)

drop_past : {X : Type 0} → (xs ys : List X) → drop (length xs + 1) (xs ++ ys) ≡ drop 1 ys
drop_past [] ys = refl
drop_past (x ∷ xs) ys = let e : suc (length xs) + 1 ≡ suc (length xs + 1) = omega arith in ap (λ n. drop n (x ∷ xs ++ ys)) e ∙ drop_past xs ys

pub behind_label : (label number more text behind : List ℕ) (count : ℕ) → length label ≡ count → text ≡ label ++ number ++ more → behind ≡ drop count text → behind ≡ number ++ more
behind_label label number more text behind count long is dropped =
    dropped ∙ ap (λ n. drop n text) (sym long) ∙ ap (drop (length label)) (is ∙ append_assoc label number more) ∙ drop_front label (number ++ more)

pub number_found : (z : ℤ) (more behind : List ℕ) (end : ℕ) → IsSmall z → IsApart more → behind ≡ signed_decimal z ++ more → end ≡ prefix_len is_entry_byte behind → (take end behind ≡ signed_decimal z) × (drop (end + 1) behind ≡ drop 1 more)
number_found z more behind end small apart is found =
    let long : end ≡ length (signed_decimal z) = found ∙ ap (prefix_len is_entry_byte) is ∙ number_ends z more small apart in (
      ap (λ n. take n behind) long ∙ ap (take (length (signed_decimal z))) is ∙ take_front (signed_decimal z) more,
      ap (λ n. drop (n + 1) behind) long ∙ ap (drop (length (signed_decimal z) + 1)) is ∙ drop_past (signed_decimal z) more,
    )

-- ---- reading the numbers

-- what is told of a number that is read
abbrev Tells : ℕ → List ℕ → (ℤ → List ℕ → Type 0) → Type 0
Tells count rest P =
    (label more : List ℕ) (z : ℤ) → length label ≡ count → IsSmall z → IsApart more → rest ≡ label ++ signed_decimal z ++ more → P z more

-- the next number is the first of those left
record Next (ls : List (List ℕ)) (later : List ℤ) (P : ℤ → List ℕ → Type 0) : Type 0 where
  pub z : ℤ
  pub zs : List ℤ
  pub first : later ≡ z ∷ zs
  pub small : IsSmall z
  pub suits : Suits ls zs
  pub told : P z (led_numbers ls zs)

read_next : (l : List ℕ) (ls : List (List ℕ)) (later : List ℤ) (rest : List ℕ) (P : ℤ → List ℕ → Type 0) → Suits (l ∷ ls) later → rest ≡ drop 1 (led_numbers (l ∷ ls) later) → Tells (length l - 1) rest P → Next ls later P
read_next l ls [] rest P suits text told = absurd suits
read_next [] ls (z ∷ zs) rest P suits text told = absurd suits.0
read_next (c ∷ label) ls (z ∷ zs) rest P suits text told =
    record { z = z; zs = zs; first = refl; small = suits.1.0; suits = suits.1.1; told = told label (led_numbers ls zs) z (omega arith) suits.1.0 (led_apart ls zs suits.1.1) text }

next_of : (ls : List (List ℕ)) (i : ℕ) (l : List ℕ) (values zs : List ℤ) (rest : List ℕ) (P : ℤ → List ℕ → Type 0) → slice_get ls i ≡ Some l → Tells (length l - 1) rest P → (r : Remains (drop i ls) values rest zs) → Next (drop (i + 1) ls) r.later P
next_of ls i l values zs rest P here told r =
    let first = drop_is ls i l here in
    read_next l (drop (i + 1) ls) r.later rest P (subst (λ ls. Suits ls r.later) first r.suits) (r.text ∙ ap (λ ls. drop 1 (led_numbers ls r.later)) first) told

pub read_step : (ls : List (List ℕ)) (i : ℕ) (l : List ℕ) (values next zs : List ℤ) (rest more : List ℕ) (number : ℤ) → slice_get ls i ≡ Some l → Tells (length l - 1) rest (λ z behind. (number ≡ z) × (more ≡ drop 1 behind)) → next ≡ values ++ to_z w64 (of_z w64 number) ∷ [] → Remains (drop i ls) values rest zs → Remains (drop (i + 1) ls) next more zs
read_step ls i l values next zs rest more number here told pushed r =
    let found = next_of ls i l values zs rest (λ z behind. (number ≡ z) × (more ≡ drop 1 behind)) here told r in
    record {
      later = found.zs;
      whole = r.whole ∙ ap (λ later. values ++ later) found.first ∙ ap (λ z. values ++ z ∷ found.zs) (sym (kept number found.z found.small found.told.0)) ∙ sym (append_assoc values (to_z w64 (of_z w64 number) ∷ []) found.zs) ∙ ap (λ vs. vs ++ found.zs) (sym pushed);
      suits = found.suits;
      text = found.told.1;
    }

pub read_none : (ls : List (List ℕ)) (i : ℕ) (l : List ℕ) (values zs : List ℤ) (rest : List ℕ) → slice_get ls i ≡ Some l → Tells (length l - 1) rest (λ z behind. ⊥) → Remains (drop i ls) values rest zs → ⊥
read_none ls i l values zs rest here told r = (next_of ls i l values zs rest (λ z behind. ⊥) here told r).told

nothing_left : (later : List ℤ) → Suits [] later → later ≡ []
nothing_left [] h = refl
nothing_left (z ∷ zs) h = absurd h

pub read_all : (ls : List (List ℕ)) (values zs : List ℤ) (rest : List ℕ) → ls ≡ [] → Remains ls values rest zs → zs ≡ values
read_all ls values zs rest none r =
    r.whole ∙ ap (λ later. values ++ later) (nothing_left r.later (subst (λ ls. Suits ls r.later) none r.suits)) ∙ append-nil values

-- ---- one text, one list of numbers

signed_same : (y z : ℤ) → IsSmall y → IsSmall z → signed_decimal y ≡ signed_decimal z → y ≡ z
signed_same (pos m) (pos n) small_y small_z e = signed_decimal_injective (pos m) (pos n) (omega (arith, small_y)) (omega (arith, small_z)) e
signed_same (pos m) (negsuc n) small_y small_z e = signed_decimal_injective (pos m) (negsuc n) (omega (arith, small_y)) (omega (arith, small_z)) e
signed_same (negsuc m) (pos n) small_y small_z e = signed_decimal_injective (negsuc m) (pos n) (omega (arith, small_y)) (omega (arith, small_z)) e
signed_same (negsuc m) (negsuc n) small_y small_z e = signed_decimal_injective (negsuc m) (negsuc n) (omega (arith, small_y)) (omega (arith, small_z)) e

first_same : (label : List ℕ) (y z : ℤ) (more others : List ℕ) → IsSmall y → IsSmall z → IsApart more → IsApart others → label ++ signed_decimal y ++ more ≡ label ++ signed_decimal z ++ others → (y ≡ z) × (drop 1 more ≡ drop 1 others)
first_same label y z more others small_y small_z apart apart' e =
    let text = label ++ signed_decimal y ++ more in
    let behind = drop (length label) text in
    let end = prefix_len is_entry_byte behind in
    let one = number_found y more behind end small_y apart (behind_label label (signed_decimal y) more text behind (length label) refl refl refl) refl in
    let two = number_found z others behind end small_z apart' (behind_label label (signed_decimal z) others text behind (length label) refl e refl) refl in
    (signed_same y z small_y small_z (sym one.0 ∙ two.0), sym one.1 ∙ two.1)

pub same_numbers : (ls : List (List ℕ)) (ys zs : List ℤ) → Suits ls ys → Suits ls zs → drop 1 (led_numbers ls ys) ≡ drop 1 (led_numbers ls zs) → ys ≡ zs
same_numbers [] [] [] h k e = refl
same_numbers [] (y ∷ ys) zs h k e = absurd h
same_numbers [] [] (z ∷ zs) h k e = absurd k
same_numbers (l ∷ ls) [] zs h k e = absurd h
same_numbers (l ∷ ls) (y ∷ ys) [] h k e = absurd k
same_numbers ([] ∷ ls) (y ∷ ys) (z ∷ zs) h k e = absurd h.0
same_numbers ((c ∷ label) ∷ ls) (y ∷ ys) (z ∷ zs) h k e =
    let first = first_same label y z (led_numbers ls ys) (led_numbers ls zs) h.1.0 k.1.0 (led_apart ls ys h.1.1) (led_apart ls zs k.1.1) e in
    ap (λ y. y ∷ ys) first.0 ∙ ap (λ zs. z ∷ zs) (same_numbers ls ys zs h.1.1 k.1.1 first.1)
