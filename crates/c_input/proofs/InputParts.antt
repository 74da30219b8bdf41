-- The numbers of a fitting input, part by part.
use Rattle.std.proofs.Common.{◌≡◌, ◌≤◌, ◌<◌, ℕ, zero, suc, ◌+◌, ◌-◌, append_assoc, length-append, Bool, true, false, if◌then◌else◌, List, [], ◌∷◌, ◌++◌, take, drop, length, replicate, Option, Some, None, refl, sym, ap, ◌∙◌, subst, arith}
use Rattle.std.specs.Prelude.{IsTrue, ◌&&◌, slice_get, unwrap_or, ℤ}
use Rattle.c_tree.specs.declared.tree.Ty.{Ty}
use Rattle.c_tree.specs.declared.program.Global.{Global}
use Rattle.c_tree.specs.declared.program.Local.{Local}
use Rattle.c_tree.specs.declared.value.Value.{Value}
use Rattle.c_tree.specs.declared.value.Slot.{Slot}
use Rattle.c_tree.specs.Meaning.Values.{is_of, of_int}
use Rattle.c_tree.specs.Meaning.Runs.{are_of, types_of, outer_types, param_types, arguments, global_slot, global_slots}
use Rattle.c_tree.specs.Keeping.WellFormed.{AreNumbersOf}
use Rattle.c_input.specs.Starts.{NumberAt, input_width, Takes, own_width, own_slot, rest_of, own_types}
use Rattle.plain_laws.proofs.Booleans.{both_hold}
use Rattle.std.proofs.lemmas.Option.{same_Some}

-- of the types that come first
pub number_at : (ts us : List Ty) (zs : List ℤ) (k : ℕ) → IsTrue (are_of (ts ++ us) zs) → NumberAt (slice_get ts k) (slice_get zs k)
number_at [] us zs k h = tt
number_at (t ∷ ts) us [] k h = absurd cc
number_at (t ∷ ts) us (z ∷ zs) zero h = (both_hold (is_of t z) (are_of (ts ++ us) zs) h).0
number_at (t ∷ ts) us (z ∷ zs) (suc k) h = number_at ts us zs k (both_hold (is_of t z) (are_of (ts ++ us) zs) h).1

pub rest_fits : (ts us : List Ty) (zs : List ℤ) → IsTrue (are_of (ts ++ us) zs) → (length ts ≤ length zs) × IsTrue (are_of us (drop (length ts) zs))
rest_fits [] us zs h = (omega arith, h)
rest_fits (t ∷ ts) us [] h = absurd cc
rest_fits (t ∷ ts) us (z ∷ zs) h =
    let more = rest_fits ts us zs (both_hold (is_of t z) (are_of (ts ++ us) zs) h).1 in
    (omega (arith, more.0), more.1)

takes_numbers : (n : ℕ) (t : Ty) (us : List Ty) (zs : List ℤ) → IsTrue (are_of (replicate n t ++ us) zs) → (n ≤ length zs) × (AreNumbersOf t (take n zs) × IsTrue (are_of us (drop n zs)))
takes_numbers zero t us zs h = (omega arith, (tt, h))
takes_numbers (suc n) t us [] h = absurd cc
takes_numbers (suc n) t us (z ∷ zs) h =
    let hs = both_hold (is_of t z) (are_of (replicate n t ++ us) zs) h in
    let more = takes_numbers n t us zs hs.1 in
    (omega (arith, more.0), ((hs.0, more.1.0), more.1.1))

of_width : (t : Ty) (n : Option ℕ) (us : List Ty) → types_of t n ++ us ≡ replicate (unwrap_or n 1) t ++ us
of_width t None us = refl
of_width t (Some n) us = refl

width_is : (t : Ty) (n : Option ℕ) → length (types_of t n) ≡ unwrap_or n 1
width_is t None = refl
width_is t (Some n) = long n
  where
    long : (n : ℕ) → length (replicate n t) ≡ n
    long zero = refl
    long (suc n) = ap suc (long n)

-- the first global, and those behind it
next_types : (b : Bool) (ts us : List Ty) → (if b then ts ++ us else us) ≡ (if b then ts else []) ++ us
next_types true ts us = refl
next_types false ts us = refl

pub first_takes : (g : Global) (gs : List Global) (zs : List ℤ) → IsTrue (are_of (outer_types (g ∷ gs)) zs) → IsTrue g.outer → Takes g zs
first_takes g gs zs h outer =
    let us = outer_types gs in
    let all = ap (λ b. if b then types_of g.ty g.length ++ us else us) outer ∙ of_width g.ty g.length us in
    let parts = takes_numbers (input_width g) g.ty us zs (subst (λ ts. IsTrue (are_of ts zs)) all h) in
    record { enough = parts.0; numbers = parts.1.0 }

pub rest_takes : (g : Global) (gs : List Global) (zs : List ℤ) → IsTrue (are_of (outer_types (g ∷ gs)) zs) → IsTrue (are_of (outer_types gs) (drop (own_width g) zs))
rest_takes g gs zs h = by_outer g.outer h
  where
    us : List Ty
    us = outer_types gs

    by_outer : (b : Bool) → IsTrue (are_of (if b then types_of g.ty g.length ++ us else us) zs) → IsTrue (are_of us (drop (if b then input_width g else 0) zs))
    by_outer true h = (takes_numbers (input_width g) g.ty us zs (subst (λ ts. IsTrue (are_of ts zs)) (of_width g.ty g.length us) h)).1.1
    by_outer false h = h

pub first_slot : (g : Global) (gs : List Global) (zs : List ℤ) → global_slots (g ∷ gs) zs ≡ own_slot g zs ∷ global_slots gs (drop (own_width g) zs)
first_slot g gs zs =
    ap (λ w. if g.outer then global_slot g.ty g.length (take w zs) ∷ global_slots gs (drop w zs) else global_slot g.ty g.length g.values ∷ global_slots gs zs) (width_is g.ty g.length) ∙ by_outer g.outer
  where
    by_outer : (b : Bool) → (if b then global_slot g.ty g.length (take (input_width g) zs) ∷ global_slots gs (drop (input_width g) zs) else global_slot g.ty g.length g.values ∷ global_slots gs zs) ≡ global_slot g.ty g.length (if b then take (input_width g) zs else g.values) ∷ global_slots gs (drop (if b then input_width g else 0) zs)
    by_outer true = refl
    by_outer false = refl

-- ---- lists

drop_suc : {X : Type 0} → (xs : List X) (i : ℕ) (x : X) → slice_get xs i ≡ Some x → drop i xs ≡ x ∷ drop (suc i) xs
drop_suc [] i x e = absurd cc
drop_suc (y ∷ ys) zero x e = ap (λ y. y ∷ ys) (same_Some y x e)
drop_suc (y ∷ ys) (suc i) x e = drop_suc ys i x e

pub drop_is : {X : Type 0} → (xs : List X) (i : ℕ) (x : X) → slice_get xs i ≡ Some x → drop i xs ≡ x ∷ drop (i + 1) xs
drop_is xs i x e = let same : suc i ≡ i + 1 = omega arith in drop_suc xs i x e ∙ ap (λ k. x ∷ drop k xs) same

pub drop_none : {X : Type 0} → (xs : List X) (i : ℕ) → slice_get xs i ≡ None → drop i xs ≡ []
drop_none [] zero e = refl
drop_none [] (suc i) e = refl
drop_none (y ∷ ys) zero e = absurd cc
drop_none (y ∷ ys) (suc i) e = drop_none ys i e

pub arguments_none : (ts : List Ty) → arguments ts [] ≡ []
arguments_none [] = refl
arguments_none (t ∷ ts) = refl

pub params_none : (k : ℕ) → param_types k [] ≡ []
params_none zero = refl
params_none (suc k) = refl

pub params_step : (n : ℕ) (types : List Ty) (l : Local) (ls : List Local) → length types < n → types ++ param_types (n - length types) (l ∷ ls) ≡ (types ++ l.ty ∷ []) ++ param_types (n - length (types ++ l.ty ∷ [])) ls
params_step n types l ls lt =
    let m = n - length (types ++ l.ty ∷ []) in
    let e : n - length types ≡ suc m = omega (arith, lt, length-append types (l.ty ∷ [])) in
    ap (λ k. types ++ param_types k (l ∷ ls)) e ∙ sym (append_assoc types (l.ty ∷ []) (param_types m ls))

pub numbers_at : (t : Ty) (zs : List ℤ) → AreNumbersOf t zs → (k : ℕ) → NumberAt (Some t) (slice_get zs k)
numbers_at t [] h k = tt
numbers_at t (z ∷ zs) h zero = h.0
numbers_at t (z ∷ zs) h (suc k) = numbers_at t zs h.1 k

pub slots_step : (g : Global) (gs : List Global) (zs rest : List ℤ) (slot : Slot) (slots more whole : List Slot) → slot ≡ own_slot g zs → rest ≡ drop (own_width g) zs → more ≡ slots ++ slot ∷ [] → slots ++ global_slots (g ∷ gs) zs ≡ whole → more ++ global_slots gs rest ≡ whole
slots_step g gs zs rest slot slots more whole is behind pushed so_far =
    ap (λ more. more ++ global_slots gs rest) pushed ∙ append_assoc slots (slot ∷ []) (global_slots gs rest) ∙ ap (λ s. slots ++ s ∷ global_slots gs rest) is ∙ ap (λ zs'. slots ++ own_slot g zs ∷ global_slots gs zs') behind ∙ ap (λ ss. slots ++ ss) (sym (first_slot g gs zs)) ∙ so_far

pub args_step : (ts : List Ty) (zs : List ℤ) (i : ℕ) (t : Ty) (z : ℤ) (v : Value) (list more whole : List Value) → slice_get ts i ≡ Some t → slice_get zs i ≡ Some z → v ≡ of_int t z → more ≡ list ++ v ∷ [] → list ++ arguments (drop i ts) (drop i zs) ≡ whole → more ++ arguments (drop (i + 1) ts) (drop (i + 1) zs) ≡ whole
args_step ts zs i t z v list more whole at_ts at_zs is pushed so_far =
    let rest = arguments (drop (i + 1) ts) (drop (i + 1) zs) in
    ap (λ more. more ++ rest) pushed ∙ append_assoc list (v ∷ []) rest ∙ ap (λ v. list ++ v ∷ rest) is ∙ ap (λ ts'. list ++ arguments ts' (z ∷ drop (i + 1) zs)) (sym (drop_is ts i t at_ts)) ∙ ap (λ zs'. list ++ arguments (drop i ts) zs') (sym (drop_is zs i z at_zs)) ∙ so_far

-- ---- inputs that fit, a part at a time

abbrev from_rest : List Ty → Option (List ℤ) → Bool
from_rest us None = false
from_rest us (Some zs) = are_of us zs

first_of : (b : Bool) (p q : Bool) → p ≡ q → (b && p) ≡ (if b then q else false)
first_of true p q e = e
first_of false p q e = refl

from_if : (b : Bool) (us : List Ty) (o : Option (List ℤ)) → (if b then from_rest us o else false) ≡ from_rest us (if b then o else None)
from_if true us o = refl
from_if false us o = refl

-- numbers fit types where the first ones fit the first types, and the rest the others
are_of_append : (ts us : List Ty) (zs : List ℤ) → are_of (ts ++ us) zs ≡ from_rest us (rest_of ts zs)
are_of_append [] us zs = refl
are_of_append (t ∷ ts) us [] = refl
are_of_append (t ∷ ts) us (z ∷ zs) =
    first_of (is_of t z) (are_of (ts ++ us) zs) (from_rest us (rest_of ts zs)) (are_of_append ts us zs) ∙ from_if (is_of t z) us (rest_of ts zs)

some_next : (b : Bool) (ts : List Ty) (zs more : List ℤ) → Some more ≡ (if b then Some zs else None) → (if b then rest_of ts zs else None) ≡ rest_of ts more
some_next true ts zs more e = ap (rest_of ts) (sym (same_Some more zs e))
some_next false ts zs more e = absurd cc

pub next_some : (t : Ty) (ts : List Ty) (zs more : List ℤ) → Some more ≡ rest_of (t ∷ []) zs → rest_of (t ∷ ts) zs ≡ rest_of ts more
next_some t ts [] more e = absurd cc
next_some t ts (z ∷ zs) more e = some_next (is_of t z) ts zs more e

none_next : (b : Bool) (ts : List Ty) (zs : List ℤ) → None ≡ (if b then Some zs else None) → (if b then rest_of ts zs else None) ≡ None
none_next true ts zs e = absurd cc
none_next false ts zs e = refl

pub next_none : (t : Ty) (ts : List Ty) (zs : List ℤ) → None ≡ rest_of (t ∷ []) zs → rest_of (t ∷ ts) zs ≡ None
next_none t ts [] e = refl
next_none t ts (z ∷ zs) e = none_next (is_of t z) ts zs e

global_parts : (g : Global) (gs : List Global) (zs : List ℤ) → are_of (outer_types (g ∷ gs)) zs ≡ from_rest (outer_types gs) (rest_of (own_types g) zs)
global_parts g gs zs =
    ap (λ ts. are_of ts zs) (next_types g.outer (types_of g.ty g.length) (outer_types gs)) ∙ are_of_append (own_types g) (outer_types gs) zs

pub global_some : (g : Global) (gs : List Global) (zs more : List ℤ) → Some more ≡ rest_of (own_types g) zs → are_of (outer_types (g ∷ gs)) zs ≡ are_of (outer_types gs) more
global_some g gs zs more e = global_parts g gs zs ∙ ap (from_rest (outer_types gs)) (sym e)

pub global_none : (g : Global) (gs : List Global) (zs : List ℤ) → None ≡ rest_of (own_types g) zs → are_of (outer_types (g ∷ gs)) zs ≡ false
global_none g gs zs e = global_parts g gs zs ∙ ap (from_rest (outer_types gs)) (sym e)

pub entry_some : (ts us : List Ty) (zs more : List ℤ) → Some more ≡ rest_of ts zs → are_of us more ≡ are_of (ts ++ us) zs
entry_some ts us zs more e = ap (from_rest us) e ∙ sym (are_of_append ts us zs)

pub entry_none : (ts us : List Ty) (zs : List ℤ) → None ≡ rest_of ts zs → false ≡ are_of (ts ++ us) zs
entry_none ts us zs e = ap (from_rest us) e ∙ sym (are_of_append ts us zs)
