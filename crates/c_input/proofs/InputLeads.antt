-- A lead stands before each number of a fitting input.
use Rattle.std.proofs.Common.{ℕ, zero, suc, Bool, true, false, if◌then◌else◌, List, [], ◌∷◌, ◌++◌, replicate, codes, Option, Some, None, IsTrue, ◌^◌, unwrap_or, ℤ, pos, negsuc, slice_get, refl, arith, inl, inr}
use Rattle.std.proofs.lemmas.Bool.{ltb-true}
use Rattle.c_tree.specs.declared.tree.Ty.{Ty}
use Rattle.c_tree.specs.declared.tree.Ty.TheVariants as ty
use Rattle.c_tree.specs.declared.program.Global.{Global}
use Rattle.c_tree.specs.declared.program.Local.{Local}
use Rattle.c_tree.specs.declared.program.Func.{Func}
use Rattle.c_tree.specs.declared.program.Program.{Program}
use Rattle.c_tree.specs.declared.program.Input.{Input}
use Rattle.c_tree.specs.Meaning.Values.{is_of}
use Rattle.c_tree.specs.Meaning.Runs.{fits, are_of, types_of, param_types, outer_types, entry_types, input_types}
use Rattle.c_input.specs.InputTexts.{own_leads, param_leads, entry_leads, outer_leads, input_leads}
use Rattle.c_input.specs.Reading.{IsLead, IsSmall, Suits}
use Rattle.plain_laws.proofs.Booleans.{both_hold}

-- ---- a lead for each type

abbrev Each : List (List ℕ) → List Ty → Type 0
Each [] [] = Unit {0}
Each [] (t ∷ ts) = ⊥
Each (l ∷ ls) [] = ⊥
Each (l ∷ ls) (t ∷ ts) = IsLead l × Each ls ts

append_each : (ls ks : List (List ℕ)) (ts us : List Ty) → Each ls ts → Each ks us → Each (ls ++ ks) (ts ++ us)
append_each [] ks [] us h k = k
append_each [] ks (t ∷ ts) us h k = absurd h
append_each (l ∷ ls) ks [] us h k = absurd h
append_each (l ∷ ls) ks (t ∷ ts) us h k = (h.0, append_each ls ks ts us h.1 k)

commas_each : (n : ℕ) (t : Ty) → Each (replicate n (codes ",")) (replicate n t)
commas_each zero t = tt
commas_each (suc n) t = (inr refl, commas_each n t)

own_each : (name : List ℕ) (n : ℕ) (t : Ty) → Each (own_leads name n) (replicate n t)
own_each name zero t = tt
own_each name (suc n) t = (inl refl, commas_each n t)

types_each : (name : List ℕ) (t : Ty) (n : Option ℕ) → Each (own_leads name (unwrap_or n 1)) (types_of t n)
types_each name t None = (inl refl, tt)
types_each name t (Some n) = own_each name n t

params_each : (n : ℕ) (ls : List Local) → Each (param_leads n ls) (param_types n ls)
params_each zero ls = tt
params_each (suc n) [] = tt
params_each (suc n) (l ∷ ls) = (inl refl, params_each n ls)

entry_each : (f : Option Func) → Each (entry_leads f) (entry_types f)
entry_each None = tt
entry_each (Some f) = params_each f.params f.locals

next_each : (b : Bool) (ls ks : List (List ℕ)) (ts us : List Ty) → Each ls ts → Each ks us → Each (if b then ls ++ ks else ks) (if b then ts ++ us else us)
next_each true ls ks ts us h k = append_each ls ks ts us h k
next_each false ls ks ts us h k = k

outers_each : (gs : List Global) → Each (outer_leads gs) (outer_types gs)
outers_each [] = tt
outers_each (g ∷ gs) =
    let own = own_leads g.name (unwrap_or g.length 1) in
    next_each g.outer own (outer_leads gs) (types_of g.ty g.length) (outer_types gs) (types_each g.name g.ty g.length) (outers_each gs)

-- ---- and a number behind each

small_of : (t : Ty) (z : ℤ) → IsTrue (is_of t z) → IsSmall z
small_of ty.Int (pos n) h = omega (arith, ltb-true n (2 ^ 31) h)
small_of ty.Int (negsuc n) h = omega (arith, ltb-true n (2 ^ 31) h)
small_of ty.Unsigned (pos n) h = omega (arith, ltb-true n (2 ^ 32) h)
small_of ty.Unsigned (negsuc n) h = absurd cc

suits : (ls : List (List ℕ)) (ts : List Ty) (zs : List ℤ) → Each ls ts → IsTrue (are_of ts zs) → Suits ls zs
suits [] [] [] h k = tt
suits [] [] (z ∷ zs) h k = absurd cc
suits [] (t ∷ ts) zs h k = absurd h
suits (l ∷ ls) [] zs h k = absurd h
suits (l ∷ ls) (t ∷ ts) [] h k = absurd cc
suits (l ∷ ls) (t ∷ ts) (z ∷ zs) h k =
    let ks = both_hold (is_of t z) (are_of ts zs) k in
    (h.0, (small_of t z ks.0, suits ls ts zs h.1 ks.1))

pub fitting_suits : (p : Program) (i : Input) → IsTrue (fits p i) → Suits (input_leads p) i.values
fitting_suits p i fit =
    suits (input_leads p) (input_types p) i.values (append_each (entry_leads (slice_get p.funcs p.entry)) (outer_leads p.globals) (entry_types (slice_get p.funcs p.entry)) (outer_types p.globals) (entry_each (slice_get p.funcs p.entry)) (outers_each p.globals)) fit
