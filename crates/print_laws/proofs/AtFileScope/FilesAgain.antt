-- At file scope each name that stands for something in a text stands for the same in its printed text.
use Rattle.std.proofs.Common.{◌≡◌, ℕ, Bool, false, List, ◌++◌, map, Option, Some, None, refl, sym, ap, ◌∙◌, subst}
use Rattle.std.specs.Prelude.{IfSome, is_some, slice_get, option_map}
use Rattle.std.proofs.lemmas.Option.{same_Some}
use Rattle.c_tree.specs.declared.tree.Ty.{Ty}
use Rattle.c_tree.specs.declared.tree.Var.TheVariants.{Local, Global}
use Rattle.c_tree.specs.declared.program.Global.{Global as Outside}
use Rattle.c_tree.specs.declared.program.Func.{Func}
use Rattle.c_tree.specs.declared.program.Program.{Program}
use Rattle.c_tree.specs.Checking.Scopes.{Entity, Variable, Function, Known, latest}
use Rattle.print_laws.proofs.Again.Scoped.{plain, Sees}
use Rattle.print_laws.proofs.AtFileScope.DifferentNames.{IsNew, AreDifferent, same_place, apart_at, different_parts}
use Rattle.print_laws.proofs.AtFileScope.KnownNames.{AllKnown, known_names, none_new, latest_is, entity_is}

-- ---- what a name of a program stands for

-- the names of globals
abbrev pub global_names : List Outside → List (List ℕ)
global_names gs = map (λ (g : Outside). g.name) gs

-- the names of functions
abbrev pub func_names : List Func → List (List ℕ)
func_names fs = map (λ (f : Func). f.name) fs

-- the names of a program: those of its globals, then those of its functions
abbrev pub program_names : Program → List (List ℕ)
program_names p = global_names p.globals ++ func_names p.funcs

-- the global n has this name, and is an array or not
pub record IsGlobalOf (p : Program) (name : List ℕ) (n : ℕ) (array : Bool) : Type 0 where
  pub global : Outside
  pub there : slice_get p.globals n ≡ Some global
  pub named : global.name ≡ name
  pub shaped : is_some global.length ≡ array

-- the function n has this name, this number of parameters and this result
pub record IsFunctionOf (p : Program) (name : List ℕ) (n params : ℕ) (result : Option Ty) : Type 0 where
  pub func : Func
  pub there : slice_get p.funcs n ≡ Some func
  pub named : func.name ≡ name
  pub params_are : func.params ≡ params
  pub result_is : func.result ≡ result

-- a name stands for a global or a function of the program that has it
abbrev pub IsOf : Program → List ℕ → Entity → Type 0
IsOf p name (Variable (Local n) array constant) = ⊥
IsOf p name (Variable (Global n) array constant) = IsGlobalOf p name n array
IsOf p name (Function n params result) = IsFunctionOf p name n params result

-- a known name stands for what has it
abbrev pub IsKnownOf : Program → Known → Type 0
IsKnownOf p k = IsOf p k.name k.entity

-- ---- one entity for each name

same_globals : (p : Program) (name : List ℕ) (m n : ℕ) (a b : Bool) → AreDifferent (program_names p) → IsGlobalOf p name m a → IsGlobalOf p name n b → Variable (Global m) a false ≡ Variable (Global n) b false
same_globals p name m n a b h g k =
    let parts = different_parts (global_names p.globals) (func_names p.funcs) h in
    let place = same_place (λ (o : Outside). o.name) p.globals m n g.global k.global parts.0 g.there k.there (g.named ∙ sym k.named) in
    let same : g.global ≡ k.global = same_Some _ _ (sym g.there ∙ ap (slice_get p.globals) place ∙ k.there) in
    let shaped : a ≡ b = sym g.shaped ∙ ap (λ (o : Outside). is_some o.length) same ∙ k.shaped in
    (λ i. Variable (Global (place i)) (shaped i) false)

same_functions : (p : Program) (name : List ℕ) (m n c d : ℕ) (r t : Option Ty) → AreDifferent (program_names p) → IsFunctionOf p name m c r → IsFunctionOf p name n d t → Function m c r ≡ Function n d t
same_functions p name m n c d r t h g k =
    let parts = different_parts (global_names p.globals) (func_names p.funcs) h in
    let place = same_place (λ (f : Func). f.name) p.funcs m n g.func k.func parts.1 g.there k.there (g.named ∙ sym k.named) in
    let same : g.func ≡ k.func = same_Some _ _ (sym g.there ∙ ap (slice_get p.funcs) place ∙ k.there) in
    let params : c ≡ d = sym g.params_are ∙ ap (λ (f : Func). f.params) same ∙ k.params_are in
    let result : r ≡ t = sym g.result_is ∙ ap (λ (f : Func). f.result) same ∙ k.result_is in
    (λ i. Function (place i) (params i) (result i))

not_both : (p : Program) (name : List ℕ) (m n c : ℕ) (a : Bool) (r : Option Ty) → AreDifferent (program_names p) → IsGlobalOf p name m a → IsFunctionOf p name n c r → ⊥
not_both p name m n c a r h g k =
    apart_at (λ (o : Outside). o.name) (λ (f : Func). f.name) p.globals p.funcs m n g.global k.func h g.there k.there (g.named ∙ sym k.named)

-- where the names of a program are different, a name stands for one thing
one_entity : (p : Program) (name : List ℕ) (d e : Entity) → AreDifferent (program_names p) → IsOf p name d → IsOf p name e → plain d ≡ plain e
one_entity p name (Variable (Local m) a c) e h g k = absurd g
one_entity p name (Variable (Global m) a c) (Variable (Local n) b k) h g j = absurd j
one_entity p name (Variable (Global m) a c) (Variable (Global n) b k) h g j = same_globals p name m n a b h g j
one_entity p name (Variable (Global m) a c) (Function n k r) h g j = absurd (not_both p name m n k a r h g j)
one_entity p name (Function m c r) (Variable (Local n) b k) h g j = absurd j
one_entity p name (Function m c r) (Variable (Global n) b k) h g j = absurd (not_both p name n m c b r h j g)
one_entity p name (Function m c r) (Function n d t) h g j = same_functions p name m n c d r t h g j

-- ---- seen again

-- not `const`
abbrev pub IsPlain : Known → Type 0
IsPlain k = plain k.entity ≡ k.entity

-- each name of a program is there
abbrev pub HasNames : Program → List Known → Type 0
HasNames p ks = (name : List ℕ) (e : Entity) → IsOf p name e → IsNew name (known_names ks) → ⊥

-- a known name of the printed text, where the text has it
seen : (p : Program) (name : List ℕ) (e : Entity) (o : Option Known) → AreDifferent (program_names p) → IsOf p name e → (o ≡ None → ⊥) → IfSome o (λ k. (IsKnownOf p k × IsPlain k) × (k.name ≡ name)) → option_map (λ (k : Known). k.entity) o ≡ Some (plain e)
seen p name e None h is some all = absurd (some refl)
seen p name e (Some k) h is some all =
    let here = subst (λ n. IsOf p n k.entity) all.1 all.0.0 in
    ap Some (sym all.0.1 ∙ one_entity p name k.entity e h here is)

pub sees_again : (p : Program) (ks ls : List Known) → AreDifferent (program_names p) → AllKnown (IsKnownOf p) ks → AllKnown (λ k. IsKnownOf p k × IsPlain k) ls → HasNames p ls → Sees ks ls
sees_again p ks ls h all again has name e found =
    let known = entity_is (IsKnownOf p) ks name e all found in
    let k : Known = known.0 in
    let is : IsOf p name e = subst (λ n. IsOf p n e) known.1.0.1 (subst (IsOf p k.name) known.1.1 known.1.0.0) in
    seen p name e (latest ls name) h is (λ none. has name e is (none_new ls name none)) (latest_is (λ k. IsKnownOf p k × IsPlain k) ls name again)
