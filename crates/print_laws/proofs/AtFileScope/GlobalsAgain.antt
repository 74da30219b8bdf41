-- The globals of a printed text are those of the program, and no fault stands in their declarations.
use Rattle.std.proofs.Common.{◌≡◌, ◌≤◌, ℕ, Bool, true, false, not, ◌&&◌, ◌||◌, List, [], ◌∷◌, ◌++◌, length, Option, Some, None, ℤ, refl, sym, ap, ◌∙◌, subst, arith, le-leb, le-ltb}
use Rattle.std.specs.Prelude.{is_some, nat_lt, unwrap_or, option_map}
use Rattle.std.specs.Option.{option_map_or}
use Rattle.c_tree.specs.declared.tree.Ty.{Ty}
use Rattle.c_tree.specs.declared.tree.Ty.TheVariants as ty
use Rattle.c_tree.specs.declared.program.Global.{Global as Outside}
use Rattle.c_tree.specs.declared.unit.Spot.{Spot}
use Rattle.c_tree.specs.declared.unit.RawExpr.{RawExpr}
use Rattle.c_tree.specs.declared.unit.RawExpr.TheVariants as e
use Rattle.c_tree.specs.declared.unit.RawShape.{RawShape}
use Rattle.c_tree.specs.declared.unit.RawShape.TheVariants as shape
use Rattle.c_tree.specs.declared.unit.RawTop.{RawTop}
use Rattle.c_tree.specs.declared.unit.RawTop.TheVariants as top
use Rattle.c_tree.specs.Checking.Scopes.{Known, is_known_at}
use Rattle.c_tree.specs.Checking.Constants.{declared_length, shape_length}
use Rattle.c_tree.specs.Checking.Naming.{File, with_global, behind_top, funcs_of, globals_of, shape_values}
use Rattle.c_tree.specs.Checking.Uses.{Use, Declared, Sized, sized_use, declared_at, constant_uses, constants_uses, length_uses, global_uses, outer_uses, top_uses}
use Rattle.c_tree.specs.Checking.Refusals.{ArrayLength, where_true, faults_of}
use Rattle.c_tree.specs.Keeping.WellFormed.{IsLength, AreNumbersOf, WellFormedGlobal}
use Rattle.print_laws.specs.Shown.{ShowsLength, ShowsValue, ShowValues, ShowsInitial, ShowsDeclaration, ShowsGlobal}
use Rattle.print_laws.proofs.Again.FaultlessUses.{AreFaultless, faultless_both, faultless_more}
use Rattle.print_laws.proofs.Again.LiteralLengths.{literal_length, literal_faultless}
use Rattle.print_laws.proofs.Again.ShownConstants.{shown_kept, shown_numbers, shown_count, shown_faultless, numbers_faultless}

-- ---- parts of a declaration

-- a length as it is printed
abbrev literal : ℕ → ℕ → RawExpr
literal at m = e.Num at ty.Int m

-- a name that is not known again
new_faultless : (ks : List Known) (x : Spot) → is_known_at ks 1 x.name ≡ false → faults_of (declared_at ks 1 x) ≡ []
new_faultless ks x new = ap (λ b. faults_of (Declared x.at b)) new

-- a list is no longer than its array
abbrev FitsList : Option ℕ → ℕ → Type 0
FitsList None m = Unit {0}
FitsList (Some n) m = n ≤ m

fits_test : (list : Option ℕ) (m : ℕ) → FitsList list m → option_map_or (nat_lt m) list false ≡ false
fits_test None m h = refl
fits_test (Some n) m h = le-ltb m n h

length_faultless : (at m : ℕ) (list : Option ℕ) → (1 ≤ m) × (m ≤ 64) → FitsList list m → faults_of (Sized at m list false) ≡ []
length_faultless at m list h fits =
    (λ i. where_true (not (le-leb 1 m h.0 i && le-leb m 64 h.1 i) || fits_test list m fits i) ArrayLength at ++ [])

sized_faultless : (x : Spot) (at m : ℕ) (es : Option (List RawExpr)) → (1 ≤ m) × (m ≤ 64) → FitsList (option_map length es) m → faults_of (sized_use x (Some (literal at m)) es false) ≡ []
sized_faultless x at m es h fits =
    ap (λ n. faults_of (Sized x.at n (option_map length es) false)) (literal_length at m es h.1) ∙ length_faultless x.at m (option_map length es) h fits

-- ---- an extern variable

length_again : (a : Option RawExpr) (n : Option ℕ) → ShowsLength a n → IsLength n → option_map (λ l. declared_length (Some l) None) a ≡ n
length_again a None is h = ap (option_map (λ l. declared_length (Some l) None)) is
length_again a (Some m) (at, is) h =
    ap (option_map (λ l. declared_length (Some l) None)) is ∙ ap Some (literal_length at m None h.1)

is_array_again : (a : Option RawExpr) (n : Option ℕ) → ShowsLength a n → is_some a ≡ is_some n
is_array_again a None is = ap is_some is
is_array_again a (Some m) (at, is) = ap is_some is

outer_faultless : (f : File) (x : Spot) (a : Option RawExpr) (n : Option ℕ) → ShowsLength a n → IsLength n → is_known_at f.known 1 x.name ≡ false → AreFaultless (outer_uses f x a)
outer_faultless f x a None is h new =
    subst (λ b. AreFaultless (outer_uses f x b)) (sym is) (faultless_more (declared_at f.known 1 x) [] (new_faultless f.known x new) refl)
outer_faultless f x a (Some m) (at, is) h new =
    let n = literal at m in
    let last : AreFaultless (sized_use x (Some n) None false ∷ []) = faultless_more (sized_use x (Some n) None false) [] (sized_faultless x at m None h tt) refl in
    let more = faultless_more (declared_at f.known 1 x) (sized_use x (Some n) None false ∷ []) (new_faultless f.known x new) last in
    subst (λ b. AreFaultless (outer_uses f x b)) (sym is) (faultless_both (constant_uses f.known n) _ (literal_faultless f.known at m) more)

-- ---- a variable of the text

-- the length and the values are those of the program
record IsInitialAgain (t : Ty) (sh : RawShape) (n : Option ℕ) (zs : List ℤ) : Type 0 where
  sized : shape_length sh ≡ n
  kept : shape_values t sh ≡ zs
  faultless : (f : File) (x : Spot) → is_known_at f.known 1 x.name ≡ false → AreFaultless (global_uses f false x sh)

plain_again : (t : Ty) → IsInitialAgain t (shape.Scalar None) None []
plain_again t = record {
  sized = refl;
  kept = refl;
  faultless = λ f x new. faultless_more (declared_at f.known 1 x) [] (new_faultless f.known x new) refl;
}

scalar_again : (t : Ty) (a : RawExpr) (z : ℤ) → ShowsValue t a z → AreNumbersOf t (z ∷ []) → IsInitialAgain t (shape.Scalar (Some a)) None (z ∷ [])
scalar_again t a z shown numbers = record {
  sized = refl;
  kept = ap (λ y. y ∷ []) (shown_kept t a z shown numbers.0);
  faultless = λ f x new. let ks = (with_global f false x.name false).known in
      faultless_more (declared_at f.known 1 x) (constant_uses ks a) (new_faultless f.known x new) (shown_faultless ks t a z shown numbers.0);
}

bare_again : (t : Ty) (at m : ℕ) → (1 ≤ m) × (m ≤ 64) → IsInitialAgain t (shape.Array (Some (literal at m)) None) (Some m) []
bare_again t at m h = record {
  sized = ap Some (literal_length at m None h.1);
  kept = refl;
  faultless = λ f x new. let n = literal at m in
      let last : AreFaultless (sized_use x (Some n) None false ∷ []) = faultless_more (sized_use x (Some n) None false) [] (sized_faultless x at m None h tt) refl in
      faultless_both (length_uses f.known (Some n)) (declared_at f.known 1 x ∷ (sized_use x (Some n) None false ∷ [])) (literal_faultless f.known at m) (faultless_more (declared_at f.known 1 x) (sized_use x (Some n) None false ∷ []) (new_faultless f.known x new) last);
}

list_again : (t : Ty) (at m : ℕ) (es : List RawExpr) (zs : List ℤ) → (1 ≤ m) × (m ≤ 64) → length zs ≤ m → ShowValues t es zs → AreNumbersOf t zs → IsInitialAgain t (shape.Array (Some (literal at m)) (Some es)) (Some m) zs
list_again t at m es zs h short shown numbers = record {
  sized = ap Some (literal_length at m (Some es) h.1);
  kept = shown_numbers t es zs shown numbers;
  faultless = λ f x new. let n = literal at m in
      let ks = (with_global f false x.name true).known in
      let us : List Use = sized_use x (Some n) (Some es) false ∷ constants_uses ks es in
      let fits : length es ≤ m = omega (arith, shown_count t es zs shown, short) in
      let last : AreFaultless us = faultless_more (sized_use x (Some n) (Some es) false) (constants_uses ks es) (sized_faultless x at m (Some es) h fits) (numbers_faultless ks t es zs shown numbers) in
      faultless_both (length_uses f.known (Some n)) (declared_at f.known 1 x ∷ us) (literal_faultless f.known at m) (faultless_more (declared_at f.known 1 x) us (new_faultless f.known x new) last);
}

initial_again : (t : Ty) (sh : RawShape) (n : Option ℕ) (zs : List ℤ) → ShowsInitial t sh n zs → IsLength n → AreNumbersOf t zs → length zs ≤ unwrap_or n 1 → IsInitialAgain t sh n zs
initial_again t sh None [] is h numbers short = subst (λ s. IsInitialAgain t s None []) (sym is) (plain_again t)
initial_again t sh None (z ∷ zs) (a, is, none, shown) h numbers short =
    let sole : AreNumbersOf t (z ∷ []) = (numbers.0, tt) in
    subst (λ s. IsInitialAgain t s None (z ∷ zs)) (sym is) (subst (λ ys. IsInitialAgain t (shape.Scalar (Some a)) None (z ∷ ys)) (sym none) (scalar_again t a z shown sole))
initial_again t sh (Some m) [] (at, is) h numbers short = subst (λ s. IsInitialAgain t s (Some m) []) (sym is) (bare_again t at m h)
initial_again t sh (Some m) (z ∷ zs) (at, es, is, shown) h numbers short =
    subst (λ s. IsInitialAgain t s (Some m) (z ∷ zs)) (sym is) (list_again t at m es (z ∷ zs) h short shown numbers)

-- ---- a global

-- a declaration makes this global, without faults where its name is new
pub record IsGlobalAgain (f : File) (r : RawTop) (g : Outside) : Type 0 where
  pub behind : behind_top f r ≡ with_global f false g.name (is_some g.length)
  pub made : (ts : List RawTop) → globals_of (r ∷ ts) ≡ g ∷ globals_of ts
  pub no_func : (ts : List RawTop) → funcs_of f (r ∷ ts) ≡ funcs_of (behind_top f r) ts
  pub faultless : AreFaultless (top_uses f r)

outer_again : (f : File) (g : Outside) (y : Spot) (a : Option RawExpr) → g.outer ≡ true → y.name ≡ g.name → ShowsLength a g.length → g.values ≡ [] → WellFormedGlobal g → is_known_at f.known 1 g.name ≡ false → IsGlobalAgain f (top.Outer false g.ty y a) g
outer_again f g y a outer named shown none formed new = record {
  behind = λ i. with_global f false (named i) (is_array_again a g.length shown i);
  made = λ ts i. record { name = named i; ty = g.ty; length = length_again a g.length shown formed.array i; outer = sym outer i; values = sym none i } ∷ globals_of ts;
  no_func = λ ts. refl;
  faultless = outer_faultless f y a g.length shown formed.array (ap (is_known_at f.known 1) named ∙ new);
}

inner_again : (f : File) (g : Outside) (y : Spot) (sh : RawShape) → g.outer ≡ false → y.name ≡ g.name → ShowsInitial g.ty sh g.length g.values → WellFormedGlobal g → is_known_at f.known 1 g.name ≡ false → IsGlobalAgain f (top.Global false false g.ty y sh) g
inner_again f g y sh outer named shown formed new =
    let again = initial_again g.ty sh g.length g.values shown formed.array formed.numbers formed.count in
    record {
      behind = λ i. with_global f false (named i) (is_some (again.sized i));
      made = λ ts i. record { name = named i; ty = g.ty; length = again.sized i; outer = sym outer i; values = again.kept i } ∷ globals_of ts;
      no_func = λ ts. refl;
      faultless = again.faultless f y (ap (is_known_at f.known 1) named ∙ new);
    }

declaration_again : (f : File) (r : RawTop) (g : Outside) (b : Bool) → g.outer ≡ b → ShowsDeclaration b r g → WellFormedGlobal g → is_known_at f.known 1 g.name ≡ false → IsGlobalAgain f r g
declaration_again f r g true outer (y, a, is, named, shown, none) formed new =
    subst (λ t. IsGlobalAgain f t g) (sym is) (outer_again f g y a outer named shown none formed new)
declaration_again f r g false outer (y, sh, is, named, shown) formed new =
    subst (λ t. IsGlobalAgain f t g) (sym is) (inner_again f g y sh outer named shown formed new)

pub global_again : (f : File) (r : RawTop) (g : Outside) → ShowsGlobal r g → WellFormedGlobal g → is_known_at f.known 1 g.name ≡ false → IsGlobalAgain f r g
global_again f r g shows formed new = declaration_again f r g g.outer refl shows.shown formed new
