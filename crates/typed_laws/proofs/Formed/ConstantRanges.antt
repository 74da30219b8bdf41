-- A shaped expression without names is well-formed in every layout, so its value lies in its type's range.
use Rattle.std.proofs.Common.{◌≡◌, suc, Bool, true, false, List, [], ◌∷◌, length, Option, Some, None, refl, ap}
use Rattle.std.specs.Prelude.{IsTrue, IsSome, IfSome, ◌||◌, if◌then◌else◌}
use Rattle.std.proofs.lemmas.Bool.{or_parts}
use Rattle.c_tree.specs.declared.tree.Ty.{Ty}
use Rattle.c_tree.specs.declared.tree.Ty.TheVariants as ty
use Rattle.c_tree.specs.declared.tree.Expr.TheBlock.{shape-the_row-Expr-0, hidden-the_row-Expr-0}
use denote.Hole.Carrier.{hidden}
use Rattle.c_tree.specs.declared.unit.RawExpr.{RawExpr, Row_of-RawExpr, end_of-RawExpr, more_of-RawExpr}
use Rattle.c_tree.specs.declared.unit.RawExpr.TheVariants.{Num, Name, Elem', Un', Cast', Bin', Cond', Paren'}
use Rattle.c_tree.specs.declared.value.Value.{Value}
use Rattle.c_tree.specs.Meaning.Values.{convert, is_of, is_value}
use Rattle.c_tree.specs.Meaning.Expressions.{type_of, val}
use Rattle.c_tree.specs.Checking.Scopes.{Known}
use Rattle.c_tree.specs.Checking.Constants.{expr_of, row_expr, has_name, row_has_name, no_store, constant_value, number_of, kept_number}
use Rattle.c_tree.specs.Checking.Naming.{kept_numbers}
use Rattle.c_tree.specs.Keeping.Layouts.{Layout, IsValueOf, HasReadLayout}
use Rattle.c_tree.specs.Keeping.WellFormed.{WellFormedExpr, WellFormedPart, AreNumbersOf}
use Rattle.c_tree.specs.Checking.Uses.{Constant, expr_uses, constant_uses, constants_uses}
use Rattle.c_tree.proofs.Keeping.Ranges.{convert_in}
use Rattle.c_tree.proofs.Keeping.Evaluated.{val_gives}
use Rattle.typed_laws.specs.Shaped.{ShapedExpr, ShapedPart, ShapedExprs}
use Rattle.typed_laws.proofs.Faultless.{AllClean, clean_parts}
use Rattle.c_tree.proofs.Keeping.SimpleKept.{in_range_of}

module _ (l : Layout) (ks : List Known) where
  mutual
    unfolding WellFormedExpr WellFormedPart ShapedExpr ShapedPart expr_of row_expr has_name row_has_name shape-the_row-Expr-0 hidden-the_row-Expr-0 hidden

    pub nameless_formed : (e : RawExpr) → ShapedExpr e → has_name e ≡ false → WellFormedExpr l (expr_of ks e)
    nameless_formed (Num at t n) shaped none = shaped
    nameless_formed (Name x) shaped none = absurd (cc)
    nameless_formed (Elem' x a i) shaped none = absurd (cc)
    nameless_formed (Un' at op a x) shaped none = part_formed x shaped none
    nameless_formed (Cast' at t a x) shaped none = part_formed x shaped none
    nameless_formed (Bin' op a x b y) shaped none =
        let both = or_parts (row_has_name x) (row_has_name y) none in
        (part_formed x shaped.0 both.0, part_formed y shaped.1 both.1)
    nameless_formed (Cond' a x b y c z) shaped none =
        let first = or_parts (row_has_name x) (row_has_name y || row_has_name z) none in
        let both = or_parts (row_has_name y) (row_has_name z) first.1 in
        (part_formed x shaped.0 first.0, (part_formed y shaped.1.0 both.0, part_formed z shaped.1.1 both.1))
    nameless_formed (Paren' at a x) shaped none = part_formed x shaped none

    part_formed : {m : _} (x : Row_of-RawExpr m) → ShapedPart x → row_has_name x ≡ false → WellFormedExpr l (row_expr ks x)
    part_formed end_of-RawExpr shaped none = absurd shaped
    part_formed (more_of-RawExpr e rest) shaped none = nameless_formed e shaped none

abbrev nothing : Layout
nothing = record { locals = []; globals = [] }

nothing_read : HasReadLayout nothing no_store
nothing_read = record { locals_of = tt; globals_of = tt }

chosen_value : (e : RawExpr) (b : Bool) → ShapedExpr e → has_name e ≡ b → IfSome (if b then None else val (expr_of [] e) no_store) (λ v. IsTrue (is_value v))
chosen_value e true shaped same = tt
chosen_value e false shaped same =
    in_range_of (type_of (expr_of [] e) no_store) (val (expr_of [] e) no_store) (val_gives nothing no_store nothing_read (expr_of [] e) (nameless_formed nothing [] e shaped same))

-- the value of a constant expression, where it is defined
pub constant_in : (e : RawExpr) → ShapedExpr e → IfSome (constant_value e) (λ v. IsTrue (is_value v))
unfolding constant_value
constant_in e shaped = chosen_value e (has_name e) shaped refl

number_is : (t : Ty) (v : Value) → IsValueOf t (convert t v) → IsTrue (is_of t (number_of (convert t v)))
number_is ty.Int v h = h.in_range
number_is ty.Unsigned v h = h.in_range

kept_is : (t : Ty) (o : Option Value) → IsSome o → IfSome o (λ v. IsTrue (is_value v)) → IsTrue (is_of t (kept_number t o))
kept_is t None some h = absurd (cc)
kept_is t (Some v) some h = number_is t v (convert_in t v h)

-- a constant of an initialiser
pub number_in : (t : Ty) (ks : List Known) (e : RawExpr) → ShapedExpr e → AllClean (constant_uses ks e) → IsTrue (is_of t (kept_number t (constant_value e)))
number_in t ks e shaped clean =
    let parts = clean_parts (expr_uses ks e) (Constant _ (constant_value e) ∷ []) clean in
    kept_is t (constant_value e) parts.1.0 (constant_in e shaped)

pub numbers_in : (t : Ty) (ks : List Known) (es : List RawExpr) → ShapedExprs es → AllClean (constants_uses ks es) → AreNumbersOf t (kept_numbers t es)
numbers_in t ks [] shaped clean = tt
numbers_in t ks (e ∷ es) shaped clean =
    let parts = clean_parts (constant_uses ks e) (constants_uses ks es) clean in
    (number_in t ks e shaped.0 parts.0, numbers_in t ks es shaped.1 parts.1)

pub length_numbers : (t : Ty) (es : List RawExpr) → length (kept_numbers t es) ≡ length es
length_numbers t [] = refl
length_numbers t (e ∷ es) = ap suc (length_numbers t es)
