-- A shaped expression whose names stand for what is there is well-formed.
use Rattle.std.proofs.Common.{◌≡◌, suc, List, [], ◌∷◌, ◌++◌, length, Option, Some, None, refl, ap}
use Rattle.c_tree.specs.declared.tree.Expr.TheBlock.{shape-the_row-Expr-0, hidden-the_row-Expr-0}
use denote.Hole.Carrier.{hidden}
use Rattle.c_tree.specs.declared.program.Func.{Func}
use Rattle.c_tree.specs.declared.unit.RawExpr.{RawExpr, Row_of-RawExpr, end_of-RawExpr, more_of-RawExpr}
use Rattle.c_tree.specs.declared.unit.RawExpr.TheVariants.{Num, Name, Elem', Un', Cast', Bin', Cond', Paren'}
use Rattle.c_tree.specs.declared.unit.RawPlace.{RawPlace}
use Rattle.c_tree.specs.declared.unit.RawPlace.TheVariants as raw_place
use Rattle.c_tree.specs.Checking.Scopes.{Known, entity_of}
use Rattle.c_tree.specs.Checking.Constants.{expr_of, row_expr, exprs_of}
use Rattle.c_tree.specs.Checking.Naming.{optional_expr, place_of}
use Rattle.c_tree.specs.Keeping.Layouts.{Layout}
use Rattle.c_tree.specs.Keeping.WellFormed.{WellFormedExpr, WellFormedPart, WellFormedExprs, WellFormedOptional, WellFormedPlace}
use Rattle.c_tree.specs.Checking.Uses.{expr_uses, row_uses, exprs_uses, optional_uses, place_uses}
use Rattle.typed_laws.specs.Shaped.{ShapedExpr, ShapedPart, ShapedExprs, ShapedOptional, ShapedPlace}
use Rattle.typed_laws.proofs.Faultless.{AllClean, clean_parts}
use Rattle.typed_laws.proofs.Standing.{AllStand, name_stands, scalar_named, array_named}

module _ (l : Layout) (fs : List Func) (ks : List Known) (stand : AllStand l fs ks) where
  mutual
    unfolding WellFormedExpr WellFormedPart ShapedExpr ShapedPart expr_of row_expr expr_uses row_uses shape-the_row-Expr-0 hidden-the_row-Expr-0 hidden

    pub expr_formed : (e : RawExpr) → ShapedExpr e → AllClean (expr_uses ks e) → WellFormedExpr l (expr_of ks e)
    expr_formed (Num at t n) shaped clean = shaped
    expr_formed (Name x) shaped clean = scalar_named l fs (entity_of ks x.name) (name_stands l fs ks x.name stand) clean.0
    expr_formed (Elem' x a i) shaped clean =
        (array_named l fs (entity_of ks x.name) (name_stands l fs ks x.name stand) clean.0, part_formed i shaped clean.1)
    expr_formed (Un' at op a x) shaped clean = part_formed x shaped clean
    expr_formed (Cast' at t a x) shaped clean = part_formed x shaped clean
    expr_formed (Bin' op a x b y) shaped clean =
        let both = clean_parts (row_uses ks x) (row_uses ks y) clean in
        (part_formed x shaped.0 both.0, part_formed y shaped.1 both.1)
    expr_formed (Cond' a x b y c z) shaped clean =
        let first = clean_parts (row_uses ks x) (row_uses ks y ++ row_uses ks z) clean in
        let both = clean_parts (row_uses ks y) (row_uses ks z) first.1 in
        (part_formed x shaped.0 first.0, (part_formed y shaped.1.0 both.0, part_formed z shaped.1.1 both.1))
    expr_formed (Paren' at a x) shaped clean = part_formed x shaped clean

    part_formed : {m : _} (x : Row_of-RawExpr m) → ShapedPart x → AllClean (row_uses ks x) → WellFormedExpr l (row_expr ks x)
    part_formed end_of-RawExpr shaped clean = absurd shaped
    part_formed (more_of-RawExpr e rest) shaped clean = expr_formed e shaped clean

  pub exprs_formed : (es : List RawExpr) → ShapedExprs es → AllClean (exprs_uses ks es) → WellFormedExprs l (exprs_of ks es)
  exprs_formed [] shaped clean = tt
  exprs_formed (e ∷ es) shaped clean =
      let both = clean_parts (expr_uses ks e) (exprs_uses ks es) clean in
      (expr_formed e shaped.0 both.0, exprs_formed es shaped.1 both.1)

  pub optional_formed : (e : Option RawExpr) → ShapedOptional e → AllClean (optional_uses ks e) → WellFormedOptional l (optional_expr ks e)
  optional_formed None shaped clean = tt
  optional_formed (Some e) shaped clean = expr_formed e shaped clean

  pub place_formed : (p : RawPlace) → ShapedPlace p → AllClean (place_uses ks p) → WellFormedPlace l (place_of ks p)
  place_formed (raw_place.Scalar x) shaped clean = scalar_named l fs (entity_of ks x.name) (name_stands l fs ks x.name stand) clean.0
  place_formed (raw_place.Elem x i) shaped clean =
      (array_named l fs (entity_of ks x.name) (name_stands l fs ks x.name stand) clean.0, expr_formed i shaped clean.1)

pub length_exprs : (ks : List Known) (es : List RawExpr) → length (exprs_of ks es) ≡ length es
length_exprs ks [] = refl
length_exprs ks (e ∷ es) = ap suc (length_exprs ks es)
