-- An expression of a printed text is named as that of the text, and faultless.
use Rattle.std.proofs.Common.{◌≡◌, ℕ, suc, Bool, true, false, List, [], ◌∷◌, ◌++◌, length, Option, Some, None, refl, ap, ◌∙◌}
use Rattle.std.specs.Prelude.{is_some}
use Rattle.c_tree.specs.declared.tree.Var.{Var}
use Rattle.c_tree.specs.declared.tree.Expr.{Expr, Row_of-Expr, end_of-Expr, more_of-Expr}
use Rattle.c_tree.specs.declared.tree.Expr.TheVariants as x
use Rattle.c_tree.specs.declared.tree.Expr.TheBlock.{shape-the_row-Expr-0, hidden-the_row-Expr-0}
use Rattle.c_tree.specs.declared.unit.RawExpr.TheBlock.{shape-the_row-RawExpr-0, hidden-the_row-RawExpr-0}
use denote.Hole.Carrier.{hidden}
use Rattle.c_tree.specs.declared.program.Func.{Func}
use Rattle.c_tree.specs.declared.program.Program.{Program}
use Rattle.c_tree.specs.declared.unit.RawExpr.{RawExpr, Row_of-RawExpr, end_of-RawExpr, more_of-RawExpr}
use Rattle.c_tree.specs.declared.unit.RawExpr.TheVariants.{Num, Name, Elem', Un', Cast', Bin', Cond', Paren'}
use Rattle.c_tree.specs.Checking.Scopes.{Entity, Variable, Function, Known, entity_of, variable}
use Rattle.c_tree.specs.Checking.Constants.{expr_of, row_expr, exprs_of}
use Rattle.c_tree.specs.Checking.Naming.{optional_expr}
use Rattle.c_tree.specs.Checking.Uses.{Read, expr_uses, row_uses, exprs_uses, optional_uses}
use Rattle.print_laws.specs.PrintedExpressions.{name_text}
use Rattle.print_laws.specs.Shown.{Shows, shows_num, shows_name, shows_elem, shows_un, shows_cast, shows_bin, shows_cond, shows_paren, ShowAll, show_none, show_more, ShowsOptional}
use Rattle.typed_laws.proofs.Faultless.{NamesVariable, AllClean, clean_parts}
use Rattle.print_laws.proofs.Again.Scoped.{Sees, AreNames}
use Rattle.print_laws.proofs.Again.FaultlessUses.{AreFaultless, faultless_both, faultless_more, read_faultless}

-- ---- names that stand for what they are printed for

-- the name of a variable stands for it, an array or not
abbrev pub IsSeenAs : Program → Func → List Known → Var → Bool → Type 0
IsSeenAs p f ls v array = entity_of ls (name_text p f v) ≡ Some (Variable v array false)

unfoldable mutual
  -- so do all names of an expression
  pub IsSeen : Program → Func → List Known → Expr → Type 0
  IsSeen p f ls (x.Num t n) = Unit {0}
  IsSeen p f ls (x.Name v) = IsSeenAs p f ls v false
  IsSeen p f ls (x.Elem' v a i) = IsSeenAs p f ls v true × IsSeenPart p f ls i
  IsSeen p f ls (x.Un' o a i) = IsSeenPart p f ls i
  IsSeen p f ls (x.Cast' t a i) = IsSeenPart p f ls i
  IsSeen p f ls (x.Bin' o a i b j) = IsSeenPart p f ls i × IsSeenPart p f ls j
  IsSeen p f ls (x.Cond' a i b j c k) = IsSeenPart p f ls i × IsSeenPart p f ls j × IsSeenPart p f ls k

  pub IsSeenPart : {m : _} → Program → Func → List Known → Row_of-Expr m → Type 0
  IsSeenPart p f ls end_of-Expr = Unit {0}
  IsSeenPart p f ls (more_of-Expr a rest) = IsSeen p f ls a

module _ (p : Program) (f : Func) (ks ls : List Known) (names : AreNames p f ks) (sees : Sees ks ls) where
  entity_seen : (name : List ℕ) (indexed : Bool) (o : Option Entity) → entity_of ks name ≡ o → NamesVariable o indexed → IsSeenAs p f ls (variable o) indexed
  entity_seen name indexed None is h = absurd h
  entity_seen name indexed (Some (Function n params result)) is h = absurd h
  entity_seen name indexed (Some (Variable v array constant)) is same =
      ap (entity_of ls) (names name (Variable v array constant) is) ∙ sees name (Variable v array constant) is ∙ ap (λ b. Some (Variable v b false)) same

  -- a name of the text
  pub name_seen : (name : List ℕ) (indexed : Bool) → NamesVariable (entity_of ks name) indexed → IsSeenAs p f ls (variable (entity_of ks name)) indexed
  name_seen name indexed h = entity_seen name indexed (entity_of ks name) refl h

  mutual
    unfolding IsSeen IsSeenPart expr_of row_expr expr_uses row_uses shape-the_row-Expr-0 hidden-the_row-Expr-0 hidden

    -- the names of an expression of the text
    pub expr_seen : (e : RawExpr) → AllClean (expr_uses ks e) → IsSeen p f ls (expr_of ks e)
    expr_seen (Num at t n) clean = tt
    expr_seen (Name y) clean = name_seen y.name false clean.0
    expr_seen (Elem' y a i) clean = (name_seen y.name true clean.0, part_seen i clean.1)
    expr_seen (Un' at op a i) clean = part_seen i clean
    expr_seen (Cast' at t a i) clean = part_seen i clean
    expr_seen (Bin' op a i b j) clean =
        let both = clean_parts (row_uses ks i) (row_uses ks j) clean in (part_seen i both.0, part_seen j both.1)
    expr_seen (Cond' a i b j c k) clean =
        let first = clean_parts (row_uses ks i) (row_uses ks j ++ row_uses ks k) clean in
        let both = clean_parts (row_uses ks j) (row_uses ks k) first.1 in
        (part_seen i first.0, part_seen j both.0, part_seen k both.1)
    expr_seen (Paren' at a i) clean = part_seen i clean

    part_seen : {m : _} (i : Row_of-RawExpr m) → AllClean (row_uses ks i) → IsSeen p f ls (row_expr ks i)
    part_seen end_of-RawExpr clean = tt
    part_seen (more_of-RawExpr e rest) clean = expr_seen e clean

-- ---- what shows an expression is named as it

-- an expression of a text is this one, and faultless
pub record IsExprAgain (ls : List Known) (a : RawExpr) (b : Expr) : Type 0 where
  pub expr : expr_of ls a ≡ b
  pub faultless : AreFaultless (expr_uses ls a)

pub shown_again : {p : Program} {f : Func} {a : RawExpr} {b : Expr} (ls : List Known) → Shows p f a b → IsSeen p f ls b → IsExprAgain ls a b
unfolding IsSeen IsSeenPart expr_of row_expr expr_uses row_uses shape-the_row-Expr-0 hidden-the_row-Expr-0 shape-the_row-RawExpr-0 hidden-the_row-RawExpr-0 hidden
shown_again ls shows_num seen = record { expr = refl; faultless = refl }
shown_again {p} {f} ls (shows_name {y = y} {v = v} named) seen =
    let is : entity_of ls y.name ≡ Some (Variable v false false) = ap (entity_of ls) named ∙ seen in
    record { expr = ap (λ o. x.Name (variable o)) is; faultless = faultless_more (Read y.at (entity_of ls y.name) false) [] (read_faultless y.at (entity_of ls y.name) v false is) refl }
shown_again {p} {f} ls (shows_elem {y = y} {v = v} {i = i} named part) seen =
    let is : entity_of ls y.name ≡ Some (Variable v true false) = ap (entity_of ls) named ∙ seen.0 in
    let again = shown_again ls part seen.1 in
    record { expr = λ k. x.Elem (variable (is k)) (again.expr k); faultless = faultless_more (Read y.at (entity_of ls y.name) true) (expr_uses ls i) (read_faultless y.at (entity_of ls y.name) v true is) again.faultless }
shown_again ls (shows_un {o = o} part) seen =
    let again = shown_again ls part seen in
    record { expr = ap (x.Un o) again.expr; faultless = again.faultless }
shown_again ls (shows_cast {t = t} part) seen =
    let again = shown_again ls part seen in
    record { expr = ap (x.Cast t) again.expr; faultless = again.faultless }
shown_again ls (shows_bin {o = o} {a = a} {c = c} left right) seen =
    let one = shown_again ls left seen.0 in
    let two = shown_again ls right seen.1 in
    record { expr = λ k. x.Bin o (one.expr k) (two.expr k); faultless = faultless_both (expr_uses ls a) (expr_uses ls c) one.faultless two.faultless }
shown_again ls (shows_cond {a = a} {b = b} {c = c} test left right) seen =
    let one = shown_again ls test seen.0 in
    let two = shown_again ls left seen.1 in
    let three = shown_again ls right seen.2 in
    record {
      expr = λ k. x.Cond (one.expr k) (two.expr k) (three.expr k);
      faultless = faultless_both (expr_uses ls a) (expr_uses ls b ++ expr_uses ls c) one.faultless (faultless_both (expr_uses ls b) (expr_uses ls c) two.faultless three.faultless);
    }
shown_again ls (shows_paren part) seen =
    let again = shown_again ls part seen in
    record { expr = again.expr; faultless = again.faultless }

-- ---- lists of expressions, and one or none

pub record AreExprsAgain (ls : List Known) (es : List RawExpr) (bs : List Expr) : Type 0 where
  pub exprs : exprs_of ls es ≡ bs
  pub faultless : AreFaultless (exprs_uses ls es)
  pub count : length es ≡ length bs

abbrev pub AreSeen : Program → Func → List Known → List Expr → Type 0
AreSeen p f ls [] = Unit {0}
AreSeen p f ls (b ∷ bs) = IsSeen p f ls b × AreSeen p f ls bs

pub exprs_seen : (p : Program) (f : Func) (ks ls : List Known) → AreNames p f ks → Sees ks ls → (es : List RawExpr) → AllClean (exprs_uses ks es) → AreSeen p f ls (exprs_of ks es)
exprs_seen p f ks ls names sees [] clean = tt
exprs_seen p f ks ls names sees (e ∷ es) clean =
    let both = clean_parts (expr_uses ks e) (exprs_uses ks es) clean in
    (expr_seen p f ks ls names sees e both.0, exprs_seen p f ks ls names sees es both.1)

pub all_shown_again : {p : Program} {f : Func} {es : List RawExpr} {bs : List Expr} (ls : List Known) → ShowAll p f es bs → AreSeen p f ls bs → AreExprsAgain ls es bs
all_shown_again ls show_none seen = record { exprs = refl; faultless = refl; count = refl }
all_shown_again ls (show_more {a = a} {more = es} one others) seen =
    let first = shown_again ls one seen.0 in
    let rest = all_shown_again ls others seen.1 in
    record {
      exprs = λ k. first.expr k ∷ rest.exprs k;
      faultless = faultless_both (expr_uses ls a) (exprs_uses ls es) first.faultless rest.faultless;
      count = ap suc rest.count;
    }

pub record IsOptionalAgain (ls : List Known) (a : Option RawExpr) (b : Option Expr) : Type 0 where
  pub expr : optional_expr ls a ≡ b
  pub faultless : AreFaultless (optional_uses ls a)
  pub there : is_some a ≡ is_some b

pub optional_again : (p : Program) (f : Func) (ks ls : List Known) → AreNames p f ks → Sees ks ls → (e a : Option RawExpr) → AllClean (optional_uses ks e) → ShowsOptional p f a (optional_expr ks e) → IsOptionalAgain ls a (optional_expr ks e)
optional_again p f ks ls names sees None None clean shows = record { expr = refl; faultless = refl; there = refl }
optional_again p f ks ls names sees None (Some a) clean shows = absurd shows
optional_again p f ks ls names sees (Some e) None clean shows = absurd shows
optional_again p f ks ls names sees (Some e) (Some a) clean shows =
    let again = shown_again ls shows (expr_seen p f ks ls names sees e clean) in
    record { expr = ap Some again.expr; faultless = again.faultless; there = refl }
