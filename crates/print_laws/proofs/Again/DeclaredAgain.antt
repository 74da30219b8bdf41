-- A declaration of a printed text declares the same local, and is faultless.
use Rattle.std.proofs.Common.{◌≡◌, ℕ, ◌≤◌, Bool, true, false, List, [], ◌∷◌, length, Option, Some, None, sym, ap, ◌∙◌, subst}
use Rattle.std.specs.Prelude.{slice_get, unwrap_or}
use Rattle.c_tree.specs.declared.tree.Ty.{Ty}
use Rattle.c_tree.specs.declared.tree.Ty.TheVariants as ty
use Rattle.c_tree.specs.declared.tree.Stmt.TheVariants as stmt
use Rattle.c_tree.specs.declared.program.Func.{Func}
use Rattle.c_tree.specs.declared.program.Local.{Local}
use Rattle.c_tree.specs.declared.program.Program.{Program}
use Rattle.c_tree.specs.declared.unit.Spot.{Spot}
use Rattle.c_tree.specs.declared.unit.RawExpr.{RawExpr}
use Rattle.c_tree.specs.declared.unit.RawExpr.TheVariants as e
use Rattle.c_tree.specs.declared.unit.RawShape.{RawShape}
use Rattle.c_tree.specs.declared.unit.RawShape.TheVariants as shape
use Rattle.c_tree.specs.declared.unit.RawStmt.{RawStmt}
use Rattle.c_tree.specs.declared.unit.RawStmt.TheVariants.{Declare}
use Rattle.c_tree.specs.Checking.Scopes.{is_known_at}
use Rattle.c_tree.specs.Checking.Constants.{exprs_of, declared_length, shape_length}
use Rattle.c_tree.specs.Checking.Naming.{Scope, local_of, scope_with_local, optional_expr, declaration_stmt, stmt_locals, scope_behind, stmt_of}
use Rattle.c_tree.specs.Checking.Uses.{Declared, Sized, declared_at, sized_use, optional_uses, exprs_uses, length_uses, declarator_uses, stmt_uses}
use Rattle.c_tree.specs.Checking.Refusals.{faults_of}
use Rattle.typed_laws.proofs.Faultless.{use_clean, all_clean}
use Rattle.typed_laws.proofs.Formed.FormedExpressions.{length_exprs}
use Rattle.print_laws.specs.Shown.{ShowAll, ShowsOptional, DeclaresLocal, ShowsStmt}
use Rattle.print_laws.proofs.Again.Scoped.{Follows}
use Rattle.print_laws.proofs.Again.FaultlessUses.{AreFaultless, faultless_parts, faultless_both, faultless_first, faultless_more, declared_elsewhere, sized_elsewhere}
use Rattle.print_laws.proofs.Again.LiteralLengths.{literal_length, literal_faultless}
use Rattle.print_laws.proofs.Again.ExpressionsAgain.{exprs_seen, all_shown_again, optional_again}
use Rattle.print_laws.proofs.Again.ScopesAgain.{declared_follows}
use Rattle.print_laws.proofs.Named.NamedScopes.{IsNamed, next_local, declared_named}

-- a statement of a printed text is the same as that of the text, and faultless
pub record IsAgain (s t : Scope) (x y : RawStmt) : Type 0 where
  pub stmt : stmt_of t y ≡ stmt_of s x
  pub locals : stmt_locals y ≡ stmt_locals x
  pub follows : Follows (scope_behind s x) (scope_behind t y)
  pub faultless : AreFaultless (stmt_uses t y)

-- a name is new to its scope in both
pub declared_once : (s t : Scope) (x y : Spot) → Follows s t → y.name ≡ x.name → faults_of (declared_at s.known s.depth x) ≡ [] → faults_of (declared_at t.known t.depth y) ≡ []
declared_once s t x y follows named h =
    let same : is_known_at t.known t.depth y.name ≡ is_known_at s.known s.depth x.name = (λ i. is_known_at t.known (follows.depth i) (named i)) ∙ follows.alike s.depth x.name follows.inner in
    ap (λ b. faults_of (Declared y.at b)) same ∙ declared_elsewhere x.at y.at (is_known_at s.known s.depth x.name) h

one_local : (o : Option Local) (k l : Local) → o ≡ Some k → o ≡ Some l → k ≡ l
one_local o k l h g = cc

module _ (p : Program) (f : Func) where
  -- what is printed of the next local is the local
  pub same_local : (s : Scope) (t z : Ty) (x y : Spot) (m n : Option ℕ) (ms : List Local) → IsNamed p f s (local_of t x.name n ∷ ms) → DeclaresLocal f (length s.locals) z y m → local_of z y.name m ≡ local_of t x.name n
  same_local s t z x y m n ms h shown =
      one_local (slice_get f.locals (length s.locals)) (local_of z y.name m) (local_of t x.name n) shown.local (next_local p f s (local_of t x.name n) ms h)

  pub scalar_again : (s t : Scope) (constant : Bool) (u z : Ty) (x y : Spot) (b a : Option RawExpr) → Follows s t → IsNamed p f s (local_of u x.name None ∷ []) → AreFaultless (declarator_uses s constant u x (shape.Scalar b))
      → DeclaresLocal f (length s.locals) z y None → ShowsOptional p f a (optional_expr (scope_with_local s constant u x.name None).known b) → IsAgain s t (Declare constant u x (shape.Scalar b)) (Declare false z y (shape.Scalar a))
  unfolding stmt_of stmt_locals stmt_uses scope_behind
  scalar_again s t constant u z x y b a follows h faultless shown shows =
      let same = same_local s u z x y None None [] h shown in
      let inner = declared_named p f s constant u x.name None [] h in
      let after = declared_follows s t constant u z x.name y.name None None same follows in
      let known = (scope_with_local s constant u x.name None).known in
      let parts = faultless_first (declared_at s.known s.depth x) (optional_uses known b) faultless in
      let again = optional_again p f known (scope_with_local t false z y.name None).known inner.names after.sees b a (all_clean (optional_uses known b) parts.1) shows in
      record {
        stmt = λ i. stmt.Scalar (length (follows.locals i)) (again.expr i);
        locals = λ i. same i ∷ [];
        follows = after;
        faultless = faultless_more (declared_at t.known t.depth y) (optional_uses (scope_with_local t false z y.name None).known a) (declared_once s t x y follows (ap (λ (l : Local). l.name) same) parts.0) again.faultless;
      }

  -- the printed length is the array's
  array_length_again : (s : Scope) (t z : Ty) (x y : Spot) (m n at : ℕ) (es : Option (List RawExpr)) → local_of z y.name (Some m) ≡ local_of t x.name (Some n) → n ≤ 64 → declared_length (Some (e.Num at ty.Int m)) es ≡ n
  array_length_again s t z x y m n at es same short =
      let is : m ≡ n = ap (λ (l : Local). unwrap_or l.length 0) same in
      literal_length at m es (subst (λ k. k ≤ 64) (sym is) short) ∙ is

  -- a list that fits in its array still does
  sized_again : (x y : Spot) (b : Option RawExpr) (bs es : List RawExpr) (m at : ℕ) → declared_length (Some (e.Num at ty.Int m)) (Some es) ≡ declared_length b (Some bs) → length es ≡ length bs
      → faults_of (sized_use x b (Some bs) true) ≡ [] → faults_of (sized_use y (Some (e.Num at ty.Int m)) (Some es) true) ≡ []
  sized_again x y b bs es m at size count h =
      (λ i. faults_of (Sized y.at (size i) (Some (count i)) true)) ∙ sized_elsewhere x.at y.at (declared_length b (Some bs)) (Some (length bs)) true h

  array_again : (s t : Scope) (constant : Bool) (u z : Ty) (x y : Spot) (b : Option RawExpr) (bs es : List RawExpr) (m at : ℕ) → Follows s t → IsNamed p f s (local_of u x.name (Some (declared_length b (Some bs))) ∷ [])
      → AreFaultless (declarator_uses s constant u x (shape.Array b (Some bs))) → DeclaresLocal f (length s.locals) z y (Some m) → ShowAll p f es (exprs_of (scope_with_local s constant u x.name (Some (declared_length b (Some bs)))).known bs)
      → IsAgain s t (Declare constant u x (shape.Array b (Some bs))) (Declare false z y (shape.Array (Some (e.Num at ty.Int m)) (Some es)))
  unfolding stmt_of stmt_locals stmt_uses scope_behind
  array_again s t constant u z x y b bs es m at follows h faultless shown shows =
      let n = declared_length b (Some bs) in
      let k = declared_length (Some (e.Num at ty.Int m)) (Some es) in
      let known = (scope_with_local s constant u x.name (Some n)).known in
      let printed = (scope_with_local t false z y.name (Some k)).known in
      let first = faultless_parts (length_uses s.known b) (declared_at s.known s.depth x ∷ (sized_use x b (Some bs) true ∷ exprs_uses known bs)) faultless in
      let second = faultless_first (declared_at s.known s.depth x) (sized_use x b (Some bs) true ∷ exprs_uses known bs) first.1 in
      let third = faultless_first (sized_use x b (Some bs) true) (exprs_uses known bs) second.1 in
      let fits = use_clean (sized_use x b (Some bs) true) third.0 in
      let written = same_local s u z x y (Some m) (Some n) [] h shown in
      let size : k ≡ n = array_length_again s u z x y m n at (Some es) written fits.0.1 in
      let longer : k ≡ m = size ∙ sym (ap (λ (l : Local). unwrap_or l.length 0) written) in
      let same : local_of z y.name (Some k) ≡ local_of u x.name (Some n) = ap (λ j. local_of z y.name (Some j)) longer ∙ written in
      let inner = declared_named p f s constant u x.name (Some n) [] h in
      let after = declared_follows s t constant u z x.name y.name (Some n) (Some k) same follows in
      let again = all_shown_again printed shows (exprs_seen p f known printed inner.names after.sees bs (all_clean (exprs_uses known bs) third.1)) in
      let count : length es ≡ length bs = again.count ∙ length_exprs known bs in
      let list = sized_use y (Some (e.Num at ty.Int m)) (Some es) true ∷ exprs_uses printed es in
      let once = declared_once s t x y follows (ap (λ (l : Local). l.name) same) second.0 in
      let rest = faultless_more (sized_use y (Some (e.Num at ty.Int m)) (Some es) true) (exprs_uses printed es) (sized_again x y b bs es m at size count third.0) again.faultless in
      record {
        stmt = λ i. stmt.Array (length (follows.locals i)) (again.exprs i);
        locals = λ i. same i ∷ [];
        follows = after;
        faultless = faultless_both (length_uses t.known (Some (e.Num at ty.Int m))) (declared_at t.known t.depth y ∷ list) (literal_faultless t.known at m) (faultless_more (declared_at t.known t.depth y) list once rest);
      }

  -- a list that is not there is a fault
  no_list : (s : Scope) (constant : Bool) (u : Ty) (x : Spot) (b : Option RawExpr) → AreFaultless (declarator_uses s constant u x (shape.Array b None)) → ⊥
  no_list s constant u x b faultless =
      let first = faultless_parts (length_uses s.known b) (declared_at s.known s.depth x ∷ (sized_use x b None true ∷ [])) faultless in
      let second = faultless_first (declared_at s.known s.depth x) (sized_use x b None true ∷ []) first.1 in
      let fits = use_clean (sized_use x b None true) (faultless_first (sized_use x b None true) [] second.1).0 in
      let no : true ≡ false = fits.1 in
      absurd (cc)

  pub declaration_again : (s t : Scope) (constant : Bool) (u : Ty) (x : Spot) (sh : RawShape) (r : RawStmt) → Follows s t → IsNamed p f s (local_of u x.name (shape_length sh) ∷ []) → AreFaultless (declarator_uses s constant u x sh)
      → ShowsStmt p f r (declaration_stmt (scope_with_local s constant u x.name (shape_length sh)).known (length s.locals) sh) → IsAgain s t (Declare constant u x sh) r
  unfolding ShowsStmt
  declaration_again s t constant u x (shape.Scalar b) r follows h faultless shows =
      subst (IsAgain s t (Declare constant u x (shape.Scalar b))) (sym shows.3) (scalar_again s t constant u shows.0 x shows.1 b shows.2 follows h faultless shows.4 shows.5)
  declaration_again s t constant u x (shape.Array b None) r follows h faultless shows = absurd (no_list s constant u x b faultless)
  declaration_again s t constant u x (shape.Array b (Some bs)) r follows h faultless shows =
      subst (IsAgain s t (Declare constant u x (shape.Array b (Some bs)))) (sym shows.5) (array_again s t constant u shows.0 x shows.1 b bs shows.4 shows.2 shows.3 follows h faultless shows.6 shows.7)
