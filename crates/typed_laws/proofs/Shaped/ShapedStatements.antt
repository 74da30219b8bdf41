-- What the grammar of declarations and statements sees to, and that what is left of the tokens is fair.
use Rattle.std.proofs.Common.{◌≡◌, Bool, List, [], Option, Some, refl, sym, subst}
use Rattle.std.specs.Prelude.{IsTrue}
use Rattle.c_tree.specs.declared.tree.Ty.{Ty}
use Rattle.c_tree.specs.declared.unit.Spot.{Spot}
use Rattle.c_tree.specs.declared.unit.RawBound.{RawBound}
use Rattle.c_tree.specs.declared.unit.RawExpr.{RawExpr}
use Rattle.c_tree.specs.declared.unit.RawPlace.{RawPlace}
use Rattle.c_tree.specs.declared.unit.RawShape.{RawShape}
use Rattle.c_tree.specs.declared.unit.RawStmt.{RawStmt}
use Rattle.c_tree.specs.declared.unit.RawStmt.TheVariants as stmt
use Rattle.c_tree.specs.declared.symbol.Symbol.{Symbol}
use Rattle.c_tree.specs.Grammar.SpelledExpressions.{Separated}
use Rattle.c_tree.specs.Grammar.SpelledStatements.{Optional, absent, present, Size, implied, sized, Values, values, trailing, Declarator, scalar, initialised, array, filled, Assigned, scalar_place, element_place, one, Assignment, plain_assignment, compound_assignment, step_after, step_before, Called, without_arguments, with_arguments, LoopBound, unbounded, bounded, Initialiser, no_initialiser, assigning, declaring, Condition, no_condition, condition, Step, no_step, step, Sort, Statement, empty, assign, call, call_into, break, continue, return_nothing, return_value, if_alone, if_else, while_loop, do_loop, for_loop, compound, body, group, declare, declare_call, item, Statements, none, more}
use Rattle.c_tree.specs.Tokens.Symbols.{Lexeme}
use Rattle.typed_laws.specs.Shaped.{ShapedExpr, ShapedExprs, ShapedOptional, ShapedValues, ShapedPlace, ShapedShape, ShapedStmt, ShapedList, is_first, is_next}
use Rattle.typed_laws.proofs.Shaped.FairLexemes.{AllFair}
use Rattle.typed_laws.proofs.Shaped.ShapedExpressions.{fair_at, type_fair, expr_shaped, separated_shaped, exprs_shaped, separated_some}
use Rattle.typed_laws.proofs.Shaped.ShapedLayers.{ShapedMaybe, shaped-If, shaped-While, shaped-Do, shaped-For, shaped-Group, shaped_append}

-- a shaped statement, by what its layer says
by_layer : {A B : Type 0} → A ≡ B → B → A
by_layer e b = subst (λ (X : Type 0). X) (sym e) b

-- ---- parts

pub optional_fair : {word : Symbol} {b : Bool} {ts rest : List Lexeme} → Optional word ts b rest → AllFair ts → AllFair rest
optional_fair absent h = h
optional_fair (present i) h = h.1

size_shaped : {size : Option RawExpr} {ts rest : List Lexeme} → Size ts size rest → AllFair ts → ShapedOptional size × AllFair rest
size_shaped (implied i j) h = (tt, h.1.1)
size_shaped (sized i d k) h = let a = expr_shaped d h.1 in (a.0, a.1.1)

values_shaped : {list : List RawExpr} {ts rest : List Lexeme} → Values ts list rest → AllFair ts → ShapedValues (Some list) × AllFair rest
values_shaped (values i d k) h = let a = exprs_shaped d h.1 in ((separated_some d, a.0), a.1.1)
values_shaped (trailing i d j k) h = let a = exprs_shaped d h.1 in ((separated_some d, a.0), a.1.1.1)

-- what is shaped where its declarator's shape is
pub declarator_shaped : {A : Type 0} (make : Spot → RawShape → A) (One : A → Type 0) → ((x : Spot) (form : RawShape) → ShapedShape form → One (make x form))
    → (ts : List Lexeme) (a : A) (rest : List Lexeme) → Declarator make ts a rest → AllFair ts → One a × AllFair rest
declarator_shaped make One good ts a rest (scalar i) h = (good _ _ tt, h.1)
declarator_shaped make One good ts a rest (initialised i j d) h = let x = expr_shaped d h.1.1 in (good _ _ x.0, x.1)
declarator_shaped make One good ts a rest (array i d) h = let x = size_shaped d h.1 in (good _ _ (x.0, tt), x.1)
declarator_shaped make One good ts a rest (filled i d j e) h =
    let x = size_shaped d h.1 in
    let y = values_shaped e x.1.1 in
    (good _ _ (x.0, y.0), y.1)

place_shaped : {p : RawPlace} {ts rest : List Lexeme} → Assigned ts p rest → AllFair ts → ShapedPlace p × AllFair rest
place_shaped (scalar_place i) h = (tt, h.1)
place_shaped (element_place i j d k) h = let a = expr_shaped d h.1.1 in (a.0, a.1.1)

one_shaped : (t : Lexeme) → ShapedExpr (one t)
unfolding ShapedExpr
one_shaped t = refl

-- what an assignment is: shaped, and of the sorts that a `for` may have
record IsAssignment (x : RawStmt) : Type 0 where
  shaped : ShapedStmt x
  first : IsTrue (is_first x)
  next : IsTrue (is_next x)

assignment_shaped : {x : RawStmt} {ts rest : List Lexeme} → Assignment ts x rest → AllFair ts → IsAssignment x × AllFair rest
unfolding ShapedStmt
assignment_shaped (plain_assignment p i d) h =
    let x = place_shaped p h in
    let a = expr_shaped d x.1.1 in
    (record { shaped = (x.0, (refl, a.0)); first = refl; next = refl }, a.1)
assignment_shaped (compound_assignment {q = q} p i d) h =
    let x = place_shaped p h in
    let a = expr_shaped d x.1.1 in
    (record { shaped = (x.0, (fair_at q i x.1.0, a.0)); first = refl; next = refl }, a.1)
assignment_shaped (step_after {q = q} p i) h =
    let x = place_shaped p h in
    (record { shaped = (x.0, (fair_at q i x.1.0, one_shaped q)); first = refl; next = refl }, x.1.1)
assignment_shaped (step_before {q = q} i p) h =
    let x = place_shaped p h.1 in
    (record { shaped = (x.0, (fair_at q i h.0, one_shaped q)); first = refl; next = refl }, x.1)

called_shaped : {f : Spot} {list : List RawExpr} {ts rest : List Lexeme} → Called ts f list rest → AllFair ts → ShapedExprs list × AllFair rest
called_shaped (without_arguments i j k) h = (tt, h.1.1.1)
called_shaped (with_arguments i j d k) h = let a = exprs_shaped d h.1.1 in (a.0, a.1.1)

bound_fair : {b : Option RawBound} {ts rest : List Lexeme} → LoopBound ts b rest → AllFair ts → AllFair rest
bound_fair unbounded h = h
bound_fair (bounded i) h = h.1

initialiser_shaped : {i : Option RawStmt} {ts rest : List Lexeme} → Initialiser ts i rest → AllFair ts → ShapedMaybe is_first i × AllFair rest
unfolding ShapedStmt
initialiser_shaped no_initialiser h = (tt, h)
initialiser_shaped (assigning d) h = let x = assignment_shaped d h in ((x.0.first, (x.0.shaped, tt)), x.1)
initialiser_shaped (declaring y i j d) h = let a = expr_shaped d (type_fair y h).1.1 in ((refl, (a.0, tt)), a.1)

condition_shaped : {a : RawExpr} {ts rest : List Lexeme} → Condition ts a rest → AllFair ts → ShapedExpr a × AllFair rest
condition_shaped (no_condition {c = c} i) h = (one_shaped c, h)
condition_shaped (condition d) h = expr_shaped d h

step_shaped : {j : Option RawStmt} {ts rest : List Lexeme} → Step ts j rest → AllFair ts → ShapedMaybe is_next j × AllFair rest
step_shaped no_step h = (tt, h)
step_shaped (step d) h = let x = assignment_shaped d h in ((x.0.next, (x.0.shaped, tt)), x.1)

declared_shaped : (constant : Bool) (to : Ty) (x : Spot) (form : RawShape) → ShapedShape form → ShapedStmt (stmt.Declare constant to x form)
unfolding ShapedStmt
declared_shaped constant to x form h = h

declarators_shaped : (constant : Bool) (to : Ty) {xs : List RawStmt} {ts rest : List Lexeme} → Separated (Declarator (stmt.Declare constant to)) ts xs rest → AllFair ts → ShapedList xs × AllFair rest
declarators_shaped constant to d h = separated_shaped (Declarator (stmt.Declare constant to)) ShapedStmt ShapedList tt (λ a more x xs. (x, xs))
    (declarator_shaped (stmt.Declare constant to) ShapedStmt (declared_shaped constant to)) d h

-- ---- statements

mutual
  unfolding ShapedStmt

  statement_shaped : {sort : Sort} {o : Bool} {xs : List RawStmt} {ts rest : List Lexeme} → Statement sort o ts xs rest → AllFair ts → ShapedList xs × AllFair rest
  statement_shaped (empty i) h = ((tt, tt), h.1)
  statement_shaped (assign d i) h = let x = assignment_shaped d h in ((x.0.shaped, tt), x.1.1)
  statement_shaped (call d i) h = let x = called_shaped d h in ((x.0, tt), x.1.1)
  statement_shaped (call_into i j d k) h = let x = called_shaped d h.1.1 in ((x.0, tt), x.1.1)
  statement_shaped (break i j) h = ((tt, tt), h.1.1)
  statement_shaped (continue i j) h = ((tt, tt), h.1.1)
  statement_shaped (return_nothing i j) h = ((tt, tt), h.1.1)
  statement_shaped (return_value i d j) h = let a = expr_shaped d h.1 in ((a.0, tt), a.1.1)
  statement_shaped (if_alone {a = a} {xs = xs} i j d k b) h =
      let x = expr_shaped d h.1.1 in
      let y = statement_shaped b x.1.1 in
      ((by_layer (shaped-If a xs []) (x.0, (y.0, tt)), tt), y.1)
  statement_shaped (if_else {a = a} {xs = xs} {ys = ys} i j d k b l c) h =
      let x = expr_shaped d h.1.1 in
      let y = statement_shaped b x.1.1 in
      let z = statement_shaped c y.1.1 in
      ((by_layer (shaped-If a xs ys) (x.0, (y.0, z.0)), tt), z.1)
  statement_shaped (while_loop {w = w} {bound = bound} {a = a} {xs = xs} l i j d k b) h =
      let x = expr_shaped d (bound_fair l h).1.1 in
      let y = statement_shaped b x.1.1 in
      ((by_layer (shaped-While w.at bound a xs) (x.0, y.0), tt), y.1)
  statement_shaped (do_loop {d = t} {bound = bound} {a = a} {xs = xs} l i b j k d m n) h =
      let y = statement_shaped b (bound_fair l h).1 in
      let x = expr_shaped d y.1.1.1 in
      ((by_layer (shaped-Do t.at bound xs a) (y.0, x.0), tt), x.1.1.1)
  statement_shaped (for_loop {f = f} {bound = bound} {i = i} {j = j} {a = a} {xs = xs} l m n start o test p next q b) h =
      let w = initialiser_shaped start (bound_fair l h).1.1 in
      let x = condition_shaped test w.1.1 in
      let y = step_shaped next x.1.1 in
      let z = statement_shaped b y.1.1 in
      ((by_layer (shaped-For f.at bound i a j xs) (w.0, (x.0, (y.0, z.0))), tt), z.1)
  statement_shaped (compound i d k) h = let x = statements_shaped d h.1 in (x.0, x.1.1)
  statement_shaped (body d) h = statement_shaped d h
  statement_shaped (group {xs = xs} i d k) h = let x = statements_shaped d h.1 in ((by_layer (shaped-Group xs) x.0, tt), x.1.1)
  statement_shaped (declare {constant = constant} {to = to} c y d k) h =
      let x = declarators_shaped constant to d (type_fair y (optional_fair c h)) in (x.0, x.1.1)
  statement_shaped (declare_call c y i j d k) h = let x = called_shaped d (type_fair y (optional_fair c h)).1.1 in ((x.0, tt), x.1.1)
  statement_shaped (item d) h = statement_shaped d h

  pub statements_shaped : {xs : List RawStmt} {ts rest : List Lexeme} → Statements ts xs rest → AllFair ts → ShapedList xs × AllFair rest
  statements_shaped none h = (tt, h)
  statements_shaped (more {xs = xs} {ys = ys} d ds) h =
      let x = statement_shaped d h in
      let y = statements_shaped ds x.1 in
      (shaped_append xs ys x.0 y.0, y.1)
