-- The locals that a statement of a text declares have identifiers for their names.
use Rattle.std.proofs.Common.{◌≡◌, ℕ, Bool, List, [], ◌∷◌, ◌++◌, Option, Some, None, refl, sym, subst}
use Rattle.c_tree.specs.declared.tree.Ty.{Ty}
use Rattle.c_tree.specs.declared.program.Local.{Local}
use Rattle.c_tree.specs.declared.unit.Spot.{Spot}
use Rattle.c_tree.specs.declared.unit.RawBound.{RawBound}
use Rattle.c_tree.specs.declared.unit.RawExpr.{RawExpr}
use Rattle.c_tree.specs.declared.unit.RawShape.{RawShape}
use Rattle.c_tree.specs.declared.unit.RawStmt.{RawStmt}
use Rattle.c_tree.specs.declared.unit.RawStmt.TheVariants as stmt
use Rattle.c_tree.specs.declared.unit.RawStmt.TheBlock as in_stmt
use denote.Hole.Carrier.{hidden}
use Rattle.c_tree.specs.Checking.Naming.{stmt_locals, row_locals, held_locals, list_locals}
use Rattle.c_tree.specs.Grammar.SpelledExpressions.{Separated}
use Rattle.c_tree.specs.Grammar.SpelledStatements.{Declarator, scalar, initialised, array, filled, Assignment, plain_assignment, compound_assignment, step_after, step_before, Initialiser, no_initialiser, assigning, declaring, Step, no_step, step, Sort, Statement, empty, assign, call, call_into, break, continue, return_nothing, return_value, if_alone, if_else, while_loop, do_loop, for_loop, compound, body, group, declare, declare_call, item, Statements, none, more}
use Rattle.c_tree.specs.Tokens.Symbols.{Lexeme}
use Rattle.print_laws.proofs.Composing.ComposedExpressions.{IsIdentifier}
use Rattle.print_laws.proofs.Named.Showable.{AreNamed}
use Rattle.print_laws.proofs.Named.NamedTexts.{AllNamed, name_at}
use Rattle.print_laws.proofs.Named.NamedExpressions.{type_rest, expression_rest, separated_named, optional_rest, size_rest, values_rest, place_rest, called_rest, bound_rest, condition_rest}

-- ---- locals, one layer at a time

pub named_append : (ls ms : List Local) → AreNamed ls → AreNamed ms → AreNamed (ls ++ ms)
named_append [] ms h k = k
named_append (l ∷ ls) ms h k = (h.0, named_append ls ms h.1 k)

named_parts : (ls ms : List Local) → AreNamed (ls ++ ms) → AreNamed ls × AreNamed ms
named_parts [] ms h = (tt, h)
named_parts (l ∷ ls) ms h = let parts = named_parts ls ms h.1 in ((h.0, parts.0), parts.1)

-- the locals of one statement, or of none
abbrev maybe_locals : Option RawStmt → List Local
maybe_locals None = []
maybe_locals (Some x) = stmt_locals x ++ []

row_is : (xs : List RawStmt) → row_locals (in_stmt.hidden-the_row-RawStmt-0 xs) ≡ list_locals xs
unfolding stmt_locals row_locals in_stmt.shape-the_row-RawStmt-0 in_stmt.hidden-the_row-RawStmt-0 hidden
row_is [] = refl
row_is (x ∷ xs) = λ i. stmt_locals x ++ row_is xs i

held_is : (o : Option RawStmt) → held_locals (in_stmt.back-RawStmt-For-2 o) ≡ maybe_locals o
unfolding stmt_locals row_locals held_locals in_stmt.shape-the_row-RawStmt-1 in_stmt.hidden-the_row-RawStmt-1 hidden
held_is None = refl
held_is (Some x) = refl

named-If : (a : RawExpr) (xs ys : List RawStmt) → AreNamed (list_locals xs) → AreNamed (list_locals ys) → AreNamed (stmt_locals (stmt.If a xs ys))
unfolding stmt_locals
named-If a xs ys h k =
    subst AreNamed (λ i. sym (row_is xs) i ++ sym (row_is ys) i) (named_append (list_locals xs) (list_locals ys) h k)

named-While : (at : ℕ) (bound : Option RawBound) (a : RawExpr) (xs : List RawStmt) → AreNamed (list_locals xs) → AreNamed (stmt_locals (stmt.While at bound a xs))
unfolding stmt_locals
named-While at bound a xs h = subst AreNamed (sym (row_is xs)) h

named-Do : (at : ℕ) (bound : Option RawBound) (xs : List RawStmt) (a : RawExpr) → AreNamed (list_locals xs) → AreNamed (stmt_locals (stmt.Do at bound xs a))
unfolding stmt_locals
named-Do at bound xs a h = subst AreNamed (sym (row_is xs)) h

named-For : (at : ℕ) (bound : Option RawBound) (i : Option RawStmt) (a : RawExpr) (j : Option RawStmt) (xs : List RawStmt)
    → AreNamed (maybe_locals i) → AreNamed (maybe_locals j) → AreNamed (list_locals xs) → AreNamed (stmt_locals (stmt.For at bound i a j xs))
unfolding stmt_locals
named-For at bound i a j xs h k l =
    subst AreNamed (λ d. sym (held_is i) d ++ (sym (held_is j) d ++ sym (row_is xs) d))
    (named_append (maybe_locals i) (maybe_locals j ++ list_locals xs) h (named_append (maybe_locals j) (list_locals xs) k l))

named-Group : (xs : List RawStmt) → AreNamed (list_locals xs) → AreNamed (stmt_locals (stmt.Group xs))
unfolding stmt_locals
named-Group xs h = subst AreNamed (sym (row_is xs)) h

-- of a list of one statement
alone : (x : RawStmt) → AreNamed (stmt_locals x) → AreNamed (list_locals (x ∷ []))
alone x h = named_append (stmt_locals x) [] h tt

lists_named : (xs ys : List RawStmt) → AreNamed (list_locals xs) → AreNamed (list_locals ys) → AreNamed (list_locals (xs ++ ys))
lists_named [] ys h k = k
lists_named (x ∷ xs) ys h k =
    let parts = named_parts (stmt_locals x) (list_locals xs) h in
    named_append (stmt_locals x) (list_locals (xs ++ ys)) parts.0 (lists_named xs ys parts.1 k)

-- ---- parts

-- what is named where its declarator is
pub declarator_named : {A : Type 0} (make : Spot → RawShape → A) (One : A → Type 0) → ((x : Spot) (form : RawShape) → IsIdentifier x.name → One (make x form))
    → (ts : List Lexeme) (a : A) (rest : List Lexeme) → Declarator make ts a rest → AllNamed ts → One a × AllNamed rest
declarator_named make One good ts a rest (scalar {x = x} i) h = (good _ _ (name_at x i h.0), h.1)
declarator_named make One good ts a rest (initialised {x = x} i j d) h = (good _ _ (name_at x i h.0), expression_rest d h.1.1)
declarator_named make One good ts a rest (array {x = x} i d) h = (good _ _ (name_at x i h.0), size_rest d h.1)
declarator_named make One good ts a rest (filled {x = x} i d j e) h = (good _ _ (name_at x i h.0), values_rest e (size_rest d h.1).1)

assignment_named : {x : RawStmt} {ts rest : List Lexeme} → Assignment ts x rest → AllNamed ts → AreNamed (stmt_locals x) × AllNamed rest
unfolding stmt_locals
assignment_named (plain_assignment p i d) h = (tt, expression_rest d (place_rest p h).1)
assignment_named (compound_assignment p i d) h = (tt, expression_rest d (place_rest p h).1)
assignment_named (step_after p i) h = (tt, (place_rest p h).1)
assignment_named (step_before i p) h = (tt, place_rest p h.1)

initialiser_named : {i : Option RawStmt} {ts rest : List Lexeme} → Initialiser ts i rest → AllNamed ts → AreNamed (maybe_locals i) × AllNamed rest
unfolding stmt_locals
initialiser_named no_initialiser h = (tt, h)
initialiser_named (assigning {x = x} d) h = let a = assignment_named d h in (alone x a.0, a.1)
initialiser_named (declaring {x = x} y i j d) h = let k = type_rest y h in ((name_at x i k.0, tt), expression_rest d k.1.1)

step_named : {j : Option RawStmt} {ts rest : List Lexeme} → Step ts j rest → AllNamed ts → AreNamed (maybe_locals j) × AllNamed rest
step_named no_step h = (tt, h)
step_named (step {x = x} d) h = let a = assignment_named d h in (alone x a.0, a.1)

declared_named : (constant : Bool) (to : Ty) (x : Spot) (form : RawShape) → IsIdentifier x.name → AreNamed (stmt_locals (stmt.Declare constant to x form))
unfolding stmt_locals
declared_named constant to x form h = (h, tt)

declarators_named : (constant : Bool) (to : Ty) {xs : List RawStmt} {ts rest : List Lexeme} → Separated (Declarator (stmt.Declare constant to)) ts xs rest → AllNamed ts → AreNamed (list_locals xs) × AllNamed rest
declarators_named constant to d h =
    separated_named (Declarator (stmt.Declare constant to)) (λ x. AreNamed (stmt_locals x)) (λ xs. AreNamed (list_locals xs)) tt (λ a more x xs. named_append (stmt_locals a) (list_locals more) x xs)
    (declarator_named (stmt.Declare constant to) (λ x. AreNamed (stmt_locals x)) (declared_named constant to)) d h

-- ---- statements

mutual
  unfolding stmt_locals

  statement_named : {sort : Sort} {o : Bool} {xs : List RawStmt} {ts rest : List Lexeme} → Statement sort o ts xs rest → AllNamed ts → AreNamed (list_locals xs) × AllNamed rest
  statement_named (empty i) h = (tt, h.1)
  statement_named (assign {x = x} d i) h = let a = assignment_named d h in (alone x a.0, a.1.1)
  statement_named (call d i) h = (tt, (called_rest d h).1)
  statement_named (call_into i j d k) h = (tt, (called_rest d h.1.1).1)
  statement_named (break i j) h = (tt, h.1.1)
  statement_named (continue i j) h = (tt, h.1.1)
  statement_named (return_nothing i j) h = (tt, h.1.1)
  statement_named (return_value i d j) h = (tt, (expression_rest d h.1).1)
  statement_named (if_alone {a = a} {xs = xs} i j d k b) h =
      let x = statement_named b (expression_rest d h.1.1).1 in
      (alone (stmt.If a xs []) (named-If a xs [] x.0 tt), x.1)
  statement_named (if_else {a = a} {xs = xs} {ys = ys} i j d k b l c) h =
      let x = statement_named b (expression_rest d h.1.1).1 in
      let y = statement_named c x.1.1 in
      (alone (stmt.If a xs ys) (named-If a xs ys x.0 y.0), y.1)
  statement_named (while_loop {w = w} {bound = bound} {a = a} {xs = xs} l i j d k b) h =
      let x = statement_named b (expression_rest d (bound_rest l h).1.1).1 in
      (alone (stmt.While w.at bound a xs) (named-While w.at bound a xs x.0), x.1)
  statement_named (do_loop {d = t} {bound = bound} {a = a} {xs = xs} l i b j k d m n) h =
      let x = statement_named b (bound_rest l h).1 in
      (alone (stmt.Do t.at bound xs a) (named-Do t.at bound xs a x.0), (expression_rest d x.1.1.1).1.1)
  statement_named (for_loop {f = f} {bound = bound} {i = i} {j = j} {a = a} {xs = xs} l m n start o test p next q b) h =
      let x = initialiser_named start (bound_rest l h).1.1 in
      let y = step_named next (condition_rest test x.1.1).1 in
      let z = statement_named b y.1.1 in
      (alone (stmt.For f.at bound i a j xs) (named-For f.at bound i a j xs x.0 y.0 z.0), z.1)
  statement_named (compound i d k) h = let x = statements_named d h.1 in (x.0, x.1.1)
  statement_named (body d) h = statement_named d h
  statement_named (group {xs = xs} i d k) h =
      let x = statements_named d h.1 in (alone (stmt.Group xs) (named-Group xs x.0), x.1.1)
  statement_named (declare {constant = constant} {to = to} c y d k) h =
      let x = declarators_named constant to d (type_rest y (optional_rest c h)) in (x.0, x.1.1)
  statement_named (declare_call {x = x} c y i j d k) h =
      let g = type_rest y (optional_rest c h) in ((name_at x i g.0, tt), (called_rest d g.1.1).1)
  statement_named (item d) h = statement_named d h

  pub statements_named : {xs : List RawStmt} {ts rest : List Lexeme} → Statements ts xs rest → AllNamed ts → AreNamed (list_locals xs) × AllNamed rest
  statements_named none h = (tt, h)
  statements_named (more {xs = xs} {ys = ys} d ds) h =
      let x = statement_named d h in
      let y = statements_named ds x.1 in
      (lists_named xs ys x.0 y.0, y.1)
