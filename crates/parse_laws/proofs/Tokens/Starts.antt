-- Statements take tokens, and how they begin.
use Rattle.std.proofs.Common.{◌≡◌, ◌<◌, ◌≤◌, Bool, true, false, List, ◌∷◌, length, Option, Some, refl, arith}
use Rattle.c_tree.specs.declared.tree.Ty.{Ty}
use Rattle.c_tree.specs.declared.unit.Spot.{Spot}
use Rattle.c_tree.specs.declared.unit.RawBound.{RawBound}
use Rattle.c_tree.specs.declared.unit.RawExpr.{RawExpr}
use Rattle.c_tree.specs.declared.unit.RawPlace.{RawPlace}
use Rattle.c_tree.specs.declared.unit.RawStmt.{RawStmt}
use Rattle.c_tree.specs.declared.unit.RawStmt.TheVariants as stmt
use Rattle.c_tree.specs.declared.symbol.Symbol.{Symbol}
use Rattle.c_tree.specs.declared.symbol.Symbol.TheVariants as s
use Rattle.c_tree.specs.Grammar.SpelledExpressions.{TypeName, int, signed, signed_int, unsigned, unsigned_int}
use Rattle.c_tree.specs.Grammar.SpelledStatements.{Optional, absent, present, Assigned, scalar_place, element_place, Assignment, plain_assignment, compound_assignment, step_after, step_before, Called, without_arguments, with_arguments, LoopBound, unbounded, bounded, Initialiser, no_initialiser, assigning, declaring, Condition, no_condition, condition, Step, no_step, step, Sort, Plain, Item, Statement, empty, assign, call, call_into, break, continue, return_nothing, return_value, if_alone, if_else, while_loop, do_loop, for_loop, compound, body, group, declare, declare_call, item, Statements, none, more}
use Rattle.c_tree.specs.Tokens.Symbols.{Lexeme}
use Rattle.parse_laws.specs.Parser.{first, sees, begins_type}
use Rattle.parse_laws.specs.ReadDecl.{begins_declaration}
use Rattle.parse_laws.proofs.Complete.AssignComplete.{assignment_shorter}
use Rattle.parse_laws.proofs.Complete.CallComplete.{optional_shorter, called_shorter, declarator_shorter}
use Rattle.parse_laws.proofs.Tokens.Begins.{expr_shorter}
use Rattle.parse_laws.proofs.Reading.Lists.{separated_shorter}
use Rattle.parse_laws.proofs.Reading.Steps.{not_seen}
use Rattle.parse_laws.proofs.Tokens.Types.{type_shorter}

bound_shorter : {ts rest : List Lexeme} {b : Option RawBound} → LoopBound ts b rest → length rest ≤ length ts
bound_shorter unbounded = omega arith
bound_shorter (bounded h) = omega arith

initialiser_shorter : {ts rest : List Lexeme} {i : Option RawStmt} → Initialiser ts i rest → length rest ≤ length ts
initialiser_shorter no_initialiser = omega arith
initialiser_shorter (assigning d) = omega (arith, assignment_shorter d)
initialiser_shorter (declaring y h i d) = omega (arith, type_shorter y, expr_shorter d)

condition_shorter : {ts rest : List Lexeme} {a : RawExpr} → Condition ts a rest → length rest ≤ length ts
condition_shorter (no_condition h) = omega arith
condition_shorter (condition d) = omega (arith, expr_shorter d)

step_shorter : {ts rest : List Lexeme} {j : Option RawStmt} → Step ts j rest → length rest ≤ length ts
step_shorter no_step = omega arith
step_shorter (step d) = omega (arith, assignment_shorter d)

mutual
  pub statement_shorter : {o : Sort} {b : Bool} {ts rest : List Lexeme} {xs : List RawStmt} → Statement o b ts xs rest → length rest < length ts
  statement_shorter (empty h) = omega arith
  statement_shorter (assign d k) = omega (arith, assignment_shorter d)
  statement_shorter (call d k) = omega (arith, called_shorter d)
  statement_shorter (call_into h i d k) = omega (arith, called_shorter d)
  statement_shorter (break h k) = omega arith
  statement_shorter (continue h k) = omega arith
  statement_shorter (return_nothing h i) = omega arith
  statement_shorter (return_value h d k) = omega (arith, expr_shorter d)
  statement_shorter (if_alone h i d k x) = omega (arith, expr_shorter d, statement_shorter x)
  statement_shorter (if_else h i d k x l y) = omega (arith, expr_shorter d, statement_shorter x, statement_shorter y)
  statement_shorter (while_loop b h i d k x) = omega (arith, bound_shorter b, expr_shorter d, statement_shorter x)
  statement_shorter (do_loop b h x i j d k l) = omega (arith, bound_shorter b, statement_shorter x, expr_shorter d)
  statement_shorter (for_loop b h p i c d k j r x) = omega (arith, bound_shorter b, initialiser_shorter i, condition_shorter d, step_shorter j, statement_shorter x)
  statement_shorter (compound h x k) = omega (arith, statements_shorter x)
  statement_shorter (body x) = statement_shorter x
  statement_shorter (group h x k) = omega (arith, statements_shorter x)
  statement_shorter (declare {constant = constant} {to = to} o y m k) =
      omega (arith, optional_shorter o, type_shorter y, separated_shorter (declarator_shorter (stmt.Declare constant to)) m)
  statement_shorter (declare_call o y h i d k) = omega (arith, optional_shorter o, type_shorter y, called_shorter d)
  statement_shorter (item x) = statement_shorter x

  pub statements_shorter : {ts rest : List Lexeme} {xs : List RawStmt} → Statements ts xs rest → length rest ≤ length ts
  statements_shorter none = omega arith
  statements_shorter (more x y) = omega (arith, statement_shorter x, statements_shorter y)

-- ---- how it begins

abbrev pub begins_plain : Option Symbol → Bool
begins_plain (Some s.Semicolon) = true
begins_plain (Some s.Name) = true
begins_plain (Some (s.Step o)) = true
begins_plain (Some s.Break) = true
begins_plain (Some s.Continue) = true
begins_plain (Some s.Return) = true
begins_plain (Some s.If) = true
begins_plain (Some s.Bound) = true
begins_plain (Some s.While) = true
begins_plain (Some s.Do) = true
begins_plain (Some s.For) = true
begins_plain _ = false

assigned_starts : {ts rest : List Lexeme} {p : RawPlace} → Assigned ts p rest → begins_plain (first ts) ≡ true
assigned_starts (scalar_place h) = rw h refl
assigned_starts (element_place h i d k) = rw h refl

assignment_starts : {ts rest : List Lexeme} {x : RawStmt} → Assignment ts x rest → begins_plain (first ts) ≡ true
assignment_starts (plain_assignment p i d) = assigned_starts p
assignment_starts (compound_assignment p i d) = assigned_starts p
assignment_starts (step_after p i) = assigned_starts p
assignment_starts (step_before i p) = rw i refl

called_starts : {ts rest : List Lexeme} {f : Spot} {list : List RawExpr} → Called ts f list rest → begins_plain (first ts) ≡ true
called_starts (without_arguments h i k) = rw h refl
called_starts (with_arguments h i m k) = rw h refl

loop_starts : (m : Symbol) → begins_plain (Some m) ≡ true → {t : Lexeme} {ts u : List Lexeme} {b : Option RawBound} → LoopBound ts b (t ∷ u) → t.symbol ≡ m → begins_plain (first ts) ≡ true
loop_starts m starts unbounded h = rw h starts
loop_starts m starts (bounded i) h = rw i refl

pub plain_begins : {b : Bool} {ts rest : List Lexeme} {xs : List RawStmt} → Statement Plain b ts xs rest → begins_plain (first ts) ≡ true
plain_begins (empty h) = rw h refl
plain_begins (assign d k) = assignment_starts d
plain_begins (call d k) = called_starts d
plain_begins (call_into h i d k) = rw h refl
plain_begins (break h k) = rw h refl
plain_begins (continue h k) = rw h refl
plain_begins (return_nothing h i) = rw h refl
plain_begins (return_value h d k) = rw h refl
plain_begins (if_alone h i d k x) = rw h refl
plain_begins (if_else h i d k x l y) = rw h refl
plain_begins (while_loop b h i d k x) = loop_starts s.While refl b h
plain_begins (do_loop b h x i j d k l) = loop_starts s.Do refl b h
plain_begins (for_loop b h p i c d k j r x) = loop_starts s.For refl b h

pub plain_no : (m : Symbol) → begins_plain (Some m) ≡ false → {b : Bool} {ts rest : List Lexeme} {xs : List RawStmt} → Statement Plain b ts xs rest → sees m ts ≡ false
plain_no m never {ts = ts} x = not_seen begins_plain m ts never (plain_begins x)

no_type : (x : Option Symbol) (ts : List Lexeme) → first ts ≡ x → begins_plain x ≡ true → begins_type ts ≡ false
unfolding begins_type
no_type (Some s.Int) ts is h = cc
no_type (Some s.Signed) ts is h = cc
no_type (Some s.Unsigned) ts is h = cc
no_type _ ts is h = rw is refl

pub plain_no_declaration : {b : Bool} {ts rest : List Lexeme} {xs : List RawStmt} → Statement Plain b ts xs rest → begins_declaration ts ≡ false
unfolding begins_declaration
plain_no_declaration {ts = ts} x = rw (plain_no s.Const refl x) (no_type (first ts) ts refl (plain_begins x))

-- ---- and a list

abbrev begins_item : Option Symbol → Bool
begins_item (Some s.Const) = true
begins_item (Some s.Int) = true
begins_item (Some s.Signed) = true
begins_item (Some s.Unsigned) = true
begins_item (Some s.LeftBrace) = true
begins_item x = begins_plain x

begins_either : (x : Option Symbol) → begins_plain x ≡ true → begins_item x ≡ true
begins_either (Some s.Const) h = refl
begins_either (Some s.Int) h = refl
begins_either (Some s.Signed) h = refl
begins_either (Some s.Unsigned) h = refl
begins_either (Some s.LeftBrace) h = refl
begins_either _ h = h

type_starts : {ts rest : List Lexeme} {to : Ty} → TypeName ts to rest → begins_item (first ts) ≡ true
type_starts (int h) = rw h refl
type_starts (signed h) = rw h refl
type_starts (signed_int h i) = rw h refl
type_starts (unsigned h) = rw h refl
type_starts (unsigned_int h i) = rw h refl

constant_starts : {ts u rest : List Lexeme} {b : Bool} {to : Ty} → Optional s.Const ts b u → TypeName u to rest → begins_item (first ts) ≡ true
constant_starts absent y = type_starts y
constant_starts (present h) y = rw h refl

item_begins : {b : Bool} {ts rest : List Lexeme} {xs : List RawStmt} → Statement Item b ts xs rest → begins_item (first ts) ≡ true
item_begins (group h x k) = rw h refl
item_begins (declare o y m k) = constant_starts o y
item_begins (declare_call o y h i d k) = constant_starts o y
item_begins {ts = ts} (item x) = begins_either (first ts) (plain_begins x)

pub item_no : (m : Symbol) → begins_item (Some m) ≡ false → {b : Bool} {ts rest : List Lexeme} {xs : List RawStmt} → Statement Item b ts xs rest → sees m ts ≡ false
item_no m never {ts = ts} x = not_seen begins_item m ts never (item_begins x)
