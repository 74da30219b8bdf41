-- Where a statement stands in a text and in its printed text: the names in scope stand for the same.
use Rattle.std.specs.Prelude.{◌≡◌, ℕ, ◌≤◌, false, List, [], slice_get, Some}
use Rattle.std.specs.List.{flat_map}
use Rattle.c_tree.specs.declared.program.Func.{Func}
use Rattle.c_tree.specs.declared.program.Program.{Program}
use Rattle.c_tree.specs.declared.unit.RawStmt.{RawStmt}
use Rattle.c_tree.specs.Checking.Scopes.{Entity, Variable, Function, Known, entity_of, is_known_at}
use Rattle.c_tree.specs.Checking.Naming.{Scope, stmts_of, list_behind}
use Rattle.c_tree.specs.Checking.Uses.{stmts_uses}
use Rattle.c_tree.specs.Checking.Refusals.{faults_of}
use Rattle.print_laws.specs.PrintedExpressions.{name_text}
use Rattle.print_laws.specs.PrintedStatements.{func_name}

-- the same, without `const`, which is not printed
abbrev pub plain : Entity → Entity
plain (Variable v array constant) = Variable v array false
plain (Function n params result) = Function n params result

-- each name that stands for something here stands for the same there
abbrev pub Sees : List Known → List Known → Type 0
Sees ks ls = (name : List ℕ) (e : Entity) → entity_of ks name ≡ Some e → entity_of ls name ≡ Some (plain e)

-- the inner scopes, those within functions, have the same names
abbrev pub ScopeAlike : List Known → List Known → Type 0
ScopeAlike ks ls = (depth : ℕ) (name : List ℕ) → 2 ≤ depth → is_known_at ls depth name ≡ is_known_at ks depth name

-- a scope of the text and the one of the printed text
pub record Follows (s t : Scope) : Type 0 where
  pub sees : Sees s.known t.known
  pub alike : ScopeAlike s.known t.known
  pub inner : 2 ≤ s.depth
  pub depth : t.depth ≡ s.depth
  pub locals : t.locals ≡ s.locals
  pub func : t.func ≡ s.func
  pub result : t.result ≡ s.result
  pub looped : t.looped ≡ s.looped

-- the name of what an entity stands for, in a function of a program
abbrev pub entity_name : Program → Func → Entity → List ℕ
entity_name p f (Variable v array constant) = name_text p f v
entity_name p f (Function n params result) = func_name (slice_get p.funcs n)

-- each known name is the one that is printed for what it stands for
abbrev pub AreNames : Program → Func → List Known → Type 0
AreNames p f ks = (name : List ℕ) (e : Entity) → entity_of ks name ≡ Some e → entity_name p f e ≡ name

-- statements of a printed text are the same as those of the text, and faultless
pub record AreAgain (s t : Scope) (xs ys : List RawStmt) : Type 0 where
  pub stmts : stmts_of t ys ≡ stmts_of s xs
  pub locals : (list_behind t ys).locals ≡ (list_behind s xs).locals
  pub faultless : flat_map faults_of (stmts_uses t ys) ≡ []
