-- Statements around others: each is well-formed where its parts are.
use Rattle.std.proofs.Common.{◌≡◌, ℕ, Bool, true, false, List, Option, Some, None, refl, sym, subst}
use Rattle.std.proofs.Math.Path.{transport⁻¹}
use Rattle.std.specs.Prelude.{IsTrue, if◌then◌else◌, nat_le}
use Rattle.std.proofs.lemmas.Bool.{leb-true, and_parts}
use Rattle.c_tree.specs.declared.tree.Expr.{Expr}
use Rattle.c_tree.specs.declared.tree.Stmt.{Stmt}
use Rattle.c_tree.specs.declared.tree.Stmt.TheVariants as stmt
use Rattle.c_tree.specs.declared.tree.Stmt.TheVariants.{Empty, Scalar, Array, Assign, Call, Break, Continue, Return, If', While', Do', For', Group'}
use Rattle.c_tree.specs.declared.unit.RawBound.{RawBound}
use Rattle.c_tree.specs.declared.unit.RawStmt.{RawStmt}
use Rattle.c_tree.specs.declared.unit.RawStmt.TheVariants as raw
use Rattle.c_tree.specs.declared.unit.RawShape.TheVariants as shape
use Rattle.c_tree.specs.Checking.Naming.{Scope, is_bound, bound_number, stmt_of}
use Rattle.c_tree.specs.Keeping.WellFormed.{Context, IsLoopBound, WellFormedExpr, WellFormedStmt, WellFormedList, is_initialiser, is_step}
use Rattle.c_tree.proofs.Layers.FormedLayers.{WellFormedMaybe, formed-If, formed-While, formed-Do, formed-For, formed-Group}
use Rattle.typed_laws.specs.Shaped.{is_first, is_next}
use Rattle.typed_laws.proofs.Faultless.{HasBound}
use Rattle.plain_laws.proofs.Booleans.{if_chosen}

-- ---- bounds

pub bound_formed : (k : Option RawBound) → HasBound k → IsLoopBound (bound_number k)
bound_formed None h = absurd h
bound_formed (Some b) h =
    let both = and_parts (nat_le 1 b.value) (nat_le b.value 1048576) h in
    subst IsLoopBound (sym (if_chosen (is_bound b.value) b.value h)) (leb-true 1 b.value both.0, leb-true b.value 1048576 both.1)

-- ---- layers

pub if_formed : (c : Context) (looped : Bool) (e : Expr) (xs ys : List Stmt) → WellFormedExpr c.layout e → WellFormedList c looped xs → WellFormedList c looped ys → WellFormedStmt c looped (stmt.If e xs ys)
if_formed c looped e xs ys one two three = transport⁻¹ (formed-If c looped e xs ys) (one, (two, three))

pub while_formed : (c : Context) (looped : Bool) (k : ℕ) (e : Expr) (xs : List Stmt) → IsLoopBound k → WellFormedExpr c.layout e → WellFormedList c true xs → WellFormedStmt c looped (stmt.While k e xs)
while_formed c looped k e xs one two three = transport⁻¹ (formed-While c looped k e xs) (one, (two, three))

pub do_formed : (c : Context) (looped : Bool) (k : ℕ) (xs : List Stmt) (e : Expr) → IsLoopBound k → WellFormedList c true xs → WellFormedExpr c.layout e → WellFormedStmt c looped (stmt.Do k xs e)
do_formed c looped k xs e one two three = transport⁻¹ (formed-Do c looped k xs e) (one, (two, three))

pub for_formed : (c : Context) (looped : Bool) (k : ℕ) (a b : Option Stmt) (e : Expr) (xs : List Stmt) → IsLoopBound k → WellFormedMaybe c is_initialiser a → WellFormedExpr c.layout e → WellFormedMaybe c is_step b → WellFormedList c true xs → WellFormedStmt c looped (stmt.For k a e b xs)
for_formed c looped k a b e xs one two three four five =
    transport⁻¹ (formed-For c looped k a b e xs) (one, (two, (three, (four, five))))

pub group_formed : (c : Context) (looped : Bool) (xs : List Stmt) → WellFormedList c looped xs → WellFormedStmt c looped (stmt.Group xs)
group_formed c looped xs one = transport⁻¹ (formed-Group c looped xs) one

-- ---- the initialiser and the step of a `for`

-- a statement that may stand there is well-formed in a loop or not
pub first_any : (c : Context) (looped : Bool) (x : Stmt) → IsTrue (is_initialiser x) → WellFormedStmt c looped x → WellFormedStmt c false x
unfolding WellFormedStmt
first_any c looped (Scalar l e) is h = h
first_any c looped (Assign p op e) is h = h
first_any c looped Empty is h = absurd (cc)
first_any c looped (Array l es) is h = absurd (cc)
first_any c looped (Call t g es) is h = absurd (cc)
first_any c looped Break is h = absurd (cc)
first_any c looped Continue is h = absurd (cc)
first_any c looped (Return e) is h = absurd (cc)
first_any c looped (If' e a x b y) is h = absurd (cc)
first_any c looped (While' k e a x) is h = absurd (cc)
first_any c looped (Do' k a x e) is h = absurd (cc)
first_any c looped (For' k i e j a x) is h = absurd (cc)
first_any c looped (Group' a x) is h = absurd (cc)

pub next_any : (c : Context) (looped : Bool) (x : Stmt) → IsTrue (is_step x) → WellFormedStmt c looped x → WellFormedStmt c false x
unfolding WellFormedStmt
next_any c looped (Scalar l e) is h = absurd (cc)
next_any c looped (Assign p op e) is h = h
next_any c looped Empty is h = absurd (cc)
next_any c looped (Array l es) is h = absurd (cc)
next_any c looped (Call t g es) is h = absurd (cc)
next_any c looped Break is h = absurd (cc)
next_any c looped Continue is h = absurd (cc)
next_any c looped (Return e) is h = absurd (cc)
next_any c looped (If' e a x b y) is h = absurd (cc)
next_any c looped (While' k e a x) is h = absurd (cc)
next_any c looped (Do' k a x e) is h = absurd (cc)
next_any c looped (For' k i e j a x) is h = absurd (cc)
next_any c looped (Group' a x) is h = absurd (cc)

pub first_is : (s : Scope) (x : RawStmt) → IsTrue (is_first x) → IsTrue (is_initialiser (stmt_of s x))
unfolding stmt_of
first_is s (raw.Declare constant t x (shape.Scalar (Some e))) h = refl
first_is s (raw.Declare constant t x (shape.Scalar None)) h = absurd (cc)
first_is s (raw.Declare constant t x (shape.Array e es)) h = absurd (cc)
first_is s (raw.Assign p op e) h = refl
first_is s raw.Empty h = absurd (cc)
first_is s (raw.Call t f es) h = absurd (cc)
first_is s (raw.Break at) h = absurd (cc)
first_is s (raw.Continue at) h = absurd (cc)
first_is s (raw.Return at e) h = absurd (cc)
first_is s (raw.If' e a x b y) h = absurd (cc)
first_is s (raw.While' at k e a x) h = absurd (cc)
first_is s (raw.Do' at k a x e) h = absurd (cc)
first_is s (raw.For' at k i e j a x) h = absurd (cc)
first_is s (raw.Group' a x) h = absurd (cc)

pub next_is : (s : Scope) (x : RawStmt) → IsTrue (is_next x) → IsTrue (is_step (stmt_of s x))
unfolding stmt_of
next_is s (raw.Assign p op e) h = refl
next_is s (raw.Declare constant t x sh) h = absurd (cc)
next_is s raw.Empty h = absurd (cc)
next_is s (raw.Call t f es) h = absurd (cc)
next_is s (raw.Break at) h = absurd (cc)
next_is s (raw.Continue at) h = absurd (cc)
next_is s (raw.Return at e) h = absurd (cc)
next_is s (raw.If' e a x b y) h = absurd (cc)
next_is s (raw.While' at k e a x) h = absurd (cc)
next_is s (raw.Do' at k a x e) h = absurd (cc)
next_is s (raw.For' at k i e j a x) h = absurd (cc)
next_is s (raw.Group' a x) h = absurd (cc)
