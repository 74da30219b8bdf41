-- Scales and spans: how often the blocks of a function can be entered while the bounds are kept. This project's own.
use Rattle.std.specs.Prelude.{ℕ, ◌+◌, ◌*◌, List, [], ◌∷◌, ◌++◌, Bool, true, false, slice_get, unwrap_or}
use Rattle.c_tree.specs.declared.tree.Stmt.{Stmt, Row_of-Stmt, end_of-Stmt, more_of-Stmt, Held-Stmt-For-1, None', Some'}
use Rattle.c_tree.specs.declared.tree.Stmt.TheVariants.{
  Empty,
  Scalar,
  Array,
  Assign,
  Call,
  Break,
  Continue,
  Return,
  If',
  While',
  Do',
  For',
  Group',
}
use Rattle.c_tree.specs.declared.program.Func.{Func}
use Rattle.c_tree.specs.Meaning.Blocks.{is_simple}

-- ---- scales

-- the scale of the block that a simple statement begins, if none stands before it in its run
abbrev pub begun_scale : ℕ → Bool → List ℕ
begun_scale scale true = []
begun_scale scale false = scale ∷ []

unfoldable mutual
  -- the scales of the blocks of a statement, in their order, where the statement itself has the scale `scale`. In a
  -- loop the initialiser has `scale`, the condition of `while` and `for` has `scale * (bound + 1)`, and the step, the
  -- body and the condition of `do` have `scale * bound`
  pub scales : ℕ → Stmt → Bool → List ℕ
  scales scale Empty goes_on = begun_scale scale goes_on
  scales scale (Scalar l e) goes_on = begun_scale scale goes_on
  scales scale (Array l es) goes_on = begun_scale scale goes_on
  scales scale (Assign p op e) goes_on = begun_scale scale goes_on
  scales scale (Call t f es) goes_on = scale ∷ []
  scales scale Break goes_on = scale ∷ []
  scales scale Continue goes_on = scale ∷ []
  scales scale (Return e) goes_on = scale ∷ []
  scales scale (If' e _ x _ y) goes_on = scale ∷ (row_scales scale x false ++ row_scales scale y false)
  scales scale (While' bound e _ x) goes_on = scale * (bound + 1) ∷ row_scales (scale * bound) x false
  scales scale (Do' bound _ x e) goes_on = row_scales (scale * bound) x false ++ (scale * bound ∷ [])
  scales scale (For' bound i e j _ x) goes_on =
      held_scales scale i ++ (scale * (bound + 1) ∷ (held_scales (scale * bound) j ++ row_scales (scale * bound) x
      false))
  scales scale (Group' _ x) goes_on = row_scales scale x false

  pub row_scales : {m : _} → ℕ → Row_of-Stmt m → Bool → List ℕ
  row_scales scale end_of-Stmt goes_on = []
  row_scales scale (more_of-Stmt s rest) goes_on = scales scale s goes_on ++ row_scales scale rest (is_simple s)

  pub held_scales : ℕ → Held-Stmt-For-1 → List ℕ
  held_scales scale None' = []
  held_scales scale (Some' _ x) = row_scales scale x false

-- of a list of statements
abbrev pub list_scales : ℕ → List Stmt → Bool → List ℕ
list_scales scale [] goes_on = []
list_scales scale (s ∷ rest) goes_on = scales scale s goes_on ++ list_scales scale rest (is_simple s)

-- ---- spans

-- the span of a function above, by the spans of those above
abbrev pub span_at : List ℕ → ℕ → ℕ
span_at spans g = unwrap_or (slice_get spans g) 0

abbrev pub begun_span : ℕ → Bool → ℕ
begun_span scale true = 0
begun_span scale false = scale

unfoldable mutual
  -- the scales of the blocks of a statement, and for each call its scale times the callee's span
  pub span : List ℕ → ℕ → Stmt → Bool → ℕ
  span ss scale Empty goes_on = begun_span scale goes_on
  span ss scale (Scalar l e) goes_on = begun_span scale goes_on
  span ss scale (Array l es) goes_on = begun_span scale goes_on
  span ss scale (Assign p op e) goes_on = begun_span scale goes_on
  span ss scale (Call t g es) goes_on = scale + scale * span_at ss g
  span ss scale Break goes_on = scale
  span ss scale Continue goes_on = scale
  span ss scale (Return e) goes_on = scale
  span ss scale (If' e _ x _ y) goes_on = scale + row_span ss scale x false + row_span ss scale y false
  span ss scale (While' bound e _ x) goes_on = scale * (bound + 1) + row_span ss (scale * bound) x false
  span ss scale (Do' bound _ x e) goes_on = row_span ss (scale * bound) x false + scale * bound
  span ss scale (For' bound i e j _ x) goes_on =
      held_span ss scale i + scale * (bound + 1) + held_span ss (scale * bound) j + row_span ss (scale * bound) x false
  span ss scale (Group' _ x) goes_on = row_span ss scale x false

  pub row_span : {m : _} → List ℕ → ℕ → Row_of-Stmt m → Bool → ℕ
  row_span ss scale end_of-Stmt goes_on = 0
  row_span ss scale (more_of-Stmt s rest) goes_on = span ss scale s goes_on + row_span ss scale rest (is_simple s)

  pub held_span : List ℕ → ℕ → Held-Stmt-For-1 → ℕ
  held_span ss scale None' = 0
  held_span ss scale (Some' _ x) = row_span ss scale x false

-- of a list of statements
abbrev pub list_span : List ℕ → ℕ → List Stmt → Bool → ℕ
list_span ss scale [] goes_on = 0
list_span ss scale (s ∷ rest) goes_on = span ss scale s goes_on + list_span ss scale rest (is_simple s)

-- the span of a function, whose outermost list has the scale 1
abbrev pub func_span : List ℕ → Func → ℕ
func_span ss f = list_span ss 1 f.body false

-- of each function, over those above it
abbrev pub spans : List ℕ → List Func → List ℕ
spans ss [] = ss
spans ss (f ∷ fs) = spans (ss ++ func_span ss f ∷ []) fs
