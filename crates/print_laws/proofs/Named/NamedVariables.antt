-- A variable that is there in the layout of a function has an identifier for its name.
use Rattle.std.proofs.Common.{◌≡◌, ℕ, zero, suc, List, [], ◌∷◌, Option, Some, None, refl, sym, subst}
use Rattle.std.specs.Prelude.{IsTrue, slice_get}
use Rattle.c_tree.specs.declared.tree.Var.{Var}
use Rattle.c_tree.specs.declared.tree.Var.TheVariants as var
use Rattle.c_tree.specs.declared.program.Local.{Local}
use Rattle.c_tree.specs.declared.program.Global.{Global}
use Rattle.c_tree.specs.declared.program.Func.{Func}
use Rattle.c_tree.specs.declared.program.Program.{Program}
use Rattle.c_tree.specs.Keeping.Layouts.{Shape, Layout, shape_of, local_shapes, global_shapes, shape, is_scalar, is_array}
use Rattle.c_tree.specs.Keeping.WellFormed.{IsLength, WellFormedLocals}
use Rattle.print_laws.specs.PrintedExpressions.{local_name, global_name, name_text}
use Rattle.print_laws.proofs.Composing.ComposedExpressions.{IsIdentifier}
use Rattle.print_laws.proofs.Named.Showable.{AreNamed}
use Rattle.print_laws.proofs.Named.NamedPrograms.{AreNamedGlobals}

-- a local of this shape is there, with an identifier for its name
pub record IsLocalOf (ls : List Local) (n : ℕ) (x : Shape) : Type 0 where
  pub local : Local
  pub there : slice_get ls n ≡ Some local
  pub named : IsIdentifier local.name
  pub fits : IsLength local.length
  pub shaped : shape_of local.ty local.length ≡ x

-- a local that has a shape
pub local_there : (ls : List Local) (n : ℕ) (x : Shape) → AreNamed ls → WellFormedLocals ls → slice_get (local_shapes ls) n ≡ Some x → IsLocalOf ls n x
local_there [] n x names formed is = absurd (cc)
local_there (l ∷ ls) zero x names formed is =
    record { local = l; there = refl; named = names.0; fits = formed.0; shaped = cc }
local_there (l ∷ ls) (suc n) x names formed is =
    let rest = local_there ls n x names.1 formed.1 is in
    record { local = rest.local; there = rest.there; named = rest.named; fits = rest.fits; shaped = rest.shaped }

-- a global that has a shape has an identifier for its name
global_named : (gs : List Global) (n : ℕ) (x : Shape) → AreNamedGlobals gs → slice_get (global_shapes gs) n ≡ Some x → IsIdentifier (global_name (slice_get gs n))
global_named [] n x names is = absurd (cc)
global_named (g ∷ gs) zero x names is = names.0
global_named (g ∷ gs) (suc n) x names is = global_named gs n x names.1 is

-- where a function of a program has identifiers for its names
pub record Stands (p : Program) (f : Func) : Type 0 where
  pub globals : AreNamedGlobals p.globals
  pub locals : AreNamed f.locals
  pub formed : WellFormedLocals f.locals

-- what the variables of a function of a program are
abbrev pub layout_of : Program → Func → Layout
layout_of p f = record { locals = local_shapes f.locals; globals = global_shapes p.globals }

module _ (p : Program) (f : Func) (at : Stands p f) where
  variable_named : (v : Var) (x : Shape) → shape (layout_of p f) v ≡ Some x → IsIdentifier (name_text p f v)
  unfolding name_text
  variable_named (var.Local n) x is =
      let l = local_there f.locals n x at.locals at.formed is in
      subst (λ (o : Option Local). IsIdentifier (local_name o)) (sym l.there) l.named
  variable_named (var.Global n) x is = global_named p.globals n x at.globals is

  is_there : (o : Option Shape) (v : Var) → shape (layout_of p f) v ≡ o → IsTrue (is_scalar o) → IsIdentifier (name_text p f v)
  is_there None v is h = absurd (cc)
  is_there (Some x) v is h = variable_named v x is

  is_array_there : (o : Option Shape) (v : Var) → shape (layout_of p f) v ≡ o → IsTrue (is_array o) → IsIdentifier (name_text p f v)
  is_array_there None v is h = absurd (cc)
  is_array_there (Some x) v is h = variable_named v x is

  pub scalar_named : (v : Var) → IsTrue (is_scalar (shape (layout_of p f) v)) → IsIdentifier (name_text p f v)
  scalar_named v h = is_there (shape (layout_of p f) v) v refl h

  pub array_named : (v : Var) → IsTrue (is_array (shape (layout_of p f) v)) → IsIdentifier (name_text p f v)
  array_named v h = is_array_there (shape (layout_of p f) v) v refl h
