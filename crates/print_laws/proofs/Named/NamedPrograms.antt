-- The names of a program that is typed from a unit of a text are identifiers.
use Rattle.std.proofs.Common.{List, [], ◌∷◌, sym, subst}
use Rattle.c_tree.specs.declared.program.Func.{Func}
use Rattle.c_tree.specs.declared.program.Global.{Global}
use Rattle.c_tree.specs.declared.unit.RawFunc.{RawFunc}
use Rattle.c_tree.specs.declared.unit.RawTop.{RawTop}
use Rattle.c_tree.specs.declared.unit.RawTop.TheVariants as top
use Rattle.c_tree.specs.Checking.Naming.{File, list_locals, with_func, behind_top, func_in_file, funcs_of, globals_of}
use Rattle.typed_laws.proofs.DeclaredLocals.{params_locals}
use Rattle.typed_laws.proofs.Formed.FormedFunctions.{func_locals}
use Rattle.print_laws.proofs.Composing.ComposedExpressions.{IsIdentifier}
use Rattle.print_laws.proofs.Named.Showable.{AreNamed}
use Rattle.print_laws.proofs.Named.NamedStatements.{named_append}
use Rattle.print_laws.proofs.Named.NamedUnits.{IsNamedFunc, AreNamedTops}

-- the names of globals are identifiers
abbrev pub AreNamedGlobals : List Global → Type 0
AreNamedGlobals [] = Unit {0}
AreNamedGlobals (g ∷ gs) = IsIdentifier g.name × AreNamedGlobals gs

-- of a function, and of its parameters and other locals too
pub record HasNames (f : Func) : Type 0 where
  pub name : IsIdentifier f.name
  pub locals : AreNamed f.locals

-- the same of functions
abbrev pub HaveNames : List Func → Type 0
HaveNames [] = Unit {0}
HaveNames (f ∷ fs) = HasNames f × HaveNames fs

pub globals_identified : (ts : List RawTop) → AreNamedTops ts → AreNamedGlobals (globals_of ts)
globals_identified [] h = tt
globals_identified (top.Outer constant t x e ∷ ts) h = (h.0, globals_identified ts h.1)
globals_identified (top.Global kept constant t x sh ∷ ts) h = (h.0, globals_identified ts h.1)
globals_identified (top.Func g ∷ ts) h = globals_identified ts h.1

func_identified : (f : File) (g : RawFunc) → IsNamedFunc g → HasNames (func_in_file f g)
func_identified f g h = record {
  name = h.name;
  locals = subst AreNamed (sym (func_locals f g)) (named_append (params_locals g.params) (list_locals g.body) h.params h.locals);
}

pub funcs_identified : (f : File) (ts : List RawTop) → AreNamedTops ts → HaveNames (funcs_of f ts)
funcs_identified f [] h = tt
funcs_identified f (top.Outer constant t x e ∷ ts) h =
    funcs_identified (behind_top f (top.Outer constant t x e)) ts h.1
funcs_identified f (top.Global kept constant t x sh ∷ ts) h =
    funcs_identified (behind_top f (top.Global kept constant t x sh)) ts h.1
funcs_identified f (top.Func g ∷ ts) h = (func_identified f g h.0, funcs_identified (with_func f g) ts h.1)
