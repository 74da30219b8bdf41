-- A function of a printed text is the function of the program, and no fault stands in it.
use Rattle.std.proofs.Common.{◌≡◌, ℕ, false, List, [], ◌∷◌, ◌++◌, length, take, map, None, refl, sym, ap, ◌∙◌, subst, arith, append_assoc, append-nil}
use Rattle.std.proofs.lemmas.List.{map-append}
use Rattle.c_tree.specs.declared.tree.Var.TheVariants.{Local, Global}
use Rattle.c_tree.specs.declared.program.Local.{Local as Declared}
use Rattle.c_tree.specs.declared.program.Global.{Global as Outside}
use Rattle.c_tree.specs.declared.program.Func.{Func}
use Rattle.c_tree.specs.declared.program.Program.{Program}
use Rattle.c_tree.specs.declared.unit.RawFunc.{RawFunc}
use Rattle.c_tree.specs.declared.unit.RawParam.{RawParam}
use Rattle.c_tree.specs.declared.unit.RawTop.{RawTop}
use Rattle.c_tree.specs.declared.unit.RawTop.TheVariants as top
use Rattle.c_tree.specs.Checking.Scopes.{Entity, Variable, Function, Known, is_known_at}
use Rattle.c_tree.specs.Checking.Naming.{File, Scope, local_of, scope_with_local, list_locals, with_func, with_params, func_scope, body_scope, func_in_file}
use Rattle.c_tree.specs.Checking.Uses.{Declared as DeclaredUse, declared_at, params_uses, stmts_uses, func_uses}
use Rattle.c_tree.specs.Checking.Refusals.{faults_of}
use Rattle.typed_laws.proofs.DeclaredLocals.{params_locals}
use Rattle.typed_laws.proofs.Formed.FormedFunctions.{func_locals}
use Rattle.print_laws.specs.PrintedExpressions.{global_name, name_text}
use Rattle.print_laws.specs.PrintedStatements.{func_name}
use Rattle.print_laws.specs.Shown.{local_of_param, ShowsFunc}
use Rattle.print_laws.proofs.Again.Scoped.{Follows, entity_name, AreNames, AreAgain}
use Rattle.print_laws.proofs.Again.FaultlessUses.{AreFaultless, faultless_parts, faultless_both, faultless_first, faultless_more}
use Rattle.print_laws.proofs.Again.ScopesAgain.{declared_follows}
use Rattle.print_laws.proofs.Named.NamedScopes.{IsNamed, declared_named}
use Rattle.print_laws.proofs.Again.DeclaredAgain.{declared_once}
use Rattle.print_laws.proofs.Again.BodiesAgain.{body_again}
use Rattle.print_laws.proofs.AtFileScope.DifferentNames.{IsNew, AreDifferent, new_at_seam}
use Rattle.print_laws.proofs.AtFileScope.KnownNames.{AllKnown, entity_is, shallow_unknown, new_unknown}
use Rattle.print_laws.proofs.AtFileScope.FilesAgain.{global_names, func_names, program_names, IsOf, IsKnownOf, sees_again}
use Rattle.print_laws.proofs.AtFileScope.PrintedKnown.{funcs_known, file_known, printed_known, printed_of, printed_has, printed_shallow, names_of_file, funcs_at, file_at}
use Rattle.print_laws.proofs.AtFileScope.FileWalks.{IsTextAt, IsPrintedAt, printed_func, func_known_at, func_shallow}

-- ---- parameters

-- the scopes behind the same parameters
pub record AreParamsAgain (s t : Scope) (ps qs : List RawParam) : Type 0 where
  pub follows : Follows (with_params s ps) (with_params t qs)
  pub faultless : AreFaultless (params_uses t qs)

params_again : (s t : Scope) (ps qs : List RawParam) → map local_of_param qs ≡ params_locals ps → Follows s t → AreFaultless (params_uses s ps) → AreParamsAgain s t ps qs
params_again s t [] [] same h clean = record { follows = h; faultless = refl }
params_again s t [] (q ∷ qs) same h clean = absurd (cc)
params_again s t (p ∷ ps) [] same h clean = absurd (cc)
params_again s t (p ∷ ps) (q ∷ qs) same h clean =
    let first : local_of q.ty q.spot.name None ≡ local_of p.ty p.spot.name None = cc in
    let others : map local_of_param qs ≡ params_locals ps = cc in
    let named : q.spot.name ≡ p.spot.name = ap (λ (l : Declared). l.name) first in
    let behind = scope_with_local s false p.ty p.spot.name None in
    let again = scope_with_local t false q.ty q.spot.name None in
    let parts = faultless_first (declared_at s.known s.depth p.spot) (params_uses behind ps) clean in
    let rest = params_again behind again ps qs others (declared_follows s t false p.ty q.ty p.spot.name q.spot.name None None first h) parts.1 in
    record {
      follows = rest.follows;
      faultless = faultless_more (declared_at t.known t.depth q.spot) (params_uses again qs) (declared_once s t p.spot q.spot h named parts.0) rest.faultless;
    }

params_named : (p : Program) (f : Func) (s : Scope) (ps : List RawParam) (ms : List Declared) → IsNamed p f s (params_locals ps ++ ms) → IsNamed p f (with_params s ps) ms
params_named p f s [] ms h = h
params_named p f s (q ∷ ps) ms h =
    params_named p f (scope_with_local s false q.ty q.spot.name None) ps ms (declared_named p f s false q.ty q.spot.name None (params_locals ps ++ ms) h)

take_params : (ps : List RawParam) (ms : List Declared) → take (length ps) (params_locals ps ++ ms) ≡ params_locals ps
take_params [] ms = refl
take_params (p ∷ ps) ms = ap (λ ls. local_of p.ty p.spot.name None ∷ ls) (take_params ps ms)

-- the parameters of the program's function are those of the text's
shown_params : (p : Program) (fu : File) (g h : RawFunc) → ShowsFunc p h (func_in_file fu g) → map local_of_param h.params ≡ params_locals g.params
shown_params p fu g h shows =
    shows.params ∙ ap (take (length g.params)) (func_locals fu g) ∙ take_params g.params (list_locals g.body)

-- ---- names

named_of : (p : Program) (f : Func) (name : List ℕ) (e : Entity) → IsOf p name e → entity_name p f e ≡ name
unfolding name_text func_name
named_of p f name (Variable (Local n) a c) h = absurd h
named_of p f name (Variable (Global n) a c) h = ap global_name h.there ∙ h.named
named_of p f name (Function n c r) h = ap func_name h.there ∙ h.named

names_of_known : (p : Program) (f : Func) (ks : List Known) → AllKnown (IsKnownOf p) ks → AreNames p f ks
names_of_known p f ks all name e found =
    let known = entity_is (IsKnownOf p) ks name e all found in
    let k : Known = known.0 in
    ap (entity_name p f) (sym known.1.1) ∙ named_of p f k.name k.entity known.1.0.0 ∙ known.1.0.1

-- a function's name is new behind the globals and the functions above it
func_new : (p : Program) (fv : File) (above more : List Func) (g : Func) → AreDifferent (program_names p) → IsPrintedAt p fv above (g ∷ more) → is_known_at fv.known 1 g.name ≡ false
func_new p fv above more g different at =
    let gs = global_names p.globals in
    let names : program_names p ≡ (gs ++ func_names above) ++ g.name ∷ func_names more = ap (λ l. gs ++ func_names l) at.more_funcs ∙ ap (λ l. gs ++ l) (map-append (λ (f : Func). f.name) above (g ∷ more)) ∙ sym (append_assoc gs (func_names above) (g.name ∷ func_names more)) in
    let new : IsNew g.name (gs ++ func_names above) = new_at_seam g.name (gs ++ func_names above) (func_names more) (subst AreDifferent names different) in
    ap (λ ks. is_known_at ks 1 g.name) at.known
    ∙ new_unknown (funcs_known 0 0 p.funcs) (file_known p above) g.name (funcs_at 0 0 p.funcs) (file_at p above) (subst (IsNew g.name) (sym (names_of_file p above)) new)

-- ---- a function

-- of a text, and of its printed text
pub record AreAt (p : Program) (fu fv : File) (g h : RawFunc) : Type 0 where
  pub before : List Outside
  pub above : List Func
  pub ts : List RawTop
  pub more : List Func
  pub text : IsTextAt p fu before above (top.Func g ∷ ts)
  pub printed : IsPrintedAt p fv above (func_in_file fu g ∷ more)
  pub shows : ShowsFunc p h (func_in_file fu g)

module _ (p : Program) (different : AreDifferent (program_names p)) where
  scope_follows : (fu fv : File) (g h : RawFunc) → AreAt p fu fv g h → Follows (func_scope fu g) (func_scope fv h)
  scope_follows fu fv g h at =
      let ks = (with_func fu g).known in
      let above : List Func = at.above ++ func_in_file fu g ∷ [] in
      let printed = printed_func p fv h (func_in_file fu g) at.above at.more at.shows at.printed in
      let known = func_known_at p fu g at.before at.above at.ts at.text in
      let low = func_shallow p fu g at.text.shallow in
      subst (λ ls. Follows (func_scope fu g) (record { known = ls; depth = 2; locals = []; func = fv.funcs; result = h.result; looped = false })) (sym printed.known) (record {
        sees = sees_again p ks (printed_known p above) different known (printed_of p above at.more printed.more_funcs) (printed_has p above);
        alike = λ depth name deep. shallow_unknown (printed_known p above) depth name deep (printed_shallow p above) ∙ sym (shallow_unknown ks depth name deep low);
        inner = omega arith;
        depth = refl;
        locals = refl;
        func = sym at.printed.count_funcs ∙ at.text.count_funcs;
        result = at.shows.result;
        looped = refl;
      })

  scope_named : (fu fv : File) (g h : RawFunc) → AreAt p fu fv g h → IsNamed p (func_in_file fu g) (func_scope fu g) (params_locals g.params ++ list_locals g.body)
  scope_named fu fv g h at = record {
    names = names_of_known p (func_in_file fu g) (with_func fu g).known (func_known_at p fu g at.before at.above at.ts at.text);
    rest = [];
    split = func_locals fu g ∙ sym (append-nil (params_locals g.params ++ list_locals g.body));
  }

  -- its body
  module _ (fu fv : File) (g h : RawFunc) (at : AreAt p fu fv g h) (clean : AreFaultless (func_uses fu g)) where
    inside : AreFaultless (params_uses (func_scope fu g) g.params ++ stmts_uses (body_scope fu g) g.body)
    inside =
        (faultless_first (declared_at fu.known 1 g.spot) (params_uses (func_scope fu g) g.params ++ stmts_uses (body_scope fu g) g.body) clean).1

    parts : AreFaultless (params_uses (func_scope fu g) g.params) × AreFaultless (stmts_uses (body_scope fu g) g.body)
    parts = faultless_parts (params_uses (func_scope fu g) g.params) (stmts_uses (body_scope fu g) g.body) inside

    params : AreParamsAgain (func_scope fu g) (func_scope fv h) g.params h.params
    params =
        params_again (func_scope fu g) (func_scope fv h) g.params h.params (shown_params p fu g h at.shows) (scope_follows fu fv g h at) parts.0

    body : AreAgain (body_scope fu g) (body_scope fv h) g.body h.body
    body =
        let named = params_named p (func_in_file fu g) (func_scope fu g) g.params (list_locals g.body) (scope_named fu fv g h at) in
        body_again p (func_in_file fu g) (body_scope fu g) (body_scope fv h) g.body h.body params.follows named.names refl parts.1 at.shows.body

    pub func_again : func_in_file fv h ≡ func_in_file fu g
    func_again =
        (λ i. record { name = at.shows.named i; result = at.shows.result i; params = at.shows.count i; locals = body.locals i; body = body.stmts i })

    pub func_faultless : AreFaultless (func_uses fv h)
    func_faultless =
        let new : is_known_at fv.known 1 h.spot.name ≡ false = ap (is_known_at fv.known 1) at.shows.named ∙ func_new p fv at.above at.more (func_in_file fu g) different at.printed in
        faultless_more (declared_at fv.known 1 h.spot) (params_uses (func_scope fv h) h.params ++ stmts_uses (body_scope fv h) h.body) (ap (λ b. faults_of (DeclaredUse h.spot.at b)) new)
        (faultless_both (params_uses (func_scope fv h) h.params) (stmts_uses (body_scope fv h) h.body) params.faultless body.faultless)
