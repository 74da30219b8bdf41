-- Each function of a shaped unit without faults is well-formed.
use Rattle.std.proofs.Common.{◌≡◌, ◌≤◌, ◌^◌, ℕ, false, List, [], ◌∷◌, ◌++◌, length, refl, sym, ap, ◌∙◌, subst}
use Rattle.c_tree.specs.declared.program.Func.{Func}
use Rattle.c_tree.specs.declared.unit.RawFunc.{RawFunc}
use Rattle.c_tree.specs.declared.unit.RawTop.{RawTop}
use Rattle.c_tree.specs.declared.unit.RawTop.TheVariants as top
use Rattle.c_tree.specs.Checking.Naming.{File, list_locals, with_func, func_scope, body_scope, behind_top, func_in_file, funcs_of, stmts_of}
use Rattle.c_tree.specs.Keeping.Layouts.{Shape, local_shapes}
use Rattle.c_tree.specs.Meaning.Spans.{func_span, spans}
use Rattle.c_tree.specs.Keeping.WellFormed.{Context, WellFormedLocals, HasParams, WellFormedList, WellFormedFunc, WellFormedFuncs}
use Rattle.c_tree.specs.Checking.Uses.{params_uses, stmts_uses, func_uses, top_uses, tops_uses}
use Rattle.c_tree.specs.Checking.Refusals.{wide_func_faults}
use Rattle.typed_laws.specs.Shaped.{ShapedList, ShapedTops}
use Rattle.typed_laws.proofs.Faultless.{AllClean, clean_parts}
use Rattle.typed_laws.proofs.Inside.{Inside}
use Rattle.typed_laws.proofs.DeclaredLocals.{params_locals, list_lengths, list_behind_locals, locals_append, params_lengths, has_params, with_params_locals, with_params_looped, params_inside}
use Rattle.typed_laws.proofs.FileScope.{AtFile, with_locals, func_stands, behind_func, behind_outer, behind_inner}
use Rattle.typed_laws.proofs.SpansOfFunctions.{own_spans, none_wide}
use Rattle.typed_laws.proofs.Formed.FormedStatements.{list_formed}
use Rattle.std.proofs.lemmas.List.{append-nil}
use Rattle.c_tree.proofs.FunctionSpans.{spans-push, wide_func_faults-Outer, wide_func_faults-Global}

-- the locals of a function: its parameters, and those of its statements
pub func_locals : (f : File) (g : RawFunc) → (func_in_file f g).locals ≡ params_locals g.params ++ list_locals g.body
func_locals f g =
    list_behind_locals (body_scope f g) g.body ∙ ap (λ ls. ls ++ list_locals g.body) (with_params_locals (func_scope f g) g.params)

pub func_params : (f : File) (g : RawFunc) → HasParams (length g.params) (func_in_file f g).locals
func_params f g =
    subst (HasParams (length g.params)) (sym (func_locals f g)) (has_params g.params (list_locals g.body))

abbrev context_of : List Shape → List Func → File → RawFunc → Context
context_of globals above f g =
    record { layout = with_locals globals (local_shapes (func_in_file f g).locals); above = above; result = g.result }

module _ (globals : List Shape) (fs : List Func) where
  func_inside : (f : File) (g : RawFunc) (before : List Shape) (above : List Func) (ts : List RawTop) → AtFile globals fs f before above (top.Func g ∷ ts) → Inside (context_of globals above f g) fs (func_scope f g) (params_locals g.params ++ list_locals g.body)
  func_inside f g before above ts h = record {
    stand = func_stands globals fs f g before above ts h (local_shapes (func_in_file f g).locals);
    func = sym h.count_funcs;
    more = funcs_of f (top.Func g ∷ ts);
    all = h.more_funcs;
    result = refl;
    rest = [];
    split = ap local_shapes (func_locals f g ∙ sym (append-nil (params_locals g.params ++ list_locals g.body)));
  }

  body_formed : (f : File) (g : RawFunc) (before : List Shape) (above : List Func) (ts : List RawTop) → AtFile globals fs f before above (top.Func g ∷ ts) → ShapedList g.body → AllClean (stmts_uses (body_scope f g) g.body)
      → WellFormedList (context_of globals above f g) false (stmts_of (body_scope f g) g.body)
  body_formed f g before above ts h shaped clean =
      let c = context_of globals above f g in
      let inner = params_inside c fs (func_scope f g) g.params (list_locals g.body) (func_inside f g before above ts h) in
      subst (λ b. WellFormedList c b (stmts_of (body_scope f g) g.body)) (with_params_looped (func_scope f g) g.params) (list_formed c fs (body_scope f g) g.body inner shaped clean)

  func_formed : (f : File) (g : RawFunc) (before : List Shape) (above : List Func) (ts : List RawTop) → AtFile globals fs f before above (top.Func g ∷ ts) → ShapedList g.body → AllClean (func_uses f g)
      → func_span (spans [] above) (func_in_file f g) ≤ 2 ^ 64 → WellFormedFunc globals above (func_in_file f g)
  func_formed f g before above ts h shaped clean narrow =
      let parts = clean_parts (params_uses (func_scope f g) g.params) (stmts_uses (body_scope f g) g.body) clean.1 in
      let lengths = locals_append (params_locals g.params) (list_locals g.body) (params_lengths g.params) (list_lengths (body_scope f g) g.body parts.1) in
      record {
        locals = subst WellFormedLocals (sym (func_locals f g)) lengths;
        params = func_params f g;
        body = body_formed f g before above ts h shaped parts.1;
        span = narrow;
      }

  pub funcs_formed : (f : File) (before : List Shape) (above : List Func) (ts : List RawTop) → AtFile globals fs f before above ts → ShapedTops ts → AllClean (tops_uses f ts) → wide_func_faults (own_spans (spans [] above) (funcs_of f ts)) ts ≡ []
      → WellFormedFuncs globals above (funcs_of f ts)
  funcs_formed f before above [] h shaped clean narrow = tt
  funcs_formed f before above (top.Outer constant t x e ∷ ts) h shaped clean narrow =
      let after = behind_top f (top.Outer constant t x e) in
      let parts = clean_parts (top_uses f (top.Outer constant t x e)) (tops_uses after ts) clean in
      let ss = own_spans (spans [] above) (funcs_of after ts) in
      funcs_formed after _ above ts (behind_outer globals fs f constant t x e before above ts h) shaped.1 parts.1 (sym (wide_func_faults-Outer ss constant t x e ts) ∙ narrow)
  funcs_formed f before above (top.Global kept constant t x sh ∷ ts) h shaped clean narrow =
      let after = behind_top f (top.Global kept constant t x sh) in
      let parts = clean_parts (top_uses f (top.Global kept constant t x sh)) (tops_uses after ts) clean in
      let ss = own_spans (spans [] above) (funcs_of after ts) in
      funcs_formed after _ above ts (behind_inner globals fs f kept constant t x sh before above ts h) shaped.1 parts.1 (sym (wide_func_faults-Global ss kept constant t x sh ts) ∙ narrow)
  funcs_formed f before above (top.Func g ∷ ts) h shaped clean narrow =
      let made = func_in_file f g in
      let after = with_func f g in
      let parts = clean_parts (func_uses f g) (tops_uses after ts) clean in
      let k : ℕ = func_span (spans [] above) made in
      let rest = none_wide k (own_spans (spans [] above ++ k ∷ []) (funcs_of after ts)) g ts narrow in
      let more = subst (λ ss. wide_func_faults (own_spans ss (funcs_of after ts)) ts ≡ []) (sym (spans-push [] above made)) rest.1 in
      (func_formed f g before above ts h shaped.0 parts.0 rest.0, funcs_formed after before (above ++ made ∷ []) ts (behind_func globals fs f g before above ts h) shaped.1 parts.1 more)
