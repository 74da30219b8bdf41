-- Declarations and functions at file scope that are read are spelled.
use Rattle.std.proofs.Common.{◌≡◌, ℕ, zero, suc, max, Bool, true, false, List, [], ◌∷◌, ◌++◌, length, Option, Some, None, arith}
use Rattle.c_tree.specs.declared.tree.Ty.{Ty}
use Rattle.c_tree.specs.declared.unit.RawExpr.{RawExpr}
use Rattle.c_tree.specs.declared.unit.RawParam.{RawParam}
use Rattle.c_tree.specs.declared.unit.RawStmt.{RawStmt}
use Rattle.c_tree.specs.declared.unit.RawTop.{RawTop}
use Rattle.c_tree.specs.declared.unit.RawTop.TheVariants as top
use Rattle.c_tree.specs.declared.symbol.Symbol.TheVariants as s
use Rattle.c_tree.specs.Grammar.Heights.{height, body_height, top_height, tops_height}
use Rattle.c_tree.specs.Grammar.SpelledExpressions.{Separated, TypeName}
use Rattle.c_tree.specs.Grammar.SpelledStatements.{Optional, absent, present, Declarator, Item}
use Rattle.c_tree.specs.Grammar.Spelling.{OuterDeclarator, outer_scalar, outer_array, Result, typed, nothing, Param, param, Params, no_params, void, params, Top, outer, global, function, Tops, none, more}
use Rattle.c_tree.specs.Tokens.Symbols.{Lexeme, spot}
use Rattle.parse_laws.specs.Parser.{sees, optional_word, type_name, another, phrases}
use Rattle.parse_laws.specs.ReadExpr.{index_phrase, expr_phrase}
use Rattle.parse_laws.specs.ReadDecl.{declarator}
use Rattle.parse_laws.specs.ReadSimple.{begins_call}
use Rattle.parse_laws.specs.ReadStmt.{until, compound_phrase, statement}
use Rattle.parse_laws.specs.ReadUnit.{param as read_param, params as read_params, outer_declarator, outers, global as read_global, globals, function as read_function, variables_or_function, after_static, top_of, is_end, unit_end, whole_unit}
use Rattle.parse_laws.proofs.Sound.DeclSound.{index_sound, declarator_sound}
use Rattle.parse_laws.proofs.Sound.ExprSound.{Index, brackets}
use Rattle.parse_laws.proofs.Reading.Lists.{phrases_sound}
use Rattle.parse_laws.proofs.Reading.Phrases.{IsPhrase, ArePhrases, sound_phrases}
use Rattle.parse_laws.proofs.Reading.Steps.{Sound, bind, choose, step, weaken}
use Rattle.parse_laws.proofs.Sound.StmtSound.{Block, block_of, block_read}
use Rattle.parse_laws.proofs.Tokens.Types.{type_sound, optional_sound}
use Rattle.parse_laws.proofs.Complete.UnitComplete.{most-tops}

-- ---- parameters

param_sound : (ts : List Lexeme) → Sound (λ p u. Param ts p u) (read_param ts)
unfolding read_param
param_sound ts = bind (λ to u. TypeName ts to u) (λ p u. Param ts p u) (type_name ts) _ (type_sound ts)
    (λ to u y. step s.Name spot _ (λ v. TypeName ts to v) (λ v p w. Param ts p w) u y (λ x v y i. param y i))

params_sound : (ts : List Lexeme) → Sound (λ ps u. Params ts ps u) (read_params ts)
unfolding read_params
params_sound ts = choose (Sound (λ ps u. Params ts ps u)) (sees s.RightParen ts) _ _
    (λ h. no_params)
    (λ h. choose (Sound (λ ps u. Params ts ps u)) (sees s.Void ts) _ _
    (λ g. step s.Void _ _ (λ u. Unit {0}) (λ u ps v. Params u ps v) ts tt (λ t u _ i. void i))
    (λ g. weaken (λ ps u. Separated Param ts ps u) (λ ps u. Params ts ps u) (phrases another read_param ts) (phrases_sound Param another read_param param_sound ts) (λ ps u m. params m)))

-- ---- declarations

outer_of : {constant : Bool} {to : Ty} {x : Lexeme} {ts rest : List Lexeme} {a : RawExpr} → x.symbol ≡ s.Name → Index ts a rest → OuterDeclarator constant to (x ∷ ts) (top.Outer constant to (spot x) (Some a)) rest
outer_of h (brackets i d k) = outer_array h i d k

function_of : {x p c : Lexeme} {kept : Bool} {result : Option Ty} {ts u v w rest : List Lexeme} {list : List RawParam} {xs : List RawStmt} → Optional s.Static ts kept u → Result u result (x ∷ p ∷ v) → x.symbol ≡ s.Name → p.symbol ≡ s.LeftParen
    → Params v list (c ∷ w) → c.symbol ≡ s.RightParen → Block w xs rest → Top ts (top.Func (record { kept = kept; result = result; spot = spot x; params = list; body = xs }) ∷ []) rest
function_of o r h i ps k (block_of l m z) = function o r h i ps k l m z

pub tops_height-append : (xs ys : List RawTop) → tops_height (xs ++ ys) ≡ max (tops_height xs) (tops_height ys)
tops_height-append [] ys = omega arith
tops_height-append (x ∷ xs) ys = omega (arith, tops_height-append xs ys)

module _ (room : ℕ) where
  outer_sound : (constant : Bool) (to : Ty) (ts : List Lexeme) → Sound (IsPhrase (OuterDeclarator constant to) top_height room ts) (outer_declarator room constant to ts)
  unfolding outer_declarator
  outer_sound constant to ts = step s.Name spot _ (λ u. Unit {0}) (IsPhrase (OuterDeclarator constant to) top_height room) ts tt
      (λ x u _ h. choose (Sound (IsPhrase (OuterDeclarator constant to) top_height room (x ∷ u))) (sees s.LeftBracket u) _ _
      (λ g. bind (IsPhrase Index height room u) (IsPhrase (OuterDeclarator constant to) top_height room (x ∷ u)) (index_phrase (expr_phrase room) u) _ (index_sound room u)
      (λ a v d. record { spells = outer_of h d.spells; low = d.low }))
      (λ g. record { spells = outer_scalar h; low = omega arith }))

  outers_sound : (ts : List Lexeme) → Sound (IsPhrase Top tops_height room ts) (outers room ts)
  unfolding outers
  outers_sound ts = step s.Extern _ _ (λ u. Unit {0}) (IsPhrase Top tops_height room) ts tt
      (λ t u _ h. bind (λ b v. Optional s.Const u b v) (IsPhrase Top tops_height room (t ∷ u)) (optional_word s.Const u) _ (optional_sound s.Const u)
      (λ constant v o. bind (λ to w. TypeName v to w) (IsPhrase Top tops_height room (t ∷ u)) (type_name v) _ (type_sound v)
      (λ to w y. bind (ArePhrases (OuterDeclarator constant to) top_height room w) (IsPhrase Top tops_height room (t ∷ u)) (phrases another (outer_declarator room constant to) w) _
      (sound_phrases (OuterDeclarator constant to) top_height room another (outer_declarator room constant to) (outer_sound constant to) w)
      (λ xs z m. step s.Semicolon _ _ (λ r. Separated (OuterDeclarator constant to) w xs r) (λ r. IsPhrase Top tops_height room (t ∷ u)) z m.spells
      (λ c r e k. record { spells = outer h o y e k; low = omega (arith, most-tops xs, m.low) })))))

  globals_sound : (kept constant : Bool) (to : Ty) (ts u v w : List Lexeme) → Optional s.Static ts kept u → Optional s.Const u constant v → TypeName v to w → Sound (IsPhrase Top tops_height room ts) (globals room kept constant to w)
  unfolding globals read_global
  globals_sound kept constant to ts u v w o q y =
      bind (ArePhrases (Declarator (top.Global kept constant to)) top_height room w) (IsPhrase Top tops_height room ts) (phrases another (declarator room (top.Global kept constant to)) w) _
      (sound_phrases (Declarator (top.Global kept constant to)) top_height room another (declarator room (top.Global kept constant to)) (declarator_sound room (top.Global kept constant to) top_height room (λ x form l. l)) w)
      (λ xs z m. step s.Semicolon _ _ (λ r. Separated (Declarator (top.Global kept constant to)) w xs r) (λ r. IsPhrase Top tops_height room ts) z m.spells
      (λ c r e k. record { spells = global o q y e k; low = omega (arith, most-tops xs, m.low) }))

  -- ---- functions

  function_sound : (kept : Bool) (result : Option Ty) (ts u w : List Lexeme) → Optional s.Static ts kept u → Result u result w → Sound (IsPhrase Top tops_height room ts) (read_function room kept result w)
  unfolding read_function
  function_sound kept result ts u w o r = step s.Name spot _ (λ v. Result u result v) (λ v. IsPhrase Top tops_height room ts) w r
      (λ x v r h. step s.LeftParen _ _ (λ z. Result u result (x ∷ z)) (λ z. IsPhrase Top tops_height room ts) v r
      (λ p z r i. bind (λ ps y. Params z ps y) (IsPhrase Top tops_height room ts) (read_params z) _ (params_sound z)
      (λ ps y d. step s.RightParen _ _ (λ q. Params z ps q) (λ q. IsPhrase Top tops_height room ts) y d
      (λ c q d k. bind (IsPhrase Block body_height room q) (IsPhrase Top tops_height room ts) (compound_phrase (statement room Item) q) _ (block_read room q)
      (λ xs l b. record { spells = function_of o r h i d k b.spells; low = omega (arith, b.low) })))))

  variables_or_function_sound : (kept : Bool) (ts u : List Lexeme) → Optional s.Static ts kept u → Sound (IsPhrase Top tops_height room ts) (variables_or_function room kept u)
  unfolding variables_or_function
  variables_or_function_sound kept ts u o = bind (λ to w. TypeName u to w) (IsPhrase Top tops_height room ts) (type_name u) _ (type_sound u)
      (λ to w y. choose (Sound (IsPhrase Top tops_height room ts)) (begins_call w) _ _
      (λ g. function_sound kept (Some to) ts u w o (typed y))
      (λ g. globals_sound kept false to ts u u w o absent y))

  after_static_sound : (kept : Bool) (ts u : List Lexeme) → Optional s.Static ts kept u → Sound (IsPhrase Top tops_height room ts) (after_static room kept u)
  unfolding after_static
  after_static_sound kept ts u o = choose (Sound (IsPhrase Top tops_height room ts)) (sees s.Const u) _ _
      (λ g. step s.Const _ _ (λ v. Optional s.Static ts kept v) (λ v. IsPhrase Top tops_height room ts) u o
      (λ t v o h. bind (λ to w. TypeName v to w) (IsPhrase Top tops_height room ts) (type_name v) _ (type_sound v)
      (λ to w y. globals_sound kept true to ts (t ∷ v) v w o (present h) y)))
      (λ g. choose (Sound (IsPhrase Top tops_height room ts)) (sees s.Void u) _ _
      (λ f. step s.Void _ _ (λ v. Optional s.Static ts kept v) (λ v. IsPhrase Top tops_height room ts) u o
      (λ t v o h. function_sound kept None ts (t ∷ v) v o (nothing h)))
      (λ f. variables_or_function_sound kept ts u o))

  top_sound : (ts : List Lexeme) → Sound (IsPhrase Top tops_height room ts) (top_of room ts)
  unfolding top_of
  top_sound ts = choose (Sound (IsPhrase Top tops_height room ts)) (sees s.Extern ts) _ _
      (λ g. outers_sound ts)
      (λ g. bind (λ b u. Optional s.Static ts b u) (IsPhrase Top tops_height room ts) (optional_word s.Static ts) _ (optional_sound s.Static ts) (λ kept u o. after_static_sound kept ts u o))

  -- ---- all tokens

  tops_sound : (n : ℕ) (ts : List Lexeme) → Sound (IsPhrase Tops tops_height room ts) (until is_end (top_of room) n ts)
  unfolding until
  tops_sound zero ts = record { spells = none; low = omega arith }
  tops_sound (suc n) ts = choose (Sound (IsPhrase Tops tops_height room ts)) (is_end ts) _ _
      (λ h. record { spells = none; low = omega arith })
      (λ h. bind (IsPhrase Top tops_height room ts) (IsPhrase Tops tops_height room ts) (top_of room ts) _ (top_sound ts)
      (λ xs u b. bind (IsPhrase Tops tops_height room u) (IsPhrase Tops tops_height room ts) (until is_end (top_of room) n u) _ (tops_sound n u)
      (λ ys v m. record { spells = more b.spells m.spells; low = omega (arith, tops_height-append xs ys, b.low, m.low) })))

  finished_sound : (ts u : List Lexeme) (xs : List RawTop) → IsPhrase Tops tops_height room ts xs u → Sound (λ ys v. IsPhrase Tops tops_height room ts ys []) (unit_end xs u)
  unfolding unit_end is_end
  finished_sound ts [] xs d = d
  finished_sound ts (t ∷ u) xs d = tt

  pub whole_sound : (ts : List Lexeme) → Sound (λ xs u. IsPhrase Tops tops_height room ts xs []) (whole_unit room ts)
  unfolding whole_unit
  whole_sound ts = bind (IsPhrase Tops tops_height room ts) (λ xs u. IsPhrase Tops tops_height room ts xs []) (until is_end (top_of room) (length ts) ts) unit_end (tops_sound (length ts) ts) (λ xs u d. finished_sound ts u xs d)
