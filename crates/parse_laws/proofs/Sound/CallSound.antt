-- Calls and declarations that are read are spelled.
use Rattle.std.proofs.Common.{◌≡◌, ℕ, suc, Bool, false, List, [], ◌∷◌, arith}
use Rattle.c_tree.specs.declared.tree.Ty.{Ty}
use Rattle.c_tree.specs.declared.unit.Spot.{Spot}
use Rattle.c_tree.specs.declared.unit.RawExpr.{RawExpr}
use Rattle.c_tree.specs.declared.unit.RawTarget.{RawTarget}
use Rattle.c_tree.specs.declared.unit.RawTarget.TheVariants as target
use Rattle.c_tree.specs.declared.unit.RawStmt.{RawStmt}
use Rattle.c_tree.specs.declared.unit.RawStmt.TheVariants as stmt
use Rattle.c_tree.specs.declared.symbol.Symbol.TheVariants as s
use Rattle.c_tree.specs.Grammar.Heights.{height, list_height, stmt_height, body_height}
use Rattle.c_tree.specs.Grammar.SpelledExpressions.{Separated, TypeName, Expression}
use Rattle.c_tree.specs.Grammar.SpelledStatements.{Optional, Declarator, Called, without_arguments, with_arguments, Plain, Item, Statement, call, call_into, declare, declare_call}
use Rattle.c_tree.specs.Tokens.Symbols.{Lexeme, spot}
use Rattle.parse_laws.specs.Parser.{optional_word, type_name, another, phrases}
use Rattle.parse_laws.specs.ReadExpr.{expr_phrase}
use Rattle.parse_laws.specs.ReadDecl.{declarator, local_declarator, declarators, declaration_phrase}
use Rattle.parse_laws.specs.ReadSimple.{begins_call, begins_call_into, argument_list, call_phrase, call_into as read_call_into, call_or_assignment}
use Rattle.parse_laws.proofs.Sound.AssignSound.{IsStatement, assign_sound}
use Rattle.parse_laws.proofs.Complete.CallComplete.{most-body}
use Rattle.parse_laws.proofs.Complete.DeclComplete.{most-list}
use Rattle.parse_laws.proofs.Sound.DeclSound.{declarator_sound}
use Rattle.parse_laws.proofs.Tokens.ExprClosed.{expr_sound}
use Rattle.parse_laws.proofs.Reading.Layers.{height-Declare}
use Rattle.parse_laws.proofs.Reading.Phrases.{IsPhrase, ArePhrases, sound_phrases}
use Rattle.parse_laws.proofs.Reading.Steps.{Sound, bind, choose, step, split_at, sees-yes, weaken}
use Rattle.parse_laws.proofs.Reading.StmtLayers.{height-Call}
use Rattle.parse_laws.proofs.Tokens.Types.{type_sound, optional_sound}

-- ---- calls

data Arguments : List Lexeme → List RawExpr → List Lexeme → Type 0 where
  no_arguments : {t : Lexeme} {rest : List Lexeme} → t.symbol ≡ s.RightParen → Arguments (t ∷ rest) [] (t ∷ rest)
  some_arguments : {ts rest : List Lexeme} {list : List RawExpr} → Separated (Expression 0) ts list rest → Arguments ts list rest

called_of : {f p c : Lexeme} {ts rest : List Lexeme} {list : List RawExpr} → f.symbol ≡ s.Name → p.symbol ≡ s.LeftParen → Arguments ts list (c ∷ rest) → c.symbol ≡ s.RightParen → Called (f ∷ p ∷ ts) (spot f) list rest
called_of h i (no_arguments k) l = without_arguments h i k
called_of h i (some_arguments m) k = with_arguments h i m k

-- a call with its semicolon
data CallTo (to : RawTarget) : List Lexeme → List RawStmt → List Lexeme → Type 0 where
  call_to : {d : Lexeme} {f : Spot} {ts rest : List Lexeme} {list : List RawExpr} → Called ts f list (d ∷ rest) → d.symbol ≡ s.Semicolon → CallTo to ts (stmt.Call to f list ∷ []) rest

-- and with the name that its result goes to
data CallInto (to : Spot → RawTarget) : List Lexeme → List RawStmt → List Lexeme → Type 0 where
  into : {x q : Lexeme} {ts rest : List Lexeme} {xs : List RawStmt} → x.symbol ≡ s.Name → q.symbol ≡ s.Assign → CallTo (to (spot x)) ts xs rest → CallInto to (x ∷ q ∷ ts) xs rest

call_of : {ts rest : List Lexeme} {xs : List RawStmt} → CallTo target.Nothing ts xs rest → Statement Plain false ts xs rest
call_of (call_to d k) = call d k

call_into_of : {ts rest : List Lexeme} {xs : List RawStmt} → CallInto target.Assign ts xs rest → Statement Plain false ts xs rest
call_into_of (into h i (call_to d k)) = call_into h i d k

declare_call_of : {constant : Bool} {to : Ty} {ts u v rest : List Lexeme} {xs : List RawStmt} → Optional s.Const ts constant u → TypeName u to v → CallInto (target.Declare constant to) v xs rest → Statement Item false ts xs rest
declare_call_of o y (into h i (call_to d k)) = declare_call o y h i d k

module _ (room : ℕ) where
  arguments_sound : (ts : List Lexeme) → Sound (IsPhrase Arguments list_height room ts) (argument_list room ts)
  unfolding argument_list
  arguments_sound ts = split_at s.RightParen (λ u. Sound (IsPhrase Arguments list_height room u) (argument_list room u)) ts
      (λ t u is. rw (sees-yes s.RightParen t u is) (record { spells = no_arguments is; low = omega arith }))
      (λ none. rw none (weaken (ArePhrases (Expression 0) height room ts) (IsPhrase Arguments list_height room ts) (phrases another (expr_phrase room 0) ts) (sound_phrases (Expression 0) height room another (expr_phrase room 0) (expr_sound room) ts)
      (λ list u m. record { spells = some_arguments m.spells; low = omega (arith, most-list list, m.low) })))

  called_sound : (to : RawTarget) (ts : List Lexeme) → Sound (IsPhrase (CallTo to) body_height (suc room) ts) (call_phrase room to ts)
  unfolding call_phrase
  called_sound to ts = step s.Name spot _ (λ u. Unit {0}) (IsPhrase (CallTo to) body_height (suc room)) ts tt
      (λ f u _ h. step s.LeftParen _ _ (λ v. Unit {0}) (λ v. IsPhrase (CallTo to) body_height (suc room) (f ∷ v)) u tt
      (λ p v _ i. bind (IsPhrase Arguments list_height room v) (IsPhrase (CallTo to) body_height (suc room) (f ∷ p ∷ v)) (argument_list room v) _ (arguments_sound v)
      (λ list w a. step s.RightParen _ _ (λ z. Arguments v list z) (λ z. IsPhrase (CallTo to) body_height (suc room) (f ∷ p ∷ v)) w a.spells
      (λ c z a2 k. step s.Semicolon _ _ (λ y. Called (f ∷ p ∷ v) (spot f) list y) (λ y. IsPhrase (CallTo to) body_height (suc room) (f ∷ p ∷ v)) z (called_of h i a2 k)
      (λ d y e l. record { spells = call_to e l; low = omega (arith, height-Call to (spot f) list, a.low) })))))

  call_into_sound : (to : Spot → RawTarget) (ts : List Lexeme) → Sound (IsPhrase (CallInto to) body_height (suc room) ts) (read_call_into room to ts)
  unfolding read_call_into
  call_into_sound to ts = step s.Name spot _ (λ u. Unit {0}) (IsPhrase (CallInto to) body_height (suc room)) ts tt
      (λ x u _ h. step s.Assign _ _ (λ v. Unit {0}) (λ v. IsPhrase (CallInto to) body_height (suc room) (x ∷ v)) u tt
      (λ q v _ i. weaken (IsPhrase (CallTo (to (spot x))) body_height (suc room) v) (IsPhrase (CallInto to) body_height (suc room) (x ∷ q ∷ v)) (call_phrase room (to (spot x)) v) (called_sound (to (spot x)) v)
      (λ xs w d. record { spells = into h i d.spells; low = d.low })))

  pub named_sound : (ts : List Lexeme) → Sound (IsStatement Plain (suc room) ts) (call_or_assignment room ts)
  unfolding call_or_assignment
  named_sound ts = choose (Sound (IsStatement Plain (suc room) ts)) (begins_call ts) _ _
      (λ g. weaken (IsPhrase (CallTo target.Nothing) body_height (suc room) ts) (IsStatement Plain (suc room) ts) (call_phrase room target.Nothing ts) (called_sound target.Nothing ts)
      (λ xs u d. record { open_if = false; spells = call_of d.spells; low = d.low; shut = λ n. cc }))
      (λ g. choose (Sound (IsStatement Plain (suc room) ts)) (begins_call_into ts) _ _
      (λ f. weaken (IsPhrase (CallInto target.Assign) body_height (suc room) ts) (IsStatement Plain (suc room) ts) (read_call_into room target.Assign ts) (call_into_sound target.Assign ts)
      (λ xs u d. record { open_if = false; spells = call_into_of d.spells; low = d.low; shut = λ n. cc }))
      (λ f. assign_sound room ts))

  -- ---- declarations

  declarators_sound : (constant : Bool) (to : Ty) (ts u v : List Lexeme) → Optional s.Const ts constant u → TypeName u to v → Sound (IsStatement Item (suc room) ts) (declarators room constant to v)
  unfolding declarators local_declarator
  declarators_sound constant to ts u v o y =
      bind (ArePhrases (Declarator (stmt.Declare constant to)) stmt_height (suc room) v) (IsStatement Item (suc room) ts) (phrases another (declarator room (stmt.Declare constant to)) v) _
      (sound_phrases (Declarator (stmt.Declare constant to)) stmt_height (suc room) another (declarator room (stmt.Declare constant to))
      (declarator_sound room (stmt.Declare constant to) stmt_height (suc room) (λ x form l. omega (arith, height-Declare constant to x form))) v)
      (λ xs w m. step s.Semicolon _ _ (λ z. Separated (Declarator (stmt.Declare constant to)) v xs z) (λ z. IsStatement Item (suc room) ts) w m.spells
      (λ c z e k. record { open_if = false; spells = declare o y e k; low = omega (arith, most-body xs, m.low); shut = λ n. cc }))

  pub declaration_sound : (ts : List Lexeme) → Sound (IsStatement Item (suc room) ts) (declaration_phrase room ts)
  unfolding declaration_phrase
  declaration_sound ts = bind (λ b u. Optional s.Const ts b u) (IsStatement Item (suc room) ts) (optional_word s.Const ts) _ (optional_sound s.Const ts)
      (λ constant u o. bind (λ to v. TypeName u to v) (IsStatement Item (suc room) ts) (type_name u) _ (type_sound u)
      (λ to v y. choose (Sound (IsStatement Item (suc room) ts)) (begins_call_into v) _ _
      (λ g. weaken (IsPhrase (CallInto (target.Declare constant to)) body_height (suc room) v) (IsStatement Item (suc room) ts) (read_call_into room (target.Declare constant to) v) (call_into_sound (target.Declare constant to) v)
      (λ xs w d. record { open_if = false; spells = declare_call_of o y d.spells; low = d.low; shut = λ n. cc }))
      (λ g. declarators_sound constant to ts u v o y)))
