-- Declarators, places and assignments that are read are spelled.
use Rattle.std.proofs.Common.{◌≡◌, ℕ, ◌≤◌, Bool, List, ◌∷◌, Option, Some, None, arith}
use Rattle.c_tree.specs.declared.unit.Spot.{Spot}
use Rattle.c_tree.specs.declared.unit.RawExpr.{RawExpr}
use Rattle.c_tree.specs.declared.unit.RawShape.{RawShape}
use Rattle.c_tree.specs.declared.unit.RawShape.TheVariants as shape
use Rattle.c_tree.specs.declared.symbol.Symbol.TheVariants as s
use Rattle.c_tree.specs.Grammar.Heights.{height, option_height, list_height, values_height, shape_height}
use Rattle.c_tree.specs.Grammar.SpelledExpressions.{Separated, Expression}
use Rattle.c_tree.specs.Grammar.SpelledStatements.{Optional, absent, present, Size, implied, sized, Values, values, trailing, Declarator, scalar, initialised, array, filled}
use Rattle.c_tree.specs.Tokens.Symbols.{Lexeme, spot}
use Rattle.parse_laws.specs.Parser.{sees, sees_second, optional_word, another_value, phrases}
use Rattle.parse_laws.specs.ReadExpr.{index_phrase, expr_phrase}
use Rattle.parse_laws.specs.ReadDecl.{length_phrase, values as read_values, initialiser_list as read_filled, initial_value as read_initialised, shape_phrase, declarator}
use Rattle.parse_laws.proofs.Complete.DeclComplete.{most-list}
use Rattle.parse_laws.proofs.Tokens.ExprClosed.{expr_sound}
use Rattle.parse_laws.proofs.Sound.ExprSound.{Index, brackets, IsIndex, index_read}
use Rattle.parse_laws.proofs.Reading.Phrases.{IsPhrase, ArePhrases, sound_phrases}
use Rattle.parse_laws.proofs.Reading.Steps.{Sound, bind, choose, step, weaken}
use Rattle.parse_laws.proofs.Tokens.Types.{optional_sound}

size_of : {ts rest : List Lexeme} {a : RawExpr} → Index ts a rest → Size ts (Some a) rest
size_of (brackets h d k) = sized h d k

data Initialised : List Lexeme → Option RawExpr → List Lexeme → Type 0 where
  no_value : {rest : List Lexeme} → Initialised rest None rest
  some_value : {q : Lexeme} {ts rest : List Lexeme} {a : RawExpr} → q.symbol ≡ s.Assign → Expression 0 ts a rest → Initialised (q ∷ ts) (Some a) rest

data Filled : List Lexeme → Option (List RawExpr) → List Lexeme → Type 0 where
  no_list : {rest : List Lexeme} → Filled rest None rest
  some_list : {q : Lexeme} {ts rest : List Lexeme} {list : List RawExpr} → q.symbol ≡ s.Assign → Values ts list rest → Filled (q ∷ ts) (Some list) rest

data Shaped : List Lexeme → RawShape → List Lexeme → Type 0 where
  scalar_shape : {ts rest : List Lexeme} {a : Option RawExpr} → Initialised ts a rest → Shaped ts (shape.Scalar a) rest
  array_shape : {ts u rest : List Lexeme} {n : Option RawExpr} {list : Option (List RawExpr)} → Size ts n u → Filled u list rest → Shaped ts (shape.Array n list) rest

values_of : {b d : Lexeme} {ts u rest : List Lexeme} {list : List RawExpr} {w : Bool} → b.symbol ≡ s.LeftBrace → Separated (Expression 0) ts list u → Optional s.Comma u w (d ∷ rest) → d.symbol ≡ s.RightBrace → Values (b ∷ ts) list rest
values_of h m absent k = values h m k
values_of h m (present i) k = trailing h m i k

declarator_of : {A : Type 0} (make : Spot → RawShape → A) {x : Lexeme} {ts rest : List Lexeme} {form : RawShape} → x.symbol ≡ s.Name → Shaped ts form rest → Declarator make (x ∷ ts) (make (spot x) form) rest
declarator_of make h (scalar_shape no_value) = scalar h
declarator_of make h (scalar_shape (some_value i d)) = initialised h i d
declarator_of make h (array_shape z no_list) = array h z
declarator_of make h (array_shape z (some_list i v)) = filled h z i v

module _ (room : ℕ) where
  pub index_sound : (ts : List Lexeme) → Sound (IsPhrase Index height room ts) (index_phrase (expr_phrase room) ts)
  index_sound ts = weaken (IsIndex room ts) (IsPhrase Index height room ts) (index_phrase (expr_phrase room) ts) (index_read room ts) (λ a u d. record { spells = d.spells; low = d.low })

  size_sound : (ts : List Lexeme) → Sound (IsPhrase Size option_height room ts) (length_phrase room ts)
  unfolding length_phrase
  size_sound ts = choose (Sound (IsPhrase Size option_height room ts)) (sees_second s.RightBracket ts) _ _
      (λ g. step s.LeftBracket _ _ (λ u. Unit {0}) (IsPhrase Size option_height room) ts tt
      (λ b u _ h. step s.RightBracket _ _ (λ v. Unit {0}) (λ v. IsPhrase Size option_height room (b ∷ v)) u tt
      (λ c v _ k. record { spells = implied h k; low = omega arith })))
      (λ g. bind (IsPhrase Index height room ts) (IsPhrase Size option_height room ts) (index_phrase (expr_phrase room) ts) _ (index_sound ts)
      (λ a u d. record { spells = size_of d.spells; low = d.low }))

  values_sound : (ts : List Lexeme) → Sound (IsPhrase Values list_height room ts) (read_values room ts)
  unfolding read_values
  values_sound ts = step s.LeftBrace _ _ (λ u. Unit {0}) (IsPhrase Values list_height room) ts tt
      (λ b u _ h. bind (ArePhrases (Expression 0) height room u) (IsPhrase Values list_height room (b ∷ u)) (phrases another_value (expr_phrase room 0) u) _ (sound_phrases (Expression 0) height room another_value (expr_phrase room 0) (expr_sound room) u)
      (λ list v m. bind (λ w z. Optional s.Comma v w z) (IsPhrase Values list_height room (b ∷ u)) (optional_word s.Comma v) _ (optional_sound s.Comma v)
      (λ w z o. step s.RightBrace _ _ (λ y. Optional s.Comma v w y) (λ y. IsPhrase Values list_height room (b ∷ u)) z o
      (λ d y o k. record { spells = values_of h m.spells o k; low = omega (arith, most-list list, m.low) }))))

  filled_sound : (ts : List Lexeme) → Sound (IsPhrase Filled values_height room ts) (read_filled room ts)
  unfolding read_filled
  filled_sound ts = choose (Sound (IsPhrase Filled values_height room ts)) (sees s.Assign ts) _ _
      (λ g. step s.Assign _ _ (λ u. Unit {0}) (IsPhrase Filled values_height room) ts tt
      (λ q u _ h. bind (IsPhrase Values list_height room u) (IsPhrase Filled values_height room (q ∷ u)) (read_values room u) _ (values_sound u)
      (λ list v d. record { spells = some_list h d.spells; low = d.low })))
      (λ g. record { spells = no_list; low = omega arith })

  initialised_sound : (ts : List Lexeme) → Sound (IsPhrase Initialised option_height room ts) (read_initialised room ts)
  unfolding read_initialised
  initialised_sound ts = choose (Sound (IsPhrase Initialised option_height room ts)) (sees s.Assign ts) _ _
      (λ g. step s.Assign _ _ (λ u. Unit {0}) (IsPhrase Initialised option_height room) ts tt
      (λ q u _ h. bind (IsPhrase (Expression 0) height room u) (IsPhrase Initialised option_height room (q ∷ u)) (expr_phrase room 0 u) _ (expr_sound room u)
      (λ a v d. record { spells = some_value h d.spells; low = d.low })))
      (λ g. record { spells = no_value; low = omega arith })

  shaped_sound : (ts : List Lexeme) → Sound (IsPhrase Shaped shape_height room ts) (shape_phrase room ts)
  unfolding shape_phrase
  shaped_sound ts = choose (Sound (IsPhrase Shaped shape_height room ts)) (sees s.LeftBracket ts) _ _
      (λ g. bind (IsPhrase Size option_height room ts) (IsPhrase Shaped shape_height room ts) (length_phrase room ts) _ (size_sound ts)
      (λ n u z. bind (IsPhrase Filled values_height room u) (IsPhrase Shaped shape_height room ts) (read_filled room u) _ (filled_sound u)
      (λ list v d. record { spells = array_shape z.spells d.spells; low = omega (arith, z.low, d.low) })))
      (λ g. bind (IsPhrase Initialised option_height room ts) (IsPhrase Shaped shape_height room ts) (read_initialised room ts) _ (initialised_sound ts)
      (λ a u d. record { spells = scalar_shape d.spells; low = d.low }))

  pub declarator_sound : {A : Type 0} (make : Spot → RawShape → A) (high : A → ℕ) (limit : ℕ) → ((x : Spot) (form : RawShape) → shape_height form ≤ room → high (make x form) ≤ limit)
      → (ts : List Lexeme) → Sound (IsPhrase (Declarator make) high limit ts) (declarator room make ts)
  unfolding declarator
  declarator_sound make high limit inside ts = step s.Name spot _ (λ u. Unit {0}) (IsPhrase (Declarator make) high limit) ts tt
      (λ x u _ h. bind (IsPhrase Shaped shape_height room u) (IsPhrase (Declarator make) high limit (x ∷ u)) (shape_phrase room u) _ (shaped_sound u)
      (λ form v d. record { spells = declarator_of make h d.spells; low = inside (spot x) form d.low }))
