-- Statements with bodies that are read are spelled, where their bodies are.
use Rattle.std.proofs.Common.{◌≡◌, ℕ, suc, Bool, true, false, List, [], ◌∷◌, Option, Some, Ok, refl, subst, arith}
use Rattle.c_tree.specs.declared.unit.RawBound.{RawBound}
use Rattle.c_tree.specs.declared.unit.RawExpr.{RawExpr}
use Rattle.c_tree.specs.declared.unit.RawStmt.{RawStmt}
use Rattle.c_tree.specs.declared.unit.RawStmt.TheVariants as stmt
use Rattle.c_tree.specs.declared.symbol.Symbol.{Symbol}
use Rattle.c_tree.specs.declared.symbol.Symbol.TheVariants as s
use Rattle.c_tree.specs.Grammar.Heights.{height}
use Rattle.c_tree.specs.Grammar.SpelledStatements.{LoopBound, Plain, Body, Statement, empty, break, continue, if_alone, if_else, while_loop, do_loop, for_loop}
use Rattle.c_tree.specs.Tokens.Symbols.{Lexeme}
use Rattle.parse_laws.specs.declared.head.ForHead.{ForHead}
use Rattle.parse_laws.specs.Parser.{Parser, and_then, first, sees}
use Rattle.parse_laws.specs.ReadSimple.{empty as read_empty, break_statement, continue_statement}
use Rattle.parse_laws.specs.ReadStmt.{condition, do_end, for_head, possible_bound, other, if_statement, while_loop as read_while, do_phrase as read_do, for_loop as read_for, loop_by, loop_phrase, plain_by, plain_phrase}
use Rattle.parse_laws.proofs.Sound.AssignSound.{IsStatement, assign_sound}
use Rattle.parse_laws.proofs.Sound.CallSound.{named_sound}
use Rattle.parse_laws.proofs.Sound.ForSound.{Guard, guard_of, condition_sound, returned_sound, Head, head_of, IsHead, head_sound, End, end_of, end_sound, bound_sound}
use Rattle.parse_laws.proofs.Reading.Layers.{height-Empty, height-If}
use Rattle.parse_laws.proofs.Reading.Phrases.{IsPhrase}
use Rattle.parse_laws.proofs.Reading.Steps.{Sound, bind, step, split_at, sees-yes, expect-yes}
use Rattle.parse_laws.proofs.Reading.StmtLayers.{height-Break, height-Continue, height-While, height-Do, height-For}

if_alone_of : {t : Lexeme} {o : Bool} {ts u rest : List Lexeme} {a : RawExpr} {xs : List RawStmt} → t.symbol ≡ s.If → Guard ts a u → Statement Body o u xs rest → Statement Plain true (t ∷ ts) (stmt.If a xs [] ∷ []) rest
if_alone_of h (guard_of i d k) x = if_alone h i d k x

if_else_of : {t l : Lexeme} {o : Bool} {ts u v rest : List Lexeme} {a : RawExpr} {xs ys : List RawStmt} → t.symbol ≡ s.If → Guard ts a u → Statement Body false u xs (l ∷ v) → l.symbol ≡ s.Else → Statement Body o v ys rest
    → Statement Plain o (t ∷ ts) (stmt.If a xs ys ∷ []) rest
if_else_of h (guard_of i d k) x e y = if_else h i d k x e y

while_of : {w : Lexeme} {o : Bool} {b : Option RawBound} {ts u v rest : List Lexeme} {a : RawExpr} {xs : List RawStmt} → LoopBound ts b (w ∷ u) → w.symbol ≡ s.While → Guard u a v → Statement Body o v xs rest
    → Statement Plain o ts (stmt.While w.at b a xs ∷ []) rest
while_of l h (guard_of i d k) x = while_loop l h i d k x

do_of : {d : Lexeme} {o : Bool} {b : Option RawBound} {ts u v rest : List Lexeme} {a : RawExpr} {xs : List RawStmt} → LoopBound ts b (d ∷ u) → d.symbol ≡ s.Do → Statement Body o u xs v → End v a rest
    → Statement Plain false ts (stmt.Do d.at b xs a ∷ []) rest
do_of l h x (end_of i (guard_of j d k) m) = do_loop l h x i j d k m

for_of : {f : Lexeme} {o : Bool} {b : Option RawBound} {ts u v rest : List Lexeme} {head : ForHead} {xs : List RawStmt} → LoopBound ts b (f ∷ u) → f.symbol ≡ s.For → Head u head v → Statement Body o v xs rest
    → Statement Plain o ts (stmt.For f.at b head.first head.test head.last xs ∷ []) rest
for_of l h (head_of p i c d k j r) x = for_loop l h p i c d k j r x

-- a statement before an `else` that it has left
shut_before : (o : Bool) (l : Lexeme) (v : List Lexeme) → (o ≡ true → sees s.Else (l ∷ v) ≡ false) → l.symbol ≡ s.Else → o ≡ false
shut_before true l v h i = let unseen = h refl in let seen = sees-yes s.Else l v i in cc
shut_before false l v h i = refl

module _ (j : ℕ) (inside : Parser (List RawStmt)) (read_body : (ts : List Lexeme) → Sound (IsStatement Body j ts) (inside ts)) where
  empty_sound : (ts : List Lexeme) → Sound (IsStatement Plain (suc j) ts) (read_empty ts)
  unfolding read_empty
  empty_sound ts = step s.Semicolon _ _ (λ u. Unit {0}) (IsStatement Plain (suc j)) ts tt
      (λ t u _ i. record { open_if = false; spells = empty i; low = omega (arith, height-Empty); shut = λ n. cc })

  break_sound : (ts : List Lexeme) → Sound (IsStatement Plain (suc j) ts) (break_statement ts)
  unfolding break_statement
  break_sound ts = step s.Break _ _ (λ u. Unit {0}) (IsStatement Plain (suc j)) ts tt
      (λ t u _ h. step s.Semicolon _ _ (λ v. Unit {0}) (λ v. IsStatement Plain (suc j) (t ∷ v)) u tt
      (λ c v _ k. record { open_if = false; spells = break h k; low = omega (arith, height-Break t.at); shut = λ n. cc }))

  continue_sound : (ts : List Lexeme) → Sound (IsStatement Plain (suc j) ts) (continue_statement ts)
  unfolding continue_statement
  continue_sound ts = step s.Continue _ _ (λ u. Unit {0}) (IsStatement Plain (suc j)) ts tt
      (λ t u _ h. step s.Semicolon _ _ (λ v. Unit {0}) (λ v. IsStatement Plain (suc j) (t ∷ v)) u tt
      (λ c v _ k. record { open_if = false; spells = continue h k; low = omega (arith, height-Continue t.at); shut = λ n. cc }))

  other_sound : (t : Lexeme) (ts u v : List Lexeme) (a : RawExpr) (xs : List RawStmt) → t.symbol ≡ s.If → IsPhrase Guard height j ts a u → IsStatement Body j u xs v
      → Sound (IsStatement Plain (suc j) (t ∷ ts)) (and_then (other j inside v) (λ ys w. Ok (stmt.If a xs ys ∷ [], w)))
  unfolding other
  other_sound t ts u v a xs i q b = split_at s.Else (λ z. IsStatement Body j u xs z → Sound (IsStatement Plain (suc j) (t ∷ ts)) (and_then (other j inside z) (λ ys w. Ok (stmt.If a xs ys ∷ [], w)))) v
      (λ l w il c.
      let shut : c.open_if ≡ false = shut_before c.open_if l w c.shut il in
      let x = subst (λ (o : Bool). Statement Body o u xs (l ∷ w)) shut c.spells in
      rw (sees-yes s.Else l w il, expect-yes s.Else l w il)
      (bind (IsStatement Body j w) (IsStatement Plain (suc j) (t ∷ ts)) (inside w) _ (read_body w)
      (λ ys z d. record { open_if = d.open_if; spells = if_else_of i q.spells x il d.spells; low = omega (arith, height-If a xs ys, q.low, c.low, d.low); shut = d.shut })))
      (λ unseen c. rw unseen (record { open_if = true; spells = if_alone_of i q.spells c.spells; low = omega (arith, height-If a xs [], q.low, c.low); shut = λ n. unseen }))
      b

  choice_sound : (ts : List Lexeme) → Sound (IsStatement Plain (suc j) ts) (if_statement j inside ts)
  unfolding if_statement
  choice_sound ts = step s.If _ _ (λ u. Unit {0}) (IsStatement Plain (suc j)) ts tt
      (λ t u _ i. bind (IsPhrase Guard height j u) (IsStatement Plain (suc j) (t ∷ u)) (condition j u) _ (condition_sound j u)
      (λ a v q. bind (IsStatement Body j v) (IsStatement Plain (suc j) (t ∷ u)) (inside v) _ (read_body v)
      (λ xs w b. other_sound t u v w a xs i q b)))

  -- ---- loops

  module _ (ts : List Lexeme) (b : Option RawBound) where
    while_sound : (v : List Lexeme) → LoopBound ts b v → Sound (IsStatement Plain (suc j) ts) (read_while j inside b v)
    unfolding read_while
    while_sound v l = step s.While _ _ (λ u. LoopBound ts b u) (λ u. IsStatement Plain (suc j) ts) v l
        (λ w u l h. bind (IsPhrase Guard height j u) (IsStatement Plain (suc j) ts) (condition j u) _ (condition_sound j u)
        (λ a z g. bind (IsStatement Body j z) (IsStatement Plain (suc j) ts) (inside z) _ (read_body z)
        (λ xs y x. record { open_if = x.open_if; spells = while_of l h g.spells x.spells; low = omega (arith, height-While w.at b a xs, g.low, x.low); shut = x.shut })))

    do_sound : (v : List Lexeme) → LoopBound ts b v → Sound (IsStatement Plain (suc j) ts) (read_do j inside b v)
    unfolding read_do
    do_sound v l = step s.Do _ _ (λ u. LoopBound ts b u) (λ u. IsStatement Plain (suc j) ts) v l
        (λ d u l h. bind (IsStatement Body j u) (IsStatement Plain (suc j) ts) (inside u) _ (read_body u)
        (λ xs z x. bind (IsPhrase End height j z) (IsStatement Plain (suc j) ts) (do_end j z) _ (end_sound j z)
        (λ a y g. record { open_if = false; spells = do_of l h x.spells g.spells; low = omega (arith, height-Do d.at b xs a, g.low, x.low); shut = λ n. cc })))

    for_sound : (v : List Lexeme) → LoopBound ts b v → Sound (IsStatement Plain (suc j) ts) (read_for j inside b v)
    unfolding read_for
    for_sound v l = step s.For _ _ (λ u. LoopBound ts b u) (λ u. IsStatement Plain (suc j) ts) v l
        (λ f u l hf. bind (IsHead j u) (IsStatement Plain (suc j) ts) (for_head j u) _ (head_sound j u)
        (λ head g y. bind (IsStatement Body j g) (IsStatement Plain (suc j) ts) (inside g) _ (read_body g)
        (λ xs last x. record { open_if = x.open_if; spells = for_of l hf y.spells x.spells; low = omega (arith, height-For f.at b head.first head.test head.last xs, y.low_first, y.low_test, y.low_last, x.low); shut = x.shut })))

    loop_by_sound : (x : Option Symbol) (v : List Lexeme) → LoopBound ts b v → Sound (IsStatement Plain (suc j) ts) (loop_by j inside b x v)
    loop_by_sound (Some s.While) v l = while_sound v l
    loop_by_sound (Some s.Do) v l = do_sound v l
    loop_by_sound (Some s.For) v l = for_sound v l
    loop_by_sound _ v l = tt

  looped_sound : (ts : List Lexeme) → Sound (IsStatement Plain (suc j) ts) (loop_phrase j inside ts)
  unfolding loop_phrase
  looped_sound ts = bind (λ b u. LoopBound ts b u) (IsStatement Plain (suc j) ts) (possible_bound ts) _ (bound_sound ts) (λ b u l. loop_by_sound ts b (first u) u l)

  plain_by_sound : (x : Option Symbol) (ts : List Lexeme) → Sound (IsStatement Plain (suc j) ts) (plain_by j inside x ts)
  plain_by_sound (Some s.Semicolon) ts = empty_sound ts
  plain_by_sound (Some s.Name) ts = named_sound j ts
  plain_by_sound (Some (s.Step o)) ts = assign_sound j ts
  plain_by_sound (Some s.Break) ts = break_sound ts
  plain_by_sound (Some s.Continue) ts = continue_sound ts
  plain_by_sound (Some s.Return) ts = returned_sound j ts
  plain_by_sound (Some s.If) ts = choice_sound ts
  plain_by_sound (Some s.Bound) ts = looped_sound ts
  plain_by_sound (Some s.While) ts = looped_sound ts
  plain_by_sound (Some s.Do) ts = looped_sound ts
  plain_by_sound (Some s.For) ts = looped_sound ts
  plain_by_sound _ ts = tt

  pub plain_sound : (ts : List Lexeme) → Sound (IsStatement Plain (suc j) ts) (plain_phrase j inside ts)
  unfolding plain_phrase
  plain_sound ts = plain_by_sound (first ts) ts
