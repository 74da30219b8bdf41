-- Statements that are spelled are read.
use Rattle.std.proofs.Common.{◌≡◌, ℕ, ◌-◌, ◌<◌, ◌≤◌, Bool, true, false, List, [], ◌∷◌, length, Some, None, Ok, refl, ◌∙◌, arith}
use Rattle.c_tree.specs.declared.unit.RawTarget.TheVariants as target
use Rattle.c_tree.specs.declared.unit.RawStmt.{RawStmt}
use Rattle.c_tree.specs.declared.unit.RawStmt.TheVariants as stmt
use Rattle.c_tree.specs.declared.symbol.Symbol.TheVariants as s
use Rattle.c_tree.specs.Grammar.Heights.{body_height}
use Rattle.c_tree.specs.Grammar.SpelledStatements.{Sort, Plain, Item, Statement, empty, assign, call, call_into, break, continue, return_nothing, return_value, if_alone, if_else, while_loop, do_loop, for_loop, compound, body, group, declare, declare_call, item, Statements, none, more}
use Rattle.c_tree.specs.Tokens.Symbols.{Lexeme, spot}
use Rattle.parse_laws.specs.Parser.{sees}
use Rattle.parse_laws.specs.ReadStmt.{until, statement}
use Rattle.parse_laws.proofs.Complete.AssignComplete.{plain_phrase-is, plain_phrase-assign}
use Rattle.parse_laws.proofs.Complete.CallComplete.{plain_phrase-call, plain_phrase-call_into, complete_declare, complete_declare_call, declaration_begins, declaration_no_brace, declared_height}
use Rattle.parse_laws.proofs.Complete.ForComplete.{complete_condition, complete_initialiser, complete_test, complete_step, complete_return_nothing, complete_return_value}
use Rattle.parse_laws.proofs.Reading.Layers.{height-Empty, height-Return, height-If, height-Group, stmt_height-pos, body_height-append}
use Rattle.parse_laws.proofs.Tokens.Starts.{statement_shorter, plain_no, plain_no_declaration, item_no}
use Rattle.parse_laws.proofs.Reading.Steps.{sees-yes, sees-no, split_at}
use Rattle.parse_laws.proofs.Reading.StmtLayers.{height-Call, height-Break, height-Continue, height-While, height-Do, height-For}
use Rattle.parse_laws.proofs.Complete.StmtSteps.{plain_phrase-empty, plain_phrase-break, plain_phrase-continue, plain_phrase-choice, other-none, other-some, plain_phrase-while, plain_phrase-do, plain_phrase-for, compound_phrase-yes, body-block, body-plain, item-group, item-declare, item-plain, until-stop, until-next}
use Rattle.parse_laws.proofs.Reading.StmtTurns.{statement-plain, statement-item, statement-body}

plain_height : {b : Bool} {ts rest : List Lexeme} {xs : List RawStmt} → Statement Plain b ts xs rest → 0 < body_height xs
plain_height (empty h) = omega (arith, stmt_height-pos stmt.Empty)
plain_height (assign {x = x} d k) = omega (arith, stmt_height-pos x)
plain_height (call {f = f} {list = list} d k) = omega (arith, height-Call target.Nothing f list)
plain_height (call_into {x = x} {f = f} {list = list} h i d k) = omega (arith, height-Call (target.Assign (spot x)) f list)
plain_height (break {t = t} h k) = omega (arith, height-Break t.at)
plain_height (continue {t = t} h k) = omega (arith, height-Continue t.at)
plain_height (return_nothing {t = t} h i) = omega (arith, height-Return t.at None)
plain_height (return_value {t = t} {a = a} h d k) = omega (arith, height-Return t.at (Some a))
plain_height (if_alone {a = a} {xs = xs} h i d k x) = omega (arith, height-If a xs [])
plain_height (if_else {a = a} {xs = xs} {ys = ys} h i d k x l y) = omega (arith, height-If a xs ys)
plain_height (while_loop {w = w} {bound = b} {a = a} {xs = xs} l h i d k x) = omega (arith, height-While w.at b a xs)
plain_height (do_loop {d = d} {bound = b} {a = a} {xs = xs} l h x i j e k m) = omega (arith, height-Do d.at b xs a)
plain_height (for_loop {f = f} {bound = b} {i = i} {j = j} {a = a} {xs = xs} l h p g c e k n r x) = omega (arith, height-For f.at b i a j xs)

-- no `else` comes between the statements of a list
statements_no_else : {ts rest : List Lexeme} {xs : List RawStmt} → Statements ts xs rest → sees s.RightBrace rest ≡ true → sees s.Else ts ≡ false
statements_no_else {rest = rest} none h = split_at s.RightBrace (λ u. sees s.RightBrace u ≡ true → sees s.Else u ≡ false) rest
    (λ t u is yes. sees-no s.Else s.RightBrace t u is refl)
    (λ unseen yes. cc)
    h
statements_no_else {ts = ts} (more x y) h = item_no s.Else refl x

mutual
  complete_statement : {o : Sort} {b : Bool} {ts rest : List Lexeme} {xs : List RawStmt} → Statement o b ts xs rest → (room : ℕ) → body_height xs ≤ room → (b ≡ true → sees s.Else rest ≡ false) → statement room o ts ≡ Ok (xs, rest)
  complete_statement (empty {t = t} {rest = rest} h) room l shut = statement-plain room _ (omega (arith, height-Empty)) ∙ plain_phrase-empty (room - 1) _ t rest h
  complete_statement (assign {x = x} d k) room l shut =
      let tall = stmt_height-pos x in
      statement-plain room _ (omega arith) ∙ plain_phrase-assign (room - 1) _ d k (omega arith)
  complete_statement (call {f = f} {list = list} d k) room l shut =
      let tall = height-Call target.Nothing f list in
      statement-plain room _ (omega arith) ∙ plain_phrase-call (room - 1) _ d k (omega arith)
  complete_statement (call_into {x = x} {f = f} {list = list} h i d k) room l shut =
      let tall = height-Call (target.Assign (spot x)) f list in
      statement-plain room _ (omega arith) ∙ plain_phrase-call_into (room - 1) _ _ _ h i d k (omega arith)
  complete_statement (break {t = t} {c = c} {rest = rest} h k) room l shut = statement-plain room _ (omega (arith, height-Break t.at)) ∙ plain_phrase-break (room - 1) _ t c rest h k
  complete_statement (continue {t = t} {c = c} {rest = rest} h k) room l shut = statement-plain room _ (omega (arith, height-Continue t.at)) ∙ plain_phrase-continue (room - 1) _ t c rest h k
  complete_statement (return_nothing {t = t} h i) room l shut =
      statement-plain room _ (omega (arith, height-Return t.at None)) ∙ plain_phrase-is (room - 1) _ s.Return t _ h ∙ complete_return_nothing (room - 1) _ _ h i
  complete_statement (return_value {t = t} {a = a} h d k) room l shut =
      let tall = height-Return t.at (Some a) in
      statement-plain room _ (omega arith) ∙ plain_phrase-is (room - 1) _ s.Return t _ h ∙ complete_return_value (room - 1) _ h d k (omega arith)
  complete_statement (if_alone {t = t} {u = u} {rest = rest} {a = a} {xs = xs} h i d k x) room l shut =
      let tall = height-If a xs [] in
      statement-plain room _ (omega arith) ∙ plain_phrase-choice (room - 1) _ t _ u rest rest a xs [] h (complete_condition (room - 1) _ i d k (omega arith))
      (complete_statement x (room - 1) (omega arith) (λ _. shut refl)) (other-none (room - 1) _ rest (shut refl))
  complete_statement (if_else {t = t} {l = e} {u = u} {v = v} {rest = rest} {a = a} {xs = xs} {ys = ys} h i d k x g y) room l shut =
      let tall = height-If a xs ys in
      statement-plain room _ (omega arith) ∙ plain_phrase-choice (room - 1) _ t _ u _ rest a xs ys h (complete_condition (room - 1) _ i d k (omega arith))
      (complete_statement x (room - 1) (omega arith) (λ n. cc)) (other-some (room - 1) _ e v rest ys g (complete_statement y (room - 1) (omega arith) shut))
  complete_statement (while_loop {w = w} {bound = b} {a = a} {xs = xs} g h i d k x) room l shut =
      let tall = height-While w.at b a xs in
      statement-plain room _ (omega arith) ∙ plain_phrase-while (room - 1) _ g h (complete_condition (room - 1) _ i d k (omega arith)) (complete_statement x (room - 1) (omega arith) shut)
  complete_statement (do_loop {d = d} {w = w} {p = p} {bound = b} {v = v} {a = a} {xs = xs} g h x i j e k m) room l shut =
      let tall = height-Do d.at b xs a in
      statement-plain room _ (omega arith) ∙ plain_phrase-do (room - 1) _ g h (complete_statement x (room - 1) (omega arith) (λ _. sees-no s.Else s.While w (p ∷ v) i refl)) i
      (complete_condition (room - 1) _ j e k (omega arith)) m
  complete_statement (for_loop {f = f} {bound = b} {i = i} {j = j} {a = a} {xs = xs} g h p y c e k n r x) room l shut =
      let tall = height-For f.at b i a j xs in
      statement-plain room _ (omega arith) ∙ plain_phrase-for (room - 1) _ g h p (complete_initialiser (room - 1) y c (omega arith)) c (complete_test (room - 1) e k (omega arith)) k
      (complete_step (room - 1) n r (omega arith)) r (complete_statement x (room - 1) (omega arith) shut)
  complete_statement (compound {t = t} {c = c} {ts = ts} {rest = rest} {xs = xs} h x k) room l shut =
      statement-body room _ ∙ body-block _ _ t ts rest xs h (compound_phrase-yes _ t c ts rest xs h (complete_statements x room (length ts) l (omega arith) (sees-yes s.RightBrace c rest k)) k)
  complete_statement (body {ts = ts} {rest = rest} {xs = xs} x) room l shut = statement-body room ts ∙ body-plain _ _ ts rest xs (plain_no s.LeftBrace refl x) (complete_statement x room l shut)
  complete_statement (group {t = t} {c = c} {ts = ts} {rest = rest} {xs = xs} h x k) room l shut =
      let tall = height-Group xs in
      statement-item room _ (omega arith) ∙ item-group (room - 1) _ _ t ts rest xs h
      (compound_phrase-yes _ t c ts rest xs h (complete_statements x (room - 1) (length ts) (omega arith) (omega arith) (sees-yes s.RightBrace c rest k)) k)
  complete_statement (declare {ts = ts} {rest = rest} {xs = xs} o y m k) room l shut =
      let tall = declared_height m in
      statement-item room ts (omega arith) ∙ item-declare (room - 1) _ _ ts rest xs (declaration_no_brace o y) (declaration_begins o y) (complete_declare (room - 1) o y m k (omega arith))
  complete_statement (declare_call {x = x} {constant = constant} {to = to} {f = f} {ts = ts} {rest = rest} {list = list} o y h i d k) room l shut =
      let tall = height-Call (target.Declare constant to (spot x)) f list in
      statement-item room ts (omega arith) ∙ item-declare (room - 1) _ _ ts rest _ (declaration_no_brace o y) (declaration_begins o y) (complete_declare_call (room - 1) o y h i d k (omega arith))
  complete_statement (item {ts = ts} {rest = rest} {xs = xs} x) room l shut =
      statement-item room ts (omega (arith, plain_height x)) ∙ item-plain (room - 1) _ _ ts rest xs (plain_no s.LeftBrace refl x) (plain_no_declaration x) (complete_statement x room l shut)

  pub complete_statements : {ts rest : List Lexeme} {xs : List RawStmt} → Statements ts xs rest → (room n : ℕ) → body_height xs ≤ room → length ts ≤ n → sees s.RightBrace rest ≡ true → until (sees s.RightBrace) (statement room Item) n ts ≡ Ok (xs, rest)
  complete_statements (none {rest = rest}) room n l w e = until-stop (sees s.RightBrace) _ n rest e
  complete_statements (more {ts = ts} {u = u} {rest = rest} {xs = xs} {ys = ys} x y) room n l w e =
      until-next (sees s.RightBrace) _ n ts u rest xs ys (omega (arith, statement_shorter x)) (item_no s.RightBrace refl x)
      (complete_statement x room (omega (arith, body_height-append xs ys)) (λ _. statements_no_else y e))
      (complete_statements y room (n - 1) (omega (arith, body_height-append xs ys)) (omega (arith, statement_shorter x)) e)
