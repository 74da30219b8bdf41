-- What is read is spelled, what is spelled is read, and there is one tree.
use Rattle.std.proofs.Common.{◌≡◌, ◌≢◌, ℕ, max, ◌≤◌, List, [], Ok, Err, refl, sym, ap, subst, ◌∙◌, arith}
use Rattle.c_tree.specs.declared.token.Token.{Token}
use Rattle.c_tree.specs.declared.unit.RawTop.{RawTop}
use Rattle.c_tree.specs.declared.unit.Unit.{Unit as Tree}
use Rattle.c_tree.specs.Grammar.Heights.{tops_height, unit_height}
use Rattle.c_tree.specs.Grammar.Spelling.{Tops, Spells}
use Rattle.c_tree.specs.Tokens.Symbols.{Lexeme, lexemes}
use Rattle.parse_laws.specs.declared.fault.ReadingFault.{ReadingFault}
use Rattle.parse_laws.specs.declared.fault.ReadingFault.TheVariants.{NoMemory, Syntax, Depth}
use Rattle.parse_laws.specs.Trees.{tree_of}
use Rattle.parse_laws.specs.Parser.{Outcome}
use Rattle.parse_laws.specs.ReadUnit.{whole_unit}
use Rattle.parse_laws.proofs.Reading.Phrases.{IsPhrase}
use Rattle.parse_laws.proofs.Reading.Steps.{Sound}
use Rattle.parse_laws.proofs.Complete.TopsComplete.{complete_whole}
use Rattle.parse_laws.proofs.Sound.UnitSound.{whole_sound}

same_tops : (xs ys : List RawTop) (rest : List Lexeme) (outcome : Outcome (List RawTop)) → outcome ≡ Ok (xs, []) → outcome ≡ Ok (ys, rest) → xs ≡ ys
same_tops xs ys rest outcome h i =
    let pair : List RawTop × List Lexeme = (xs, []) in
    let other : List RawTop × List Lexeme = (ys, rest) in
    let same : pair ≡ other = cc in ap (λ (p : List RawTop × List Lexeme). p.0) same

-- a tree that is spelled is that of its declarations
is_tree : (text : List ℕ) (tokens : List Token) (unit : Tree) → Spells text tokens unit → unit ≡ tree_of text unit.tops
is_tree text tokens unit x = ap (λ (n : ℕ). let tree : Tree = record { tops = unit.tops; end = n } in tree) x.ends

pub unique : (text : List ℕ) (tokens : List Token) (a b : Tree) → Spells text tokens a → Spells text tokens b → a ≡ b
unique text tokens a b x y =
    let room = max (tops_height a.tops) (tops_height b.tops) in
    let same = same_tops a.tops b.tops [] (whole_unit room (lexemes text tokens)) (complete_whole x.tops room (omega arith)) (complete_whole y.tops room (omega arith)) in
    is_tree text tokens a x ∙ ap (tree_of text) same ∙ sym (is_tree text tokens b y)

are_tops : (text : List ℕ) (tokens : List Token) (room : ℕ) (xs : List RawTop) (rest : List Lexeme) → whole_unit room (lexemes text tokens) ≡ Ok (xs, rest) → IsPhrase Tops tops_height room (lexemes text tokens) xs []
are_tops text tokens room xs rest h = subst (Sound (λ ys u. IsPhrase Tops tops_height room (lexemes text tokens) ys [])) h (whole_sound room (lexemes text tokens))

tree_spelled : (text : List ℕ) (tokens : List Token) (xs : List RawTop) → Tops (lexemes text tokens) xs [] → Spells text tokens (tree_of text xs)
tree_spelled text tokens xs d = record { tops = d; ends = refl }

pub spelled : (text : List ℕ) (tokens : List Token) (room : ℕ) (xs : List RawTop) (rest : List Lexeme) → whole_unit room (lexemes text tokens) ≡ Ok (xs, rest) → Spells text tokens (tree_of text xs)
spelled text tokens room xs rest h = tree_spelled text tokens xs (are_tops text tokens room xs rest h).spells

pub low : (text : List ℕ) (tokens : List Token) (room : ℕ) (xs : List RawTop) (rest : List Lexeme) → whole_unit room (lexemes text tokens) ≡ Ok (xs, rest) → unit_height (tree_of text xs) ≤ room
low text tokens room xs rest h = (are_tops text tokens room xs rest h).low

pub complete : (text : List ℕ) (tokens : List Token) (room : ℕ) (unit : Tree) → Spells text tokens unit → unit_height unit ≤ room → whole_unit room (lexemes text tokens) ≡ Ok (unit.tops, [])
complete text tokens room unit x h = complete_whole x.tops room h

-- what is read is the tree that is spelled
pub only : (text : List ℕ) (tokens : List Token) (room : ℕ) (xs : List RawTop) (rest : List Lexeme) (unit : Tree) → whole_unit room (lexemes text tokens) ≡ Ok (xs, rest)
    → Spells text tokens unit → unit_height unit ≤ room → tree_of text xs ≡ unit
only text tokens room xs rest unit h x low_unit =
    ap (tree_of text) (sym (same_tops unit.tops xs rest (whole_unit room (lexemes text tokens)) (complete text tokens room unit x low_unit) h)) ∙ sym (is_tree text tokens unit x)

-- where a tree that is low enough is spelled, memory alone may be wanting
pub memory : (text : List ℕ) (tokens : List Token) (room : ℕ) (fault : ReadingFault) (unit : Tree) → (fault ≢ NoMemory → whole_unit room (lexemes text tokens) ≡ Err fault) → Spells text tokens unit → unit_height unit ≤ room → fault ≡ NoMemory
memory text tokens room NoMemory unit h x low_unit = refl
memory text tokens room (Syntax left) unit h x low_unit = let read = complete text tokens room unit x low_unit in let fault = h (λ n. cc) in cc
memory text tokens room (Depth left) unit h x low_unit = let read = complete text tokens room unit x low_unit in let fault = h (λ n. cc) in cc
