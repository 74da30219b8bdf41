-- Trees that are made one after the other, of the pieces that are listed for each function.
use Rattle.std.proofs.Common.{◌≡◌, ◌≤◌, ◌<◌, ℕ, zero, suc, ◌+◌, Bool, true, false, if◌then◌else◌, List, [], ◌∷◌, ◌++◌, take, length, get_or, Some, refl, sym, ap, ◌∙◌, subst, arith, length-append}
use Rattle.std.specs.Prelude.{slice_get, unwrap_or}
use Rattle.std.proofs.lemmas.List.{take_more, take_all}
use Rattle.std.proofs.lemmas.Option.{slice_get_past}
use Rattle.c_tree.specs.declared.program.Costs.{Costs}
use Rattle.c_tree.specs.declared.program.Func.{Func}
use Rattle.c_tree.specs.declared.program.Program.{Program}
use Rattle.c_tree.specs.declared.tree.Stmt.{Stmt}
use Rattle.ipet_peak.specs.declared.tree.Tree.{Tree}
use Rattle.ipet_peak.specs.declared.pieces.Piece.{Piece}
use Rattle.ipet_peak.specs.declared.pieces.Piece.TheVariants as piece
use Rattle.peak_laws.specs.Parts.{Part, Nothing, Block, Then, Choice, While, Do, Body}
use Rattle.peak_laws.specs.Magnitudes.{cap_cost}
use Rattle.peak_laws.specs.ProgramParts.{is_nothing, sequence, list_part, costs_in, func_part, function_parts, entry_part}
use Rattle.ipet_peak.specs.Pieces.{last_part, earlier_parts, part_at, stack_after_piece, stack_after, parts_with, parts_made, MakeOneEach, stack_cost, parts_above}
use Rattle.ipet_peak.specs.Trees.{part_of, KeepsWays, IsTreeOf, stack_onto, parts_of, EachKeepsWays, Makes}
use Rattle.ipet_peak.proofs.PartLayers.{stack_after_append}
use Rattle.ipet_peak.proofs.PartSteps.{parts_length}

-- ---- the tree that was made last

onto_push : (ts : List Tree) (t : Tree) (ps : List Part) → stack_onto (ts ++ t ∷ []) ps ≡ part_of t ∷ stack_onto ts ps
onto_push [] t ps = refl
onto_push (x ∷ ts) t ps = onto_push ts t (part_of x ∷ ps)

each_push : (ts : List Tree) (t : Tree) → EachKeepsWays ts → KeepsWays t → EachKeepsWays (ts ++ t ∷ [])
each_push [] t h k = (k, tt)
each_push (x ∷ ts) t h k = (h.0, each_push ts t h.1 k)

each_pop : (ts : List Tree) (t : Tree) → EachKeepsWays (ts ++ t ∷ []) → EachKeepsWays ts × KeepsWays t
each_pop [] t h = (tt, h.0)
each_pop (x ∷ ts) t h = ((h.0, (each_pop ts t h.1).0), (each_pop ts t h.1).1)

pub last_is : (old new : List Tree) (t : Tree) → old ≡ new ++ t ∷ [] → EachKeepsWays old → IsTreeOf t (last_part (parts_of old))
last_is old new t is h =
    record {
      part = sym (ap (λ ts. last_part (stack_onto ts [])) is ∙ ap last_part (onto_push new t []));
      keeps = (each_pop new t (subst EachKeepsWays is h)).1;
    }

pub before_is : (old new : List Tree) (t : Tree) → old ≡ new ++ t ∷ [] → parts_of new ≡ earlier_parts (parts_of old)
before_is old new t is = sym (ap (λ ts. earlier_parts (stack_onto ts [])) is ∙ ap earlier_parts (onto_push new t []))

pub before_keep : (old new : List Tree) (t : Tree) → old ≡ new ++ t ∷ [] → EachKeepsWays old → EachKeepsWays new
before_keep old new t is h = (each_pop new t (subst EachKeepsWays is h)).0

-- a tree that is made of those that were made last
pub makes_of : (t : Tree) (left : List Tree) (p : Part) (ps qs : List Part) → IsTreeOf t p → parts_of left ≡ ps → EachKeepsWays left → p ∷ ps ≡ qs → Makes t left qs
makes_of t left p ps qs is before kept same =
    record { parts = (λ i. is.part i ∷ before i) ∙ same; made = is.keeps; others = kept }

-- ---- what the caps allow for a stack grows with each piece

empty_cost : (p : Part) → is_nothing p ≡ true → cap_cost p ≡ 0
empty_cost Nothing h = refl
empty_cost (Block c l) h = absurd (cc)
empty_cost (Then p q) h = absurd (cc)
empty_cost (Choice c p q) h = absurd (cc)
empty_cost (While c m s p) h = absurd (cc)
empty_cost (Do c m p) h = absurd (cc)
empty_cost (Body p) h = absurd (cc)

pub sequence_cost : (p q : Part) → cap_cost (sequence p q) ≡ cap_cost p + cap_cost q
sequence_cost p q = by_cases (is_nothing p) (is_nothing q) refl refl
  where
    by_cases : (b c : Bool) → is_nothing p ≡ b → is_nothing q ≡ c → cap_cost (if b then q else (if c then p else Then p q)) ≡ cap_cost p + cap_cost q
    by_cases true c h k = omega (arith, empty_cost p h)
    by_cases false true h k = omega (arith, empty_cost q k)
    by_cases false false h k = omega arith

last_cost : (ps : List Part) → cap_cost (last_part ps) + stack_cost (earlier_parts ps) ≡ stack_cost ps
last_cost [] = omega arith
last_cost (p ∷ ps) = omega arith

piece_grows : (qs : List Part) (x : Piece) (ps : List Part) → stack_cost ps ≤ stack_cost (stack_after_piece qs x ps)
piece_grows qs piece.Nothing ps = omega arith
piece_grows qs (piece.Block c l) ps = omega arith
piece_grows qs piece.Join ps =
    omega (arith, last_cost ps, last_cost (earlier_parts ps), sequence_cost (last_part ps) (last_part (earlier_parts ps)))
piece_grows qs (piece.Choice c) ps = omega (arith, last_cost ps, last_cost (earlier_parts ps))
piece_grows qs (piece.While c m s) ps = omega (arith, last_cost ps)
piece_grows qs (piece.Do c m) ps = omega (arith, last_cost ps)
piece_grows qs (piece.Call g) ps = omega arith

stack_grows : (qs : List Part) (xs : List Piece) (ps : List Part) → stack_cost ps ≤ stack_cost (stack_after qs xs ps)
stack_grows qs [] ps = omega arith
stack_grows qs (x ∷ xs) ps = omega (arith, stack_grows qs xs ps, piece_grows qs x (stack_after qs xs ps))

last_piece : (qs : List Part) (xs rest : List Piece) (x : Piece) (ps : List Part) → xs ≡ rest ++ x ∷ [] → stack_after qs xs ps ≡ stack_after qs rest (stack_after_piece qs x ps)
last_piece qs xs rest x ps is = ap (λ ys. stack_after qs ys ps) is ∙ stack_after_append qs rest (x ∷ []) ps

-- what stands before the last piece costs no more than what all pieces make
pub last_room : (qs : List Part) (xs rest : List Piece) (x : Piece) (ps : List Part) (p : Part) (n : ℕ) → xs ≡ rest ++ x ∷ [] → stack_after qs xs ps ≡ p ∷ [] → cap_cost p ≤ n → stack_cost (stack_after_piece qs x ps) ≤ n
last_room qs xs rest x ps p n is h le =
    let all : stack_cost (stack_after qs rest (stack_after_piece qs x ps)) ≡ cap_cost p + 0 = ap stack_cost (sym (last_piece qs xs rest x ps is) ∙ h) in
    omega (arith, stack_grows qs rest (stack_after_piece qs x ps), all, le)

pub join_room : (ps : List Part) → cap_cost (last_part ps) + cap_cost (last_part (earlier_parts ps)) ≤ stack_cost (stack_after_piece [] piece.Join ps)
join_room ps = omega (arith, sequence_cost (last_part ps) (last_part (earlier_parts ps)))

-- ---- one piece after the other

pub record Standing (qs : List Part) (left : List Piece) (trees : List Tree) (all : List Part) : Type 0 where
  pub whole : stack_after qs left (parts_of trees) ≡ all
  pub kept : EachKeepsWays trees

pub grown_step : (qs : List Part) (old new : List Piece) (x : Piece) (trees mid end : List Tree) (t : Tree) (all : List Part) → old ≡ new ++ x ∷ [] → Makes t mid (stack_after_piece qs x (parts_of trees)) → end ≡ mid ++ t ∷ [] → Standing qs old trees all → Standing qs new end all
grown_step qs old new x trees mid end t all pop makes push h =
    record {
      whole = ap (λ ts. stack_after qs new (stack_onto ts [])) push ∙ ap (stack_after qs new) (onto_push mid t []) ∙ ap (stack_after qs new) makes.parts ∙ sym (last_piece qs old new x (parts_of trees) pop) ∙ h.whole;
      kept = subst EachKeepsWays (sym push) (each_push mid t makes.others makes.made);
    }

-- ---- the parts that the pieces of functions make

with_more : (qs : List Part) (xss : List (List Piece)) (i : ℕ) → i < length qs → slice_get (parts_with qs xss) i ≡ slice_get qs i
with_more qs [] i lt = refl
with_more qs (xs ∷ xss) i lt =
    let q = last_part (stack_after qs xs []) in
    with_more (qs ++ q ∷ []) xss i (omega (arith, lt, length-append qs (q ∷ []))) ∙ within qs i lt
  where
    within : (ps : List Part) (j : ℕ) → j < length ps → slice_get (ps ++ last_part (stack_after qs xs []) ∷ []) j ≡ slice_get ps j
    within [] j lt = absurd (omega (arith, lt))
    within (p ∷ ps) zero lt = refl
    within (p ∷ ps) (suc j) lt = within ps j (omega (arith, lt))

at_end : (qs : List Part) (q : Part) → slice_get (qs ++ q ∷ []) (length qs) ≡ Some q
at_end [] q = refl
at_end (x ∷ qs) q = at_end qs q

with_at : (qs : List Part) (xss : List (List Piece)) (i : ℕ) (xs : List Piece) → slice_get xss i ≡ Some xs → slice_get (parts_with qs xss) (length qs + i) ≡ Some (last_part (stack_after (parts_with qs (take i xss)) xs []))
with_at qs [] i xs is = absurd (cc)
with_at qs (ys ∷ xss) zero xs is =
    let q = last_part (stack_after qs ys []) in
    let z : length qs + 0 ≡ length qs = omega arith in
    let some : Some ys ≡ Some xs = is in
    let same : ys ≡ xs = cc in
    ap (λ n. slice_get (parts_with (qs ++ q ∷ []) xss) n) z ∙ with_more (qs ++ q ∷ []) xss (length qs) (omega (arith, length-append qs (q ∷ []))) ∙ at_end qs q ∙ ap (λ zs. Some (last_part (stack_after qs zs []))) same
with_at qs (ys ∷ xss) (suc i) xs is =
    let q = last_part (stack_after qs ys []) in
    let next : length qs + suc i ≡ length (qs ++ q ∷ []) + i = omega (arith, length-append qs (q ∷ [])) in
    ap (λ n. slice_get (parts_with (qs ++ q ∷ []) xss) n) next ∙ with_at (qs ++ q ∷ []) xss i xs is

pub part_made : (xss : List (List Piece)) (i : ℕ) (xs : List Piece) → slice_get xss i ≡ Some xs → part_at (parts_made xss) i ≡ last_part (stack_after (parts_made (take i xss)) xs [])
part_made xss i xs is =
    let z : i ≡ 0 + i = omega arith in
    ap (λ n. unwrap_or (slice_get (parts_made xss) n) Nothing) z ∙ ap (λ o. unwrap_or o Nothing) (with_at [] xss i xs is)

with_length : (qs : List Part) (xss : List (List Piece)) → length (parts_with qs xss) ≡ length qs + length xss
with_length qs [] = omega arith
with_length qs (xs ∷ xss) =
    omega (arith, with_length (qs ++ last_part (stack_after qs xs []) ∷ []) xss, length-append qs (last_part (stack_after qs xs []) ∷ []))

pub none_made : (xss : List (List Piece)) (i : ℕ) → length xss ≤ i → part_at (parts_made xss) i ≡ Nothing
none_made xss i le = ap (λ o. unwrap_or o Nothing) (slice_get_past (parts_made xss) i (omega (arith, le, with_length [] xss)))

one_before : (qs : List Part) (xss : List (List Piece)) (i : ℕ) → MakeOneEach qs xss → MakeOneEach qs (take i xss)
one_before qs xss zero h = tt
one_before qs [] (suc i) h = tt
one_before qs (xs ∷ xss) (suc i) h = (h.0, one_before (qs ++ last_part (stack_after qs xs []) ∷ []) xss i h.1)

pub above_length : (xss : List (List Piece)) (i : ℕ) → i < length xss → length (take i xss) ≡ i
above_length [] i lt = absurd (omega (arith, lt))
above_length (xs ∷ xss) zero lt = refl
above_length (xs ∷ xss) (suc i) lt = ap suc (above_length xss i (omega (arith, lt)))

pub one_above : (xss above : List (List Piece)) (i : ℕ) → above ≡ take i xss → MakeOneEach [] xss → MakeOneEach [] above
one_above xss above i is h = subst (MakeOneEach []) (sym is) (one_before [] xss i h)

one_at : (qs : List Part) (xss : List (List Piece)) (i : ℕ) (xs : List Piece) → MakeOneEach qs xss → slice_get xss i ≡ Some xs → stack_after (parts_with qs (take i xss)) xs [] ≡ last_part (stack_after (parts_with qs (take i xss)) xs []) ∷ []
one_at qs [] i xs h is = absurd (cc)
one_at qs (ys ∷ xss) zero xs h is =
    let some : Some ys ≡ Some xs = is in
    let same : ys ≡ xs = cc in
    subst (λ zs. stack_after qs zs [] ≡ last_part (stack_after qs zs []) ∷ []) same h.0
one_at qs (ys ∷ xss) (suc i) xs h is = one_at (qs ++ last_part (stack_after qs ys []) ∷ []) xss i xs h.1 is

-- a function's pieces make its part
pub one_made : (xss : List (List Piece)) (i : ℕ) (xs : List Piece) → MakeOneEach [] xss → slice_get xss i ≡ Some xs → stack_after (parts_made (take i xss)) xs [] ≡ part_at (parts_made xss) i ∷ []
one_made xss i xs h is = one_at [] xss i xs h is ∙ ap (λ p. p ∷ []) (sym (part_made xss i xs is))

pub grown : (qs : List Part) (left : List Piece) (trees : List Tree) (p : Part) (t : Tree) → length left ≡ 0 → Standing qs left trees (p ∷ []) → IsTreeOf t (last_part (parts_of trees)) → IsTreeOf t p
grown qs [] trees p t none h is = subst (IsTreeOf t) (ap last_part h.whole) is
grown qs (x ∷ left) trees p t none h is = absurd (omega (arith, none))

-- ---- listing them

with_next : (qs : List Part) (xss : List (List Piece)) (xs : List Piece) → parts_with qs (xss ++ xs ∷ []) ≡ parts_with qs xss ++ last_part (stack_after (parts_with qs xss) xs []) ∷ []
with_next qs [] xs = refl
with_next qs (ys ∷ xss) xs = with_next (qs ++ last_part (stack_after qs ys []) ∷ []) xss xs

one_next : (qs : List Part) (xss : List (List Piece)) (xs : List Piece) → MakeOneEach qs xss → stack_after (parts_with qs xss) xs [] ≡ last_part (stack_after (parts_with qs xss) xs []) ∷ [] → MakeOneEach qs (xss ++ xs ∷ [])
one_next qs [] xs h k = (k, tt)
one_next qs (ys ∷ xss) xs h k = (h.0, one_next (qs ++ last_part (stack_after qs ys []) ∷ []) xss xs h.1 k)

parts_next : (t : Costs) (qs : List Part) (fs : List Func) (f : Func) → function_parts t qs (fs ++ f ∷ []) ≡ function_parts t qs fs ++ func_part t (length (function_parts t qs fs)) f (function_parts t qs fs) ∷ []
parts_next t qs [] f = refl
parts_next t qs (g ∷ fs) f = parts_next t (qs ++ func_part t (length qs) g qs ∷ []) fs f

-- the pieces that are listed make the parts of these functions, one each
pub record Listed (t : Costs) (fs : List Func) (xss : List (List Piece)) : Type 0 where
  pub parts_are : parts_made xss ≡ parts_above t fs
  pub one_each : MakeOneEach [] xss

pub listed_more : (t : Costs) (fs above : List Func) (i : ℕ) (f : Func) (body : List Stmt) (xss next : List (List Piece)) (xs : List Piece) → i < length fs → f ≡ get_or fs i f → above ≡ take i fs → body ≡ f.body → ((ps : List Part) → stack_after (parts_above t above) xs ps ≡ list_part (parts_above t above) (costs_in t (length above)) body 0 false ∷ ps) → next ≡ xss ++ xs ∷ [] → Listed t (take i fs) xss → Listed t (take (i + 1) fs) next
listed_more t fs above i f body xss next xs lt got cut same makes push h =
    let qs = parts_above t above in
    let p = list_part qs (costs_in t (length above)) body 0 false in
    let rs = parts_made xss in
    let e : rs ≡ qs = h.parts_are ∙ ap (parts_above t) (sym cut) in
    let one : stack_after rs xs [] ≡ p ∷ [] = ap (λ r. stack_after r xs []) e ∙ makes [] in
    let long : length qs ≡ length above = omega (arith, parts_length t [] above) in
    let own : p ≡ func_part t (length qs) f qs = λ j. list_part qs (costs_in t (sym long j)) (same j) 0 false in
    let more : take (i + 1) fs ≡ above ++ f ∷ [] = take_more fs i f lt ∙ (λ j. sym cut j ++ sym got j ∷ []) in
    record {
      parts_are = ap parts_made push ∙ with_next [] xss xs ∙ ap (λ z. rs ++ last_part z ∷ []) one ∙ (λ j. e j ++ own j ∷ []) ∙ sym (parts_next t [] above f) ∙ sym (ap (parts_above t) more);
      one_each = subst (MakeOneEach []) (sym push) (one_next [] xss xs h.one_each (one ∙ sym (ap (λ z. last_part z ∷ []) one)));
    }

pub listed_all : (t : Costs) (fs : List Func) (i : ℕ) (xss : List (List Piece)) → length fs ≤ i → Listed t (take i fs) xss → Listed t fs xss
listed_all t fs i xss le h = subst (λ gs. Listed t gs xss) (take_all i fs le) h

pub entry_is : (p : Program) (t : Costs) (xss : List (List Piece)) → parts_made xss ≡ parts_above t p.funcs → part_at (parts_made xss) p.entry ≡ entry_part p t
unfolding entry_part
entry_is p t xss is = ap (λ qs. part_at qs p.entry) is
