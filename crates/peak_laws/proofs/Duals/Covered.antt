-- The potentials of a part cover the costs of its edges, and what is paid where it is entered is its cost from there on.
use Rattle.std.proofs.Common.{◌≡◌, ◌≤◌, ◌<◌, ◌⊎◌, inl, inr, ℕ, zero, suc, ◌+◌, ◌-◌, ◌*◌, Bool, true, false, if◌then◌else◌, List, [], ◌∷◌, ◌++◌, Option, Some, None, refl, sym, ap, ◌∙◌, subst, arith}
use Rattle.std.specs.Prelude.{◌==◌, ◌&&◌, not}
use Rattle.std.proofs.lemmas.Bool.{eqb-true, eqb-false, ne_eqb, eq-eqb}
use Rattle.flow_laws.specs.declared.graph.Way.TheVariants.{Next, True, False}
use Rattle.flow_laws.specs.declared.graph.Edge.{Edge}
use Rattle.flow_laws.specs.Sites.{LoopCopy, Targets, head, with_next, body_of}
use Rattle.flow_laws.specs.Graphs.{leaves, is_in, enters, all_to}
use Rattle.peak_laws.specs.Parts.{Leaving, ByEnd, ByBreak, ByContinue, ByReturn, Part, Nothing, Block, Then, Choice, While, Do, Body, ahead, from_entry, dearest_ways, full_turn_cost, at_condition, step_cost, step_size, part_size, step_costs, node_costs, step_potentials, potentials, step_edges, part_edges, CostedLoop, costed_loop, while_copy, do_copy, costed_loops, turn_limit, turns, entry_charge, turn_refund, Covers}
use Rattle.flow_laws.proofs.Driving.DrivenLists.{not_enters}
use Rattle.peak_laws.proofs.Optima.Dearest.{turning}
use Rattle.peak_laws.proofs.GraphParts.Places.{Every, every_append, head_has, every_with, Apart, Outside, From, froms, To, tos, Within, within, Agrees, agrees_left, agrees_right, agrees_alike, step_costs_length, step_potentials_length, costs_length, potentials_length, idle}

-- ---- what is paid

pub entry_charge_append : (fs gs : List CostedLoop) (e : Edge) → entry_charge (fs ++ gs) e ≡ entry_charge fs e + entry_charge gs e
entry_charge_append [] gs e = omega arith
entry_charge_append (f ∷ fs) gs e = omega (arith, entry_charge_append fs gs e)

pub turn_refund_append : (fs gs : List CostedLoop) (e : Edge) → turn_refund (fs ++ gs) e ≡ turn_refund fs e + turn_refund gs e
turn_refund_append [] gs e = omega arith
turn_refund_append (f ∷ fs) gs e = omega (arith, turn_refund_append fs gs e)

at_most : (b : Bool) (x : ℕ) → (if b then x else 0) ≤ x
at_most true x = omega arith
at_most false x = omega arith

-- an edge to elsewhere enters nothing
elsewhere : (l : LoopCopy) (e : Edge) → (e.to ≡ l.from → ⊥) → enters l e ≡ false
elsewhere l e ne = ap (λ b. b && not (is_in l.from l.past e.from)) (ne_eqb e.to l.from ne)

pub entry_charge_apart : (lo hi : ℕ) (fs : List CostedLoop) (e : Edge) → Every (Within lo hi) fs → Apart lo hi e.to → entry_charge fs e ≡ 0
entry_charge_apart lo hi [] e w h = refl
entry_charge_apart lo hi (f ∷ fs) e w h =
    let one = w.0 in
    let none : enters f.loop_copy e ≡ false = elsewhere f.loop_copy e (λ is. omega (arith, is, h, one.least, one.some, one.most)) in
    omega (arith, ap (λ b. if b then turn_limit f.loop_copy * f.turn else 0) none, entry_charge_apart lo hi fs e w.1 h)

-- nor does one from inside
inside_pays : (l : LoopCopy) (y : ℕ) (e : Edge) → l.from ≤ e.from → e.from < l.past → (if enters l e then turn_limit l * y else 0) ≡ 0
inside_pays l y e le lt = ap (λ b. if b then turn_limit l * y else 0) (not_enters l e le lt)

pub turned : (n t : ℕ) (l : LoopCopy) → n ≡ l.test → turns l (leaves n True t) ≡ true
turned n t l is = eq-eqb n l.test is

-- ---- entering

-- potentials and what is ahead
pub record Laid (v : ℕ → ℕ) (n : ℕ) (k t : Targets) (ps : List ℕ) : Type 0 where
  pub potentials : Agrees v n ps
  pub next : v k.next ≡ t.next
  pub breaks : v k.breaks ≡ t.breaks
  pub continues : v k.continues ≡ t.continues
  pub returns : v k.returns ≡ t.returns

first_is : (f : ℕ → ℕ) (n x : ℕ) (xs : List ℕ) → Agrees f n (x ∷ xs) → f n ≡ x
first_is f n x xs h = h.0

-- where a part has nodes: the potential of its first node, and what is paid to come there
abbrev Enters : Part → Type 0
Enters a =
    (n : ℕ) (t : Targets) (v : ℕ → ℕ) (e : Edge) → 0 < part_size a → e.to ≡ n → Agrees v n (potentials a t) → v n + entry_charge (costed_loops a n) e ≤ from_entry a t

-- and where it may have none
abbrev Comes : Part → Type 0
Comes a =
    (n x : ℕ) (t : Targets) (v : ℕ → ℕ) (e : Edge) → e.to ≡ head (part_size a) n x → v x ≡ t.next → Agrees v n (potentials a t) → v (head (part_size a) n x) + entry_charge (costed_loops a n) e ≤ from_entry a t

apart_none : (n m w : ℕ) → m ≡ 0 → Apart n (n + m) w
apart_none n m w z = grind arith

comes_of : (a : Part) → Enters a → Comes a
comes_of a enter n x t v e is next p = by_size (part_size a) refl
  where
    by_size : (m : ℕ) → part_size a ≡ m → v (head (part_size a) n x) + entry_charge (costed_loops a n) e ≤ from_entry a t
    by_size zero z =
        let to : head (part_size a) n x ≡ x = ap (λ m. head m n x) z in
        omega (arith, z, ap v to, next, idle a t z, entry_charge_apart n (n + part_size a) (costed_loops a n) e (within a n) (apart_none n (part_size a) e.to z))
    by_size (suc m) z =
        let to : head (part_size a) n x ≡ n = ap (λ m. head m n x) z in
        let at : e.to ≡ n = is ∙ to in
        omega (arith, ap v to, enter n t v e (omega (arith, z)) at p)

enter_then : (a b : Part) → Enters a → Enters b → Enters (Then a b)
enter_then a b ha hb n t v e some is p = by_size (part_size a) refl
  where
    u : Targets
    u = with_next t (from_entry b t)

    left : Agrees v n (potentials a u)
    left = agrees_left v n (potentials a u) (potentials b t) p

    right : Agrees v (n + part_size a) (potentials b t)
    right = agrees_right v n (n + part_size a) (potentials a u) (potentials b t) (omega (arith, potentials_length a u)) p

    by_size : (m : ℕ) → part_size a ≡ m → v n + entry_charge (costed_loops a n ++ costed_loops b (n + part_size a)) e ≤ from_entry a u
    by_size zero z =
        let same : n + part_size a ≡ n = omega (arith, z) in
        omega (arith, ap v same, entry_charge_append (costed_loops a n) (costed_loops b (n + part_size a)) e, entry_charge_apart n (n + part_size a) (costed_loops a n) e (within a n) (apart_none n (part_size a) e.to z), idle a u z, hb (n + part_size a) t v e (omega (arith, z, some)) (omega (arith, same, is)) right)
    by_size (suc m) z =
        omega (arith, entry_charge_append (costed_loops a n) (costed_loops b (n + part_size a)) e, ha n u v e (omega (arith, z)) is left, entry_charge_apart (n + part_size a) (n + part_size a + part_size b) (costed_loops b (n + part_size a)) e (within b (n + part_size a)) (inl (omega (arith, z, is))))

enter_choice : (c : ℕ) (a b : Part) → Enters (Choice c a b)
enter_choice c a b n t v e some is p =
    omega (arith, p.0, entry_charge_append (costed_loops a (n + 1)) (costed_loops b (n + 1 + part_size a)) e, entry_charge_apart (n + 1) (n + 1 + part_size a) (costed_loops a (n + 1)) e (within a (n + 1)) (inl (omega (arith, is))), entry_charge_apart (n + 1 + part_size a) (n + 1 + part_size a + part_size b) (costed_loops b (n + 1 + part_size a)) e (within b (n + 1 + part_size a)) (inl (omega (arith, is))))

enter_while : (c m : ℕ) (s : Option ℕ) (a : Part) → Enters (While c m s a)
enter_while c m s a n t v e some is p =
    omega (arith, p.0, at_most (enters (while_copy a n m s) e) ((m + 1) * full_turn_cost c s (dearest_ways a)), entry_charge_apart (n + 1 + step_size s) (n + 1 + step_size s + part_size a) (costed_loops a (n + 1 + step_size s)) e (within a (n + 1 + step_size s)) (inl (omega (arith, is))))

enter_do : (c m : ℕ) (a : Part) → Enters a → Enters (Do c m a)
enter_do c m a ha n t v e some is p =
    let q = at_condition c None (dearest_ways a) (from_entry a) t in
    let u = body_of t q in
    let left : Agrees v n (potentials a u) = agrees_left v n (potentials a u) (q ∷ []) p in
    let right : Agrees v (n + part_size a) (q ∷ []) = agrees_right v n (n + part_size a) (potentials a u) (q ∷ []) (omega (arith, potentials_length a u)) p in
    let to : head (part_size a) n (n + part_size a) ≡ n = self (part_size a) in
    let come = comes_of a ha n (n + part_size a) u v e (is ∙ sym to) right.0 left in
    let bound : m + 1 - 1 ≡ m = omega arith in
    omega (arith, ap v to, entry_charge_append (costed_loops a n) (costed_loop (do_copy a n m) (full_turn_cost c None (dearest_ways a)) ∷ []) e, come, at_most (enters (do_copy a n m) e) ((m + 1 - 1) * full_turn_cost c None (dearest_ways a)), ap (λ k. k * full_turn_cost c None (dearest_ways a)) bound)
  where
    self : (k : ℕ) → head k n (n + k) ≡ n
    self zero = omega arith
    self (suc k) = refl

pub enter : (a : Part) → Enters a
enter Nothing n t v e some is p = absurd (omega (arith, some))
enter (Block c l) n t v e some is p = omega (arith, p.0)
enter (Then a b) n t v e some is p = enter_then a b (enter a) (enter b) n t v e some is p
enter (Choice c a b) n t v e some is p = enter_choice c a b n t v e some is p
enter (While c m s a) n t v e some is p = enter_while c m s a n t v e some is p
enter (Do c m a) n t v e some is p = enter_do c m a (enter a) n t v e some is p
enter (Body a) n t v e some is p = enter a n (all_to t.next) v e some is p

pub comes : (a : Part) → Comes a
comes a = comes_of a (enter a)

-- ---- covering

abbrev pub IsCovered : Part → Type 0
IsCovered a =
    (n : ℕ) (k t : Targets) (cost v : ℕ → ℕ) → Outside n (n + part_size a) k → Agrees cost n (node_costs a) → Laid v n k t (potentials a t) → Every (Covers cost v (costed_loops a n)) (part_edges a n k)

ahead_is : (l : Leaving) (v : ℕ → ℕ) (k t : Targets) → v k.next ≡ t.next → v k.breaks ≡ t.breaks → v k.continues ≡ t.continues → v k.returns ≡ t.returns → v (ahead k l) ≡ ahead t l
ahead_is ByEnd v k t n b c r = n
ahead_is ByBreak v k t n b c r = b
ahead_is ByContinue v k t n b c r = c
ahead_is ByReturn v k t n b c r = r

cover_block : (c : ℕ) (l : Leaving) → IsCovered (Block c l)
cover_block c l n k t cost v out cs laid =
    (omega (arith, cs.0, laid.potentials.0, ahead_is l v k t laid.next laid.breaks laid.continues laid.returns), tt)

-- the potentials as the first of two parts sees them: where the second begins stands what it costs from its entry on
instead : ℕ → ℕ → (ℕ → ℕ) → ℕ → ℕ
instead x w v i = if i == x then w else v i

instead_there : (x w : ℕ) (v : ℕ → ℕ) (i : ℕ) → i ≡ x → instead x w v i ≡ w
unfolding instead
instead_there x w v i is = ap (λ b. if b then w else v i) (eq-eqb i x is)

instead_other : (x w : ℕ) (v : ℕ → ℕ) (i : ℕ) → (i ≡ x → ⊥) → instead x w v i ≡ v i
unfolding instead
instead_other x w v i ne = ap (λ b. if b then w else v i) (ne_eqb i x ne)

narrow : (lo hi a b v : ℕ) → lo ≤ a → b ≤ hi → Apart lo hi v → Apart a b v
narrow lo hi a b v le ge (inl h) = inl (omega (arith, h, le))
narrow lo hi a b v le ge (inr h) = inr (omega (arith, h, ge))

pub outside_narrow : (lo hi a b : ℕ) (k : Targets) → lo ≤ a → b ≤ hi → Outside lo hi k → Outside a b k
outside_narrow lo hi a b k le ge out =
    record { next = narrow lo hi a b k.next le ge out.next; breaks = narrow lo hi a b k.breaks le ge out.breaks; continues = narrow lo hi a b k.continues le ge out.continues; returns = narrow lo hi a b k.returns le ge out.returns }

-- loops elsewhere change nothing
beside_right : (lo hi : ℕ) (cost v : ℕ → ℕ) (fs gs : List CostedLoop) (es : List Edge) → Every (Within lo hi) gs → Every (To (Apart lo hi)) es → Every (Covers cost v fs) es → Every (Covers cost v (fs ++ gs)) es
beside_right lo hi cost v fs gs es w far h =
    every_with (To (Apart lo hi)) (Covers cost v fs) (Covers cost v (fs ++ gs)) es (λ e f c. omega (arith, c, entry_charge_append fs gs e, turn_refund_append fs gs e, entry_charge_apart lo hi gs e w f)) far h

beside_left : (lo hi : ℕ) (cost v : ℕ → ℕ) (fs gs : List CostedLoop) (es : List Edge) → Every (Within lo hi) gs → Every (To (Apart lo hi)) es → Every (Covers cost v fs) es → Every (Covers cost v (gs ++ fs)) es
beside_left lo hi cost v fs gs es w far h =
    every_with (To (Apart lo hi)) (Covers cost v fs) (Covers cost v (gs ++ fs)) es (λ e f c. omega (arith, c, entry_charge_append gs fs e, turn_refund_append gs fs e, entry_charge_apart lo hi gs e w f)) far h

-- nor does a loop round them
around_left : (lo hi : ℕ) (cost v : ℕ → ℕ) (l : LoopCopy) (y : ℕ) (fs : List CostedLoop) (es : List Edge) → l.from ≤ lo → hi ≤ l.past → Every (From lo hi) es → Every (Covers cost v fs) es → Every (Covers cost v (costed_loop l y ∷ fs)) es
around_left lo hi cost v l y fs es le ge from h =
    every_with (From lo hi) (Covers cost v fs) (Covers cost v (costed_loop l y ∷ fs)) es (λ e f c. omega (arith, c, inside_pays l y e (omega (arith, le, f.least)) (omega (arith, ge, f.most)))) from h

around_right : (lo hi : ℕ) (cost v : ℕ → ℕ) (l : LoopCopy) (y : ℕ) (fs : List CostedLoop) (es : List Edge) → l.from ≤ lo → hi ≤ l.past → Every (From lo hi) es → Every (Covers cost v fs) es → Every (Covers cost v (fs ++ (costed_loop l y ∷ []))) es
around_right lo hi cost v l y fs es le ge from h =
    every_with (From lo hi) (Covers cost v fs) (Covers cost v (fs ++ (costed_loop l y ∷ []))) es (λ e f c. omega (arith, c, entry_charge_append fs (costed_loop l y ∷ []) e, turn_refund_append fs (costed_loop l y ∷ []) e, inside_pays l y e (omega (arith, le, f.least)) (omega (arith, ge, f.most)))) from h

cover_then : (a b : Part) → IsCovered a → IsCovered b → IsCovered (Then a b)
cover_then a b ha hb n k t cost v out cs laid =
    every_append (Covers cost v all) (part_edges a n ka) (part_edges b nb k)
    (every_with (λ e. Goes e × From n nb e) (Covers cost seen fa) (Covers cost v all) (part_edges a n ka) first (every_with Goes (From n nb) (λ e. Goes e × From n nb e) (part_edges a n ka) (λ e g f. (g, f)) goes (froms a n ka)) in_first)
    (beside_left n nb cost v fb fa (part_edges b nb k) (within a n) far in_second)
  where
    nb : ℕ
    nb = n + part_size a

    hi : ℕ
    hi = n + part_size a + part_size b

    x : ℕ
    x = head (part_size b) (n + part_size a) k.next

    ka : Targets
    ka = with_next k x

    w : ℕ
    w = from_entry b t

    u : Targets
    u = with_next t w

    fa : List CostedLoop
    fa = costed_loops a n

    fb : List CostedLoop
    fb = costed_loops b (n + part_size a)

    all : List CostedLoop
    all = costed_loops a n ++ costed_loops b (n + part_size a)

    Place : ℕ → Type 0
    Place i = (i ≡ x) ⊎ Apart nb hi i

    Goes : Edge → Type 0
    Goes e = Place e.to

    seen : ℕ → ℕ
    seen = instead x w v

    right : Agrees v nb (potentials b t)
    right = agrees_right v n nb (potentials a u) (potentials b t) (omega (arith, potentials_length a u)) laid.potentials

    out_b : Outside nb hi k
    out_b = outside_narrow n (n + (part_size a + part_size b)) nb hi k (omega arith) (omega arith) out

    there : (i : ℕ) → i ≡ x → Apart nb hi i → w ≡ v i
    there i is far = by_size (part_size b) refl
      where
        by_size : (m : ℕ) → part_size b ≡ m → w ≡ v i
        by_size zero z =
            let to : x ≡ k.next = ap (λ m. head m (n + part_size a) k.next) z in
            idle b t z ∙ sym laid.next ∙ ap v (sym (is ∙ to))
        by_size (suc m) z =
            let to : x ≡ n + part_size a = ap (λ m. head m (n + part_size a) k.next) z in
            absurd (omega (arith, z, is, to, far))

    same : (i : ℕ) → Apart nb hi i → seen i ≡ v i
    same i far = by_test (i == x) refl
      where
        by_test : (b : Bool) → (i == x) ≡ b → seen i ≡ v i
        by_test true h = instead_there x w v i (eqb-true i x h) ∙ there i (eqb-true i x h) far
        by_test false h = instead_other x w v i (eqb-false i x h)

    goes : Every Goes (part_edges a n ka)
    goes = tos a n ka Place (λ i le lt. inr (inl lt)) (inl refl) (inr out_b.breaks) (inr out_b.continues) (inr out_b.returns)

    in_first : Every (Covers cost seen fa) (part_edges a n ka)
    in_first = ha n ka u cost seen (record { next = head_has (Apart n nb) (part_size b) nb k.next (λ lt. inr (omega arith)) (narrow n (n + (part_size a + part_size b)) n nb k.next (omega arith) (omega arith) out.next); breaks = narrow n (n + (part_size a + part_size b)) n nb k.breaks (omega arith) (omega arith) out.breaks; continues = narrow n (n + (part_size a + part_size b)) n nb k.continues (omega arith) (omega arith) out.continues; returns = narrow n (n + (part_size a + part_size b)) n nb k.returns (omega arith) (omega arith) out.returns }) (agrees_left cost n (node_costs a) (node_costs b) cs) (record {
      potentials = agrees_alike v seen n (potentials a u) (λ i le lt. sym (same i (inl (omega (arith, potentials_length a u, lt))))) (agrees_left v n (potentials a u) (potentials b t) laid.potentials);
      next = instead_there x w v x refl;
      breaks = same k.breaks out_b.breaks ∙ laid.breaks;
      continues = same k.continues out_b.continues ∙ laid.continues;
      returns = same k.returns out_b.returns ∙ laid.returns;
    })

    in_second : Every (Covers cost v fb) (part_edges b nb k)
    in_second = hb nb k t cost v out_b (agrees_right cost n nb (node_costs a) (node_costs b) (omega (arith, costs_length a)) cs) (record { potentials = right; next = laid.next; breaks = laid.breaks; continues = laid.continues; returns = laid.returns })

    far : Every (To (Apart n nb)) (part_edges b nb k)
    far = tos b nb k (Apart n nb) (λ i le lt. inr le) (narrow n (n + (part_size a + part_size b)) n nb k.next (omega arith) (omega arith) out.next) (narrow n (n + (part_size a + part_size b)) n nb k.breaks (omega arith) (omega arith) out.breaks) (narrow n (n + (part_size a + part_size b)) n nb k.continues (omega arith) (omega arith) out.continues) (narrow n (n + (part_size a + part_size b)) n nb k.returns (omega arith) (omega arith) out.returns)

    first : (e : Edge) → Goes e × From n nb e → Covers cost seen fa e → Covers cost v all e
    first e g c = by_goal g.0
      where
        at : seen e.from ≡ v e.from
        at = same e.from (inl (g.1).most)

        by_goal : (e.to ≡ x) ⊎ Apart nb hi e.to → Covers cost v all e
        by_goal (inl is) =
            omega (arith, c, at, instead_there x w v e.to is, comes b nb k.next t v e is laid.next right, ap v is, entry_charge_append fa fb e, turn_refund_append fa fb e)
        by_goal (inr apart) =
            omega (arith, c, at, same e.to apart, entry_charge_apart nb hi fb e (within b nb) apart, entry_charge_append fa fb e, turn_refund_append fa fb e)

cover_choice : (c : ℕ) (a b : Part) → IsCovered a → IsCovered b → IsCovered (Choice c a b)
cover_choice c a b ha hb n k t cost v out cs laid =
    (by_first, (by_second, every_append (Covers cost v (fa ++ fb)) (part_edges a na k) (part_edges b nb k) (beside_right nb hi cost v fa fb (part_edges a na k) (within b nb) far_b (ha na k t cost v out_a (agrees_left cost na (node_costs a) (node_costs b) cs.1) (record { potentials = left; next = laid.next; breaks = laid.breaks; continues = laid.continues; returns = laid.returns }))) (beside_left na nb cost v fb fa (part_edges b nb k) (within a na) far_a (hb nb k t cost v out_b (agrees_right cost na nb (node_costs a) (node_costs b) (omega (arith, costs_length a)) cs.1) (record { potentials = right; next = laid.next; breaks = laid.breaks; continues = laid.continues; returns = laid.returns })))))
  where
    na : ℕ
    na = n + 1

    nb : ℕ
    nb = n + 1 + part_size a

    hi : ℕ
    hi = n + 1 + part_size a + part_size b

    end : ℕ
    end = n + (1 + (part_size a + part_size b))

    fa : List CostedLoop
    fa = costed_loops a (n + 1)

    fb : List CostedLoop
    fb = costed_loops b (n + 1 + part_size a)

    out_a : Outside na nb k
    out_a = outside_narrow n end na nb k (omega arith) (omega arith) out

    out_b : Outside nb hi k
    out_b = outside_narrow n end nb hi k (omega arith) (omega arith) out

    left : Agrees v na (potentials a t)
    left = agrees_left v na (potentials a t) (potentials b t) laid.potentials.1

    right : Agrees v nb (potentials b t)
    right = agrees_right v na nb (potentials a t) (potentials b t) (omega (arith, potentials_length a t)) laid.potentials.1

    far_b : Every (To (Apart nb hi)) (part_edges a na k)
    far_b = tos a na k (Apart nb hi) (λ i le lt. inl lt) out_b.next out_b.breaks out_b.continues out_b.returns

    far_a : Every (To (Apart na nb)) (part_edges b nb k)
    far_a = tos b nb k (Apart na nb) (λ i le lt. inr le) out_a.next out_a.breaks out_a.continues out_a.returns

    to_a : ℕ
    to_a = head (part_size a) na k.next

    to_b : ℕ
    to_b = head (part_size b) nb k.next

    by_first : Covers cost v (fa ++ fb) (leaves n True to_a)
    by_first =
        let e = leaves n True to_a in
        let apart = head_has (Apart nb hi) (part_size a) na k.next (λ lt. inl (omega (arith, lt))) out_b.next in
        omega (arith, cs.0, laid.potentials.0, comes a na k.next t v e refl laid.next left, entry_charge_append fa fb e, entry_charge_apart nb hi fb e (within b nb) apart)

    by_second : Covers cost v (fa ++ fb) (leaves n False to_b)
    by_second =
        let e = leaves n False to_b in
        let apart = head_has (Apart na nb) (part_size b) nb k.next (λ lt. inr (omega arith)) out_a.next in
        omega (arith, cs.0, laid.potentials.0, comes b nb k.next t v e refl laid.next right, entry_charge_append fa fb e, entry_charge_apart na nb fa e (within a na) apart)

cover_while : (c m : ℕ) (s : Option ℕ) (a : Part) → IsCovered a → IsCovered (While c m s a)
cover_while c m s a ha n k t cost v out cs laid =
    (by_true, (by_false, every_append (Covers cost v (own ∷ fa)) (step_edges s n) (part_edges a na kb) (by_step s refl) (around_left na hi cost v loop_copy y fa (part_edges a na kb) (omega arith) (omega arith) (froms a na kb) in_body)))
  where
    r : ℕ
    r = step_size s

    na : ℕ
    na = n + 1 + step_size s

    hi : ℕ
    hi = n + 1 + step_size s + part_size a

    end : ℕ
    end = n + (1 + (step_size s + part_size a))

    y : ℕ
    y = full_turn_cost c s (dearest_ways a)

    q : ℕ
    q = at_condition c s (dearest_ways a) (from_entry a) t

    again : ℕ
    again = head (step_size s) (n + 1) n

    kb : Targets
    kb = body_of k (head (step_size s) (n + 1) n)

    u : Targets
    u = body_of t (step_cost s + at_condition c s (dearest_ways a) (from_entry a) t)

    loop_copy : LoopCopy
    loop_copy = while_copy a n m s

    own : CostedLoop
    own = costed_loop (while_copy a n m s) (full_turn_cost c s (dearest_ways a))

    fa : List CostedLoop
    fa = costed_loops a (n + 1 + step_size s)

    here : v n ≡ q
    here = laid.potentials.0

    left : Agrees v (n + 1) (step_potentials s q)
    left = agrees_left v (n + 1) (step_potentials s q) (potentials a u) laid.potentials.1

    right : Agrees v na (potentials a u)
    right = agrees_right v (n + 1) na (step_potentials s q) (potentials a u) (omega (arith, step_potentials_length s q)) laid.potentials.1

    at_again : v again ≡ step_cost s + q
    at_again = by_step s left
      where
        by_step : (o : Option ℕ) → Agrees v (n + 1) (step_potentials o q) → v (head (step_size o) (n + 1) n) ≡ step_cost o + q
        by_step None p = omega (arith, here)
        by_step (Some d) p = p.0

    out_a : Outside na hi k
    out_a = outside_narrow n end na hi k (omega arith) (omega arith) out

    before : Apart na hi n
    before = inl (omega arith)

    again_before : Apart na hi again
    again_before = by_step s
      where
        by_step : (o : Option ℕ) → Apart (n + 1 + step_size o) (n + 1 + step_size o + part_size a) (head (step_size o) (n + 1) n)
        by_step None = inl (omega arith)
        by_step (Some d) = inl (omega arith)

    in_body : Every (Covers cost v fa) (part_edges a na kb)
    in_body = ha na kb u cost v (record { next = again_before; breaks = out_a.next; continues = again_before; returns = out_a.returns }) (agrees_right cost (n + 1) na (step_costs s) (node_costs a) (omega (arith, step_costs_length s)) cs.1) (record { potentials = right; next = at_again; breaks = laid.next; continues = at_again; returns = laid.returns })

    by_true : Covers cost v (own ∷ fa) (leaves n True (head (part_size a) na again))
    by_true =
        let e = leaves n True (head (part_size a) na again) in
        omega (arith, cs.0, here, comes a na again u v e refl at_again right, turning c s a t, inside_pays loop_copy y e (omega arith) (omega arith), ap (λ b. if b then y else 0) (turned n (head (part_size a) na again) loop_copy refl))

    by_false : Covers cost v (own ∷ fa) (leaves n False k.next)
    by_false =
        let e = leaves n False k.next in
        omega (arith, cs.0, here, laid.next, inside_pays loop_copy y e (omega arith) (omega arith), entry_charge_apart na hi fa e (within a na) out_a.next)

    by_step : (o : Option ℕ) → s ≡ o → Every (Covers cost v (own ∷ fa)) (step_edges o n)
    by_step None is = tt
    by_step (Some d) is =
        let e = leaves (n + 1) Next n in
        let at : Agrees v (n + 1) ((d + q) ∷ []) = subst (λ o. Agrees v (n + 1) (step_potentials o q)) is left in
        let price : Agrees cost (n + 1) (d ∷ []) = subst (λ o. Agrees cost (n + 1) (step_costs o)) is (agrees_left cost (n + 1) (step_costs s) (node_costs a) cs.1) in
        let long : step_size s ≡ 1 = ap step_size is in
        (omega (arith, here, at.0, price.0, inside_pays loop_copy y e (omega arith) (omega (arith, long)), entry_charge_apart na hi fa e (within a na) before), tt)

cover_do : (c m : ℕ) (a : Part) → IsCovered a → IsCovered (Do c m a)
cover_do c m a ha n k t cost v out cs laid =
    every_append (Covers cost v (fa ++ (own ∷ []))) (part_edges a n kb) _ (around_right n nc cost v loop_copy y fa (part_edges a n kb) (omega arith) (omega arith) (froms a n kb) in_body) (by_true, (by_false, tt))
  where
    nc : ℕ
    nc = n + part_size a

    end : ℕ
    end = n + (part_size a + 1)

    y : ℕ
    y = full_turn_cost c None (dearest_ways a)

    q : ℕ
    q = at_condition c None (dearest_ways a) (from_entry a) t

    kb : Targets
    kb = body_of k (n + part_size a)

    u : Targets
    u = body_of t (at_condition c None (dearest_ways a) (from_entry a) t)

    loop_copy : LoopCopy
    loop_copy = do_copy a n m

    own : CostedLoop
    own = costed_loop (do_copy a n m) (full_turn_cost c None (dearest_ways a))

    fa : List CostedLoop
    fa = costed_loops a n

    left : Agrees v n (potentials a u)
    left = agrees_left v n (potentials a u) (q ∷ []) laid.potentials

    here : v nc ≡ q
    here = (agrees_right v n nc (potentials a u) (q ∷ []) (omega (arith, potentials_length a u)) laid.potentials).0

    price : cost nc ≡ c
    price = (agrees_right cost n nc (node_costs a) (c ∷ []) (omega (arith, costs_length a)) cs).0

    out_a : Outside n nc k
    out_a = outside_narrow n end n nc k (omega arith) (omega arith) out

    after : Apart n nc nc
    after = inr (omega arith)

    in_body : Every (Covers cost v fa) (part_edges a n kb)
    in_body = ha n kb u cost v (record { next = after; breaks = out_a.next; continues = after; returns = out_a.returns }) (agrees_left cost n (node_costs a) (c ∷ []) cs) (record { potentials = left; next = here; breaks = laid.next; continues = here; returns = laid.returns })

    once : c + from_entry a u ≤ q + y
    once = subst (λ i. c + from_entry a (body_of t i) ≤ q + y) zero_more (turning c None a t)
      where
        zero_more : step_cost None + q ≡ q
        zero_more = omega arith

    by_true : Covers cost v (fa ++ (own ∷ [])) (leaves nc True (head (part_size a) n nc))
    by_true =
        let e = leaves nc True (head (part_size a) n nc) in
        omega (arith, price, here, comes a n nc u v e refl here left, once, entry_charge_append fa (own ∷ []) e, turn_refund_append fa (own ∷ []) e, inside_pays loop_copy y e (omega arith) (omega arith), ap (λ b. if b then y else 0) (turned nc (head (part_size a) n nc) loop_copy refl))

    by_false : Covers cost v (fa ++ (own ∷ [])) (leaves nc False k.next)
    by_false =
        let e = leaves nc False k.next in
        omega (arith, price, here, laid.next, entry_charge_append fa (own ∷ []) e, turn_refund_append fa (own ∷ []) e, inside_pays loop_copy y e (omega arith) (omega arith), entry_charge_apart n nc fa e (within a n) out_a.next)

pub covered : (a : Part) → IsCovered a
covered Nothing n k t cost v out cs laid = tt
covered (Block c l) n k t cost v out cs laid = cover_block c l n k t cost v out cs laid
covered (Then a b) n k t cost v out cs laid = cover_then a b (covered a) (covered b) n k t cost v out cs laid
covered (Choice c a b) n k t cost v out cs laid = cover_choice c a b (covered a) (covered b) n k t cost v out cs laid
covered (While c m s a) n k t cost v out cs laid = cover_while c m s a (covered a) n k t cost v out cs laid
covered (Do c m a) n k t cost v out cs laid = cover_do c m a (covered a) n k t cost v out cs laid
covered (Body a) n k t cost v out cs laid =
    covered a n (all_to k.next) (all_to t.next) cost v (record { next = out.next; breaks = out.next; continues = out.next; returns = out.next }) cs (record { potentials = laid.potentials; next = laid.next; breaks = laid.next; continues = laid.next; returns = laid.next })
