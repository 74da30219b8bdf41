-- Where the nodes, edges and loops of a part stand, and numbers that agree with a list.
use Rattle.std.proofs.Common.{◌≡◌, ◌≤◌, ◌<◌, ◌⊎◌, ℕ, zero, suc, ◌+◌, List, [], ◌∷◌, ◌++◌, length, Option, Some, None, refl, sym, ◌∙◌, subst, arith, length-append}
use Rattle.flow_laws.specs.declared.graph.Edge.{Edge}
use Rattle.flow_laws.specs.Sites.{Targets, head, with_next, body_of}
use Rattle.flow_laws.specs.Graphs.{all_to}
use Rattle.peak_laws.specs.Parts.{ByEnd, ByBreak, ByContinue, ByReturn, Part, Nothing, Block, Then, Choice, While, Do, Body, from_entry, dearest_ways, at_condition, step_cost, step_size, part_size, step_costs, node_costs, step_potentials, potentials, step_edges, part_edges, CostedLoop, costed_loops}

-- ---- lists of edges

abbrev pub Every : {A : Type 0} → (A → Type 0) → List A → Type 0
Every P [] = Unit {0}
Every P (e ∷ es) = P e × Every P es

pub every_append : {A : Type 0} (P : A → Type 0) (xs ys : List A) → Every P xs → Every P ys → Every P (xs ++ ys)
every_append P [] ys h k = k
every_append P (x ∷ xs) ys h k = (h.0, every_append P xs ys h.1 k)

pub every_of : {A : Type 0} (P Q : A → Type 0) (xs : List A) → ((x : A) → P x → Q x) → Every P xs → Every Q xs
every_of P Q [] f h = tt
every_of P Q (x ∷ xs) f h = (f x h.0, every_of P Q xs f h.1)

pub every_with : {A : Type 0} (P Q R : A → Type 0) (xs : List A) → ((x : A) → P x → Q x → R x) → Every P xs → Every Q xs → Every R xs
every_with P Q R [] f h k = tt
every_with P Q R (x ∷ xs) f h k = (f x h.0 k.0, every_with P Q R xs f h.1 k.1)

-- ---- where

pub record Inside (lo hi v : ℕ) : Type 0 where
  pub least : lo ≤ v
  pub most : v < hi

abbrev pub Apart : ℕ → ℕ → ℕ → Type 0
Apart lo hi v = (v < lo) ⊎ (hi ≤ v)

-- where a part leads lies outside of it
pub record Outside (lo hi : ℕ) (k : Targets) : Type 0 where
  pub next : Apart lo hi k.next
  pub breaks : Apart lo hi k.breaks
  pub continues : Apart lo hi k.continues
  pub returns : Apart lo hi k.returns

abbrev pub From : ℕ → ℕ → Edge → Type 0
From lo hi e = Inside lo hi e.from

from_wide : (lo hi a b : ℕ) (es : List Edge) → a ≤ lo → hi ≤ b → Every (From lo hi) es → Every (From a b) es
from_wide lo hi a b es le ge h = every_of (From lo hi) (From a b) es (λ e i. record { least = omega arith; most = omega arith }) h

pub froms : (a : Part) (n : ℕ) (k : Targets) → Every (From n (n + part_size a)) (part_edges a n k)
froms Nothing n k = tt
froms (Block c l) n k = (record { least = omega arith; most = omega arith }, tt)
froms (Then a b) n k =
    let x = with_next k (head (part_size b) (n + part_size a) k.next) in
    let hi = n + (part_size a + part_size b) in
    every_append (From n hi) (part_edges a n x) (part_edges b (n + part_size a) k) (from_wide n (n + part_size a) n hi (part_edges a n x) (omega arith) (omega arith) (froms a n x)) (from_wide (n + part_size a) (n + part_size a + part_size b) n hi (part_edges b (n + part_size a) k) (omega arith) (omega arith) (froms b (n + part_size a) k))
froms (Choice c a b) n k =
    let hi = n + (1 + (part_size a + part_size b)) in
    (record { least = omega arith; most = omega arith }, (record { least = omega arith; most = omega arith }, every_append (From n hi) (part_edges a (n + 1) k) (part_edges b (n + 1 + part_size a) k) (from_wide (n + 1) (n + 1 + part_size a) n hi (part_edges a (n + 1) k) (omega arith) (omega arith) (froms a (n + 1) k)) (from_wide (n + 1 + part_size a) (n + 1 + part_size a + part_size b) n hi (part_edges b (n + 1 + part_size a) k) (omega arith) (omega arith) (froms b (n + 1 + part_size a) k))))
froms (While c m s a) n k =
    let hi = n + (1 + (step_size s + part_size a)) in
    let x = body_of k (head (step_size s) (n + 1) n) in
    (record { least = omega arith; most = omega arith }, (record { least = omega arith; most = omega arith }, every_append (From n hi) (step_edges s n) (part_edges a (n + 1 + step_size s) x) (of_step s) (from_wide (n + 1 + step_size s) (n + 1 + step_size s + part_size a) n hi (part_edges a (n + 1 + step_size s) x) (omega arith) (omega arith) (froms a (n + 1 + step_size s) x))))
  where
    of_step : (o : Option ℕ) → Every (From n (n + (1 + (step_size o + part_size a)))) (step_edges o n)
    of_step None = tt
    of_step (Some d) = (record { least = omega arith; most = omega arith }, tt)
froms (Do c m a) n k =
    let hi = n + (part_size a + 1) in
    let x = body_of k (n + part_size a) in
    every_append (From n hi) (part_edges a n x) _ (from_wide n (n + part_size a) n hi (part_edges a n x) (omega arith) (omega arith) (froms a n x)) (record { least = omega arith; most = omega arith }, (record { least = omega arith; most = omega arith }, tt))
froms (Body a) n k = froms a n (all_to k.next)

-- ---- where edges lead

pub head_has : (Q : ℕ → Type 0) (m n x : ℕ) → (0 < m → Q n) → Q x → Q (head m n x)
head_has Q zero n x h k = k
head_has Q (suc m) n x h k = h (omega arith)

abbrev pub To : (ℕ → Type 0) → Edge → Type 0
To Q e = Q e.to

-- what holds of each node of a part and of where it leads holds of where its edges lead
pub tos : (a : Part) (n : ℕ) (k : Targets) (Q : ℕ → Type 0) → ((v : ℕ) → n ≤ v → v < n + part_size a → Q v) → Q k.next → Q k.breaks → Q k.continues → Q k.returns → Every (To Q) (part_edges a n k)
tos Nothing n k Q i qn qb qc qr = tt
tos (Block c ByEnd) n k Q i qn qb qc qr = (qn, tt)
tos (Block c ByBreak) n k Q i qn qb qc qr = (qb, tt)
tos (Block c ByContinue) n k Q i qn qb qc qr = (qc, tt)
tos (Block c ByReturn) n k Q i qn qb qc qr = (qr, tt)
tos (Then a b) n k Q i qn qb qc qr =
    let x = head (part_size b) (n + part_size a) k.next in
    every_append (To Q) (part_edges a n (with_next k x)) (part_edges b (n + part_size a) k)
    (tos a n (with_next k x) Q (λ v le lt. i v le (omega arith)) (head_has Q (part_size b) (n + part_size a) k.next (λ lt. i (n + part_size a) (omega arith) (omega arith)) qn) qb qc qr)
    (tos b (n + part_size a) k Q (λ v le lt. i v (omega arith) (omega arith)) qn qb qc qr)
tos (Choice c a b) n k Q i qn qb qc qr = (
  head_has Q (part_size a) (n + 1) k.next (λ lt. i (n + 1) (omega arith) (omega arith)) qn,
  (
    head_has Q (part_size b) (n + 1 + part_size a) k.next (λ lt. i (n + 1 + part_size a) (omega arith) (omega arith)) qn,
    every_append (To Q) (part_edges a (n + 1) k) (part_edges b (n + 1 + part_size a) k)
        (tos a (n + 1) k Q (λ v le lt. i v (omega arith) (omega arith)) qn qb qc qr)
        (tos b (n + 1 + part_size a) k Q (λ v le lt. i v (omega arith) (omega arith)) qn qb qc qr),
  ),
)
tos (While c m s a) n k Q i qn qb qc qr =
    let again = head (step_size s) (n + 1) n in
    let here : Q n = i n (omega arith) (omega arith) in
    let on : Q again = head_has Q (step_size s) (n + 1) n (λ lt. i (n + 1) (omega arith) (omega arith)) here in (
      head_has Q (part_size a) (n + 1 + step_size s) again (λ lt. i (n + 1 + step_size s) (omega arith) (omega arith)) on,
      (
        qn,
        every_append (To Q) (step_edges s n) (part_edges a (n + 1 + step_size s) (body_of k again)) (of_step s here)
            (tos a (n + 1 + step_size s) (body_of k again) Q (λ v le lt. i v (omega arith) (omega arith)) on qn on qr),
      ),
    )
  where
    of_step : (o : Option ℕ) → Q n → Every (To Q) (step_edges o n)
    of_step None q = tt
    of_step (Some d) q = (q, tt)
tos (Do c m a) n k Q i qn qb qc qr =
    let here : Q (n + part_size a) = i (n + part_size a) (omega arith) (omega arith) in
    every_append (To Q) (part_edges a n (body_of k (n + part_size a))) _ (tos a n (body_of k (n + part_size a)) Q (λ v le lt. i v le (omega arith)) here qn here qr) (head_has Q (part_size a) n (n + part_size a) (λ lt. i n (omega arith) (omega arith)) here, (qn, tt))
tos (Body a) n k Q i qn qb qc qr = tos a n (all_to k.next) Q i qn qn qn qn

-- ---- where loops stand

pub record Within (lo hi : ℕ) (f : CostedLoop) : Type 0 where
  pub least : lo ≤ f.loop_copy.from
  pub some : f.loop_copy.from < f.loop_copy.past
  pub most : f.loop_copy.past ≤ hi
  pub after : f.loop_copy.from ≤ f.loop_copy.test
  pub before : f.loop_copy.test < f.loop_copy.past

within_wide : (lo hi a b : ℕ) (fs : List CostedLoop) → a ≤ lo → hi ≤ b → Every (Within lo hi) fs → Every (Within a b) fs
within_wide lo hi a b fs le ge h =
    every_of (Within lo hi) (Within a b) fs (λ f w. record { least = omega arith; some = w.some; most = omega arith; after = w.after; before = w.before }) h

pub within : (a : Part) (n : ℕ) → Every (Within n (n + part_size a)) (costed_loops a n)
within Nothing n = tt
within (Block c l) n = tt
within (Then a b) n =
    let hi = n + (part_size a + part_size b) in
    every_append (Within n hi) (costed_loops a n) (costed_loops b (n + part_size a)) (within_wide n (n + part_size a) n hi (costed_loops a n) (omega arith) (omega arith) (within a n)) (within_wide (n + part_size a) (n + part_size a + part_size b) n hi (costed_loops b (n + part_size a)) (omega arith) (omega arith) (within b (n + part_size a)))
within (Choice c a b) n =
    let hi = n + (1 + (part_size a + part_size b)) in
    every_append (Within n hi) (costed_loops a (n + 1)) (costed_loops b (n + 1 + part_size a)) (within_wide (n + 1) (n + 1 + part_size a) n hi (costed_loops a (n + 1)) (omega arith) (omega arith) (within a (n + 1))) (within_wide (n + 1 + part_size a) (n + 1 + part_size a + part_size b) n hi (costed_loops b (n + 1 + part_size a)) (omega arith) (omega arith) (within b (n + 1 + part_size a)))
within (While c m s a) n =
    let hi = n + (1 + (step_size s + part_size a)) in
    (record { least = omega arith; some = omega arith; most = omega arith; after = omega arith; before = omega arith }, within_wide (n + 1 + step_size s) (n + 1 + step_size s + part_size a) n hi (costed_loops a (n + 1 + step_size s)) (omega arith) (omega arith) (within a (n + 1 + step_size s)))
within (Do c m a) n =
    let hi = n + (part_size a + 1) in
    every_append (Within n hi) (costed_loops a n) _ (within_wide n (n + part_size a) n hi (costed_loops a n) (omega arith) (omega arith) (within a n)) (record { least = omega arith; some = omega arith; most = omega arith; after = omega arith; before = omega arith }, tt)
within (Body a) n = within a n

-- ---- numbers of nodes that agree with a list

abbrev pub Agrees : (ℕ → ℕ) → ℕ → List ℕ → Type 0
Agrees f n [] = Unit {0}
Agrees f n (x ∷ xs) = (f n ≡ x) × Agrees f (n + 1) xs

pub agrees_left : (f : ℕ → ℕ) (n : ℕ) (xs ys : List ℕ) → Agrees f n (xs ++ ys) → Agrees f n xs
agrees_left f n [] ys h = tt
agrees_left f n (x ∷ xs) ys h = (h.0, agrees_left f (n + 1) xs ys h.1)

pub agrees_right : (f : ℕ → ℕ) (n m : ℕ) (xs ys : List ℕ) → n + length xs ≡ m → Agrees f n (xs ++ ys) → Agrees f m ys
agrees_right f n m [] ys is h = let same : n ≡ m = omega (arith, is) in subst (λ i. Agrees f i ys) same h
agrees_right f n m (x ∷ xs) ys is h = agrees_right f (n + 1) m xs ys (omega (arith, is)) h.1

pub agrees_alike : (f g : ℕ → ℕ) (n : ℕ) (xs : List ℕ) → ((v : ℕ) → n ≤ v → v < n + length xs → f v ≡ g v) → Agrees f n xs → Agrees g n xs
agrees_alike f g n [] same h = tt
agrees_alike f g n (x ∷ xs) same h =
    let here : g n ≡ x = sym (same n (omega arith) (omega arith)) ∙ h.0 in
    (here, agrees_alike f g (n + 1) xs (λ v le lt. same v (omega arith) (omega arith)) h.1)

pub step_costs_length : (s : Option ℕ) → length (step_costs s) ≡ step_size s
step_costs_length None = refl
step_costs_length (Some d) = refl

pub step_potentials_length : (s : Option ℕ) (q : ℕ) → length (step_potentials s q) ≡ step_size s
step_potentials_length None q = refl
step_potentials_length (Some d) q = refl

pub costs_length : (a : Part) → length (node_costs a) ≡ part_size a
costs_length Nothing = refl
costs_length (Block c l) = refl
costs_length (Then a b) = omega (arith, length-append (node_costs a) (node_costs b), costs_length a, costs_length b)
costs_length (Choice c a b) = omega (arith, length-append (node_costs a) (node_costs b), costs_length a, costs_length b)
costs_length (While c m s a) = omega (arith, length-append (step_costs s) (node_costs a), step_costs_length s, costs_length a)
costs_length (Do c m a) = omega (arith, length-append (node_costs a) (c ∷ []), costs_length a)
costs_length (Body a) = costs_length a

pub potentials_length : (a : Part) (t : Targets) → length (potentials a t) ≡ part_size a
potentials_length Nothing t = refl
potentials_length (Block c l) t = refl
potentials_length (Then a b) t =
    let u = with_next t (from_entry b t) in
    omega (arith, length-append (potentials a u) (potentials b t), potentials_length a u, potentials_length b t)
potentials_length (Choice c a b) t = omega (arith, length-append (potentials a t) (potentials b t), potentials_length a t, potentials_length b t)
potentials_length (While c m s a) t =
    let q = at_condition c s (dearest_ways a) (from_entry a) t in
    let u = body_of t (step_cost s + q) in
    omega (arith, length-append (step_potentials s q) (potentials a u), step_potentials_length s q, potentials_length a u)
potentials_length (Do c m a) t =
    let q = at_condition c None (dearest_ways a) (from_entry a) t in
    let u = body_of t q in
    omega (arith, length-append (potentials a u) (q ∷ []), potentials_length a u)
potentials_length (Body a) t = potentials_length a (all_to t.next)

-- a part without nodes costs nothing
pub idle : (a : Part) (t : Targets) → part_size a ≡ 0 → from_entry a t ≡ t.next
idle Nothing t z = refl
idle (Block c l) t z = absurd (omega (arith, z))
idle (Then a b) t z = idle a (with_next t (from_entry b t)) (omega (arith, z)) ∙ idle b t (omega (arith, z))
idle (Choice c a b) t z = absurd (omega (arith, z))
idle (While c m s a) t z = absurd (omega (arith, z))
idle (Do c m a) t z = absurd (omega (arith, z))
idle (Body a) t z = idle a (all_to t.next) z
