-- There is one answer at most.
use Rattle.std.proofs.Common.{◌≡◌, ◌≤◌, ⊎_elim, ℕ, List, [], ◌∷◌, ◌++◌, length, Some, refl, sym, ap, ◌∙◌, subst, arith, append-nil}
use Rattle.std.specs.Prelude.{slice_get}
use Rattle.c_tree.specs.declared.program.Program.{Program}
use Rattle.flow_laws.specs.declared.graph.Edge.{Edge}
use Rattle.flow_laws.specs.declared.graph.Way.TheVariants.{True, False}
use Rattle.flow_laws.specs.Graphs.{graph, edges}
use Rattle.flow_laws.specs.Paths.{LeavesBy}
use Rattle.path_walk.specs.declared.next.Next.{Next}
use Rattle.path_walk.specs.declared.next.Next.TheVariants.{Long, Whole, Dead, Fork}
use Rattle.path_walk.specs.Walks.{MayFollow, MustFollow, IsForced, IsLong, IsWhole, IsDead, IsFork, IsAnswer}
use Rattle.path_walk.proofs.Covers.{ends_at_exit, step_on}

-- nothing has to follow
abbrev Stops : Program → List ℕ → List ℕ → List ℕ → Type 0
Stops p prefix room more = (e : ℕ) → MustFollow p prefix room more e → ⊥

-- ---- each answer stops

long_stops : (p : Program) (prefix room more : List ℕ) → IsLong p prefix room more → Stops p prefix room more
long_stops p prefix room more h e must = let long = h.long in let short = must.short in omega (arith, long, short)

whole_stops : (p : Program) (prefix room more : List ℕ) → IsWhole p prefix room more → Stops p prefix room more
whole_stops p prefix room more h e must = ends_at_exit p (prefix ++ more) e h.path must.may.contiguous

dead_stops : (p : Program) (prefix room more : List ℕ) → IsDead p prefix room more → Stops p prefix room more
dead_stops p prefix room more h e must = h.none e must.may

-- one edge does not leave by both ways
one_way : (p : Program) (left right : ℕ) → left ≡ right → LeavesBy (edges (graph p)) left True → LeavesBy (edges (graph p)) right False → ⊥
one_way p left right same is_left is_right =
    let one : Some is_left.0 ≡ Some is_right.0 = sym is_left.1 ∙ ap (slice_get (edges (graph p))) same ∙ is_right.1 in
    let edge : is_left.0 ≡ is_right.0 = cc in
    let way : True ≡ False = sym is_left.2 ∙ ap (λ (e : Edge). e.way) edge ∙ is_right.2 in
    absurd (cc)

fork_stops : (p : Program) (prefix room more : List ℕ) (left right : ℕ) → IsFork p prefix room more left right → Stops p prefix room more
fork_stops p prefix room more left right h e must =
    one_way p left right (must.alone left h.left_may ∙ sym (must.alone right h.right_may)) h.left_is h.right_is

-- ---- so what had to follow is one list

meet : (p : Program) (prefix room m n : List ℕ) → IsForced p prefix room m → IsForced p prefix room n → Stops p prefix room m → Stops p prefix room n → (done a b : List ℕ) → m ≡ done ++ a → n ≡ done ++ b → m ≡ n
meet p prefix room m n fm fn sm sn done [] [] is_m is_n = is_m ∙ sym is_n
meet p prefix room m n fm fn sm sn done (e ∷ a) [] is_m is_n =
    absurd (sn e (subst (λ l. MustFollow p prefix room l e) (sym (is_n ∙ append-nil done)) (fm done a e is_m)))
meet p prefix room m n fm fn sm sn done [] (d ∷ b) is_m is_n =
    absurd (sm d (subst (λ l. MustFollow p prefix room l d) (sym (is_m ∙ append-nil done)) (fn done b d is_n)))
meet p prefix room m n fm fn sm sn done (e ∷ a) (d ∷ b) is_m is_n =
    let same : d ≡ e = (fm done a e is_m).alone d (fn done b d is_n).may in
    meet p prefix room m n fm fn sm sn (done ++ e ∷ []) a b (is_m ∙ step_on done e a) (is_n ∙ ap (λ k. done ++ (k ∷ b)) same ∙ step_on done e b)

one_list : (p : Program) (prefix room m n : List ℕ) → IsForced p prefix room m → IsForced p prefix room n → Stops p prefix room m → Stops p prefix room n → m ≡ n
one_list p prefix room m n fm fn sm sn = meet p prefix room m n fm fn sm sn [] m n refl refl

-- ---- and so is the answer

not_short : (p : Program) (prefix room m n : List ℕ) → m ≡ n → 16385 ≤ length (prefix ++ m) → length (prefix ++ n) ≤ 16384 → ⊥
not_short p prefix room m n same long short =
    let le : length (prefix ++ m) ≤ 16384 = subst (λ l. length (prefix ++ l) ≤ 16384) (sym same) short in
    omega (arith, long, le)

not_at_exit : (p : Program) (prefix room m n : List ℕ) (e : ℕ) → m ≡ n → IsWhole p prefix room m → MayFollow p prefix room n e → ⊥
not_at_exit p prefix room m n e same whole may =
    ends_at_exit p (prefix ++ m) e whole.path (subst (λ l. MayFollow p prefix room l e) (sym same) may).contiguous

same_fork : (p : Program) (prefix room m a b : List ℕ) (l r l' r' : ℕ) → IsFork p prefix room m l r → IsFork p prefix room m l' r' → (l ≡ l') × (r ≡ r')
same_fork p prefix room m a b l r l' r' f g = (
  ⊎_elim (λ same. same) (λ same. absurd (one_way p l r' same f.left_is g.right_is)) (g.others l f.left_may),
  ⊎_elim (λ same. absurd (one_way p l' r (sym same) g.left_is f.right_is)) (λ same. same) (g.others r f.right_may),
)

pub one_answer : (p : Program) (prefix room : List ℕ) (a b : Next) → IsAnswer p prefix room a → IsAnswer p prefix room b → a ≡ b
one_answer p prefix room (Long a) (Long b) h k =
    ap Long (h.1 ∙ ap (λ m. prefix ++ m) (one_list p prefix room h.0 k.0 h.2.forced k.2.forced (long_stops p prefix room h.0 h.2) (long_stops p prefix room k.0 k.2)) ∙ sym k.1)
one_answer p prefix room (Long a) (Whole b) h k =
    absurd (not_short p prefix room h.0 k.0 (one_list p prefix room h.0 k.0 h.2.forced k.2.forced (long_stops p prefix room h.0 h.2) (whole_stops p prefix room k.0 k.2)) h.2.long k.2.short)
one_answer p prefix room (Long a) (Dead b) h k =
    absurd (not_short p prefix room h.0 k.0 (one_list p prefix room h.0 k.0 h.2.forced k.2.forced (long_stops p prefix room h.0 h.2) (dead_stops p prefix room k.0 k.2)) h.2.long k.2.short)
one_answer p prefix room (Long a) (Fork b c) h k =
    absurd (not_short p prefix room h.0 k.more (one_list p prefix room h.0 k.more h.2.forced k.fork.forced (long_stops p prefix room h.0 h.2) (fork_stops p prefix room k.more k.left k.right k.fork)) h.2.long k.fork.short)
one_answer p prefix room (Whole a) (Long b) h k =
    absurd (not_short p prefix room k.0 h.0 (one_list p prefix room k.0 h.0 k.2.forced h.2.forced (long_stops p prefix room k.0 k.2) (whole_stops p prefix room h.0 h.2)) k.2.long h.2.short)
one_answer p prefix room (Whole a) (Whole b) h k =
    ap Whole (h.1 ∙ ap (λ m. prefix ++ m) (one_list p prefix room h.0 k.0 h.2.forced k.2.forced (whole_stops p prefix room h.0 h.2) (whole_stops p prefix room k.0 k.2)) ∙ sym k.1)
one_answer p prefix room (Whole a) (Dead b) h k =
    let same = one_list p prefix room h.0 k.0 h.2.forced k.2.forced (whole_stops p prefix room h.0 h.2) (dead_stops p prefix room k.0 k.2) in
    absurd (k.2.no_path (subst (λ m. IsWhole p prefix room m) same h.2).path)
one_answer p prefix room (Whole a) (Fork b c) h k =
    let same = one_list p prefix room h.0 k.more h.2.forced k.fork.forced (whole_stops p prefix room h.0 h.2) (fork_stops p prefix room k.more k.left k.right k.fork) in
    absurd (not_at_exit p prefix room h.0 k.more k.left same h.2 k.fork.left_may)
one_answer p prefix room (Dead a) (Long b) h k =
    absurd (not_short p prefix room k.0 h.0 (one_list p prefix room k.0 h.0 k.2.forced h.2.forced (long_stops p prefix room k.0 k.2) (dead_stops p prefix room h.0 h.2)) k.2.long h.2.short)
one_answer p prefix room (Dead a) (Whole b) h k =
    let same = one_list p prefix room k.0 h.0 k.2.forced h.2.forced (whole_stops p prefix room k.0 k.2) (dead_stops p prefix room h.0 h.2) in
    absurd (h.2.no_path (subst (λ m. IsWhole p prefix room m) same k.2).path)
one_answer p prefix room (Dead a) (Dead b) h k =
    ap Dead (h.1 ∙ ap (λ m. prefix ++ m) (one_list p prefix room h.0 k.0 h.2.forced k.2.forced (dead_stops p prefix room h.0 h.2) (dead_stops p prefix room k.0 k.2)) ∙ sym k.1)
one_answer p prefix room (Dead a) (Fork b c) h k =
    let same = one_list p prefix room h.0 k.more h.2.forced k.fork.forced (dead_stops p prefix room h.0 h.2) (fork_stops p prefix room k.more k.left k.right k.fork) in
    absurd (h.2.none k.left (subst (λ m. MayFollow p prefix room m k.left) (sym same) k.fork.left_may))
one_answer p prefix room (Fork a c) (Long b) h k =
    absurd (not_short p prefix room k.0 h.more (one_list p prefix room k.0 h.more k.2.forced h.fork.forced (long_stops p prefix room k.0 k.2) (fork_stops p prefix room h.more h.left h.right h.fork)) k.2.long h.fork.short)
one_answer p prefix room (Fork a c) (Whole b) h k =
    let same = one_list p prefix room k.0 h.more k.2.forced h.fork.forced (whole_stops p prefix room k.0 k.2) (fork_stops p prefix room h.more h.left h.right h.fork) in
    absurd (not_at_exit p prefix room k.0 h.more h.left same k.2 h.fork.left_may)
one_answer p prefix room (Fork a c) (Dead b) h k =
    let same = one_list p prefix room k.0 h.more k.2.forced h.fork.forced (dead_stops p prefix room k.0 k.2) (fork_stops p prefix room h.more h.left h.right h.fork) in
    absurd (k.2.none h.left (subst (λ m. MayFollow p prefix room m h.left) (sym same) h.fork.left_may))
one_answer p prefix room (Fork a c) (Fork b d) h k =
    let same = one_list p prefix room h.more k.more h.fork.forced k.fork.forced (fork_stops p prefix room h.more h.left h.right h.fork) (fork_stops p prefix room k.more k.left k.right k.fork) in
    let both = same_fork p prefix room k.more a b h.left h.right k.left k.right (subst (λ m. IsFork p prefix room m h.left h.right) same h.fork) k.fork in
    let first : a ≡ b = h.first ∙ (λ i. (prefix ++ same i) ++ both.0 i ∷ []) ∙ sym k.first in
    let second : c ≡ d = h.second ∙ (λ i. (prefix ++ same i) ++ both.1 i ∷ []) ∙ sym k.second in
    λ i. Fork (first i) (second i)
