-- The cap of each node of a program's graph is what a run can visit.
use Rattle.std.proofs.Common.{◌≡◌, ◌≢◌, ◌≤◌, ◌<◌, ℕ, zero, suc, ◌+◌, ◌*◌, false, if◌then◌else◌, List, [], ◌∷◌, ◌++◌, length, Option, Some, None, refl, sym, ap, ◌∙◌, subst, arith}
use Rattle.std.specs.Prelude.{slice_get}
use Rattle.std.proofs.lemmas.Bool.{eq-eqb, ne_eqb}
use Rattle.c_tree.specs.declared.program.BlockName.{BlockName}
use Rattle.c_tree.specs.declared.program.Func.{Func}
use Rattle.c_tree.specs.declared.program.Program.{Program}
use Rattle.c_tree.specs.declared.tree.Stmt.TheBlock.{hidden-the_row-Stmt-0}
use Rattle.flow_laws.specs.Sites.{Site, Position, Copy}
use Rattle.flow_laws.specs.Graphs.{all_to, copy_of, copies, sites_of, graph}
use Rattle.flow_laws.specs.Paths.{cap_of}
use Rattle.flow_laws.proofs.Driving.DrivingSteps.{hit}
use Rattle.flow_laws.proofs.Graphs.PartSizes.{HaveSizes}
use Rattle.flow_laws.proofs.Runs.CopiesSound.{row_flows, row_onces, list_length, copy_once, once_at, all_once, onces}
use Rattle.flow_laws.proofs.Caps.CapsOfParts.{weigh, HaveWeights, row_weighs}
use Rattle.flow_laws.proofs.Runs.TracesOfPaths.{most}

-- ---- the copies

pub record IsWeighed (c : Copy) (m : ℕ → ℕ → ℕ) : Type 0 where
  pub size_is : (h : List BlockName) (s n l : ℕ) → length (c.sites h s n l) ≡ c.size
  pub weight_is : (h : List BlockName) (s n l x : ℕ) → weigh x n (c.sites h s n l) ≡ s * m x n

abbrev AreWeighed : List Copy → List (ℕ → ℕ → ℕ) → Type 0
AreWeighed [] [] = Unit {0}
AreWeighed (c ∷ cs) (m ∷ ms) = IsWeighed c m × AreWeighed cs ms
AreWeighed _ _ = ⊥

weighed_at : (cs : List Copy) (ms : List (ℕ → ℕ → ℕ)) → AreWeighed cs ms → (g : ℕ) (c : Copy) → slice_get cs g ≡ Some c → IsWeighed c (once_at ms g)
weighed_at [] [] h g c e = absurd (cc)
weighed_at [] (m ∷ ms) h g c e = absurd h
weighed_at (d ∷ cs) [] h g c e = absurd h
weighed_at (d ∷ cs) (m ∷ ms) h zero c e = let p : d ≡ c = cc in subst (λ y. IsWeighed y m) p h.0
weighed_at (d ∷ cs) (m ∷ ms) h (suc g) c e = weighed_at cs ms h.1 g c e

weighed_none : (cs : List Copy) (ms : List (ℕ → ℕ → ℕ)) → AreWeighed cs ms → (g x n : ℕ) → slice_get cs g ≡ None → once_at ms g x n ≡ 0
weighed_none [] [] h g x n e = refl
weighed_none [] (m ∷ ms) h g x n e = absurd h
weighed_none (d ∷ cs) [] h g x n e = absurd h
weighed_none (d ∷ cs) (m ∷ ms) h zero x n e = absurd (cc)
weighed_none (d ∷ cs) (m ∷ ms) h (suc g) x n e = weighed_none cs ms h.1 g x n e

weighed_more : (cs : List Copy) (ms : List (ℕ → ℕ → ℕ)) (c : Copy) (m : ℕ → ℕ → ℕ) → AreWeighed cs ms → IsWeighed c m → AreWeighed (cs ++ c ∷ []) (ms ++ m ∷ [])
weighed_more [] [] c m h is = (is, tt)
weighed_more [] (o ∷ ms) c m h is = absurd h
weighed_more (d ∷ cs) [] c m h is = absurd h
weighed_more (d ∷ cs) (o ∷ ms) c m h is = (h.0, weighed_more cs ms c m h.1 is)

abbrev placed : ℕ → List BlockName → ℕ → Position
placed k chain scale = record { func = k; chain = chain; scale = scale }

copy_weighed : (cs : List Copy) (ms : List (ℕ → ℕ → ℕ)) (k : ℕ) (f : Func) → AreWeighed cs ms → IsWeighed (copy_of k f cs) (copy_once (once_at ms) cs f)
copy_weighed cs ms k f h =
    let sizes : HaveSizes cs = λ g c e. (weighed_at cs ms h g c e).size_is in
    let weights : HaveWeights cs (once_at ms) = λ g c e. (weighed_at cs ms h g c e).weight_is in
    record {
      size_is = λ chain s n l. list_length cs (placed k chain s) f.body n (all_to l) sizes;
      weight_is = λ chain s n l x. let w = placed k chain s in let r = hidden-the_row-Stmt-0 f.body in ap (weigh x n) (sym (row_flows cs w f.body 0 n [] (all_to l))) ∙ row_weighs cs (once_at ms) sizes weights x w r 0 n [] (all_to l) ∙ ap (λ y. s * y) (row_onces (once_at ms) cs f.body false x n);
    }

all_weighed : (funcs : List Func) (cs : List Copy) (ms : List (ℕ → ℕ → ℕ)) → AreWeighed cs ms → AreWeighed (copies cs funcs) (all_once ms cs funcs)
all_weighed [] cs ms h = h
all_weighed (f ∷ fs) cs ms h =
    all_weighed fs (cs ++ copy_of (length cs) f cs ∷ []) (ms ++ copy_once (once_at ms) cs f ∷ []) (weighed_more cs ms (copy_of (length cs) f cs) (copy_once (once_at ms) cs f) h (copy_weighed cs ms (length cs) f h))

-- ---- the graph

pub hit_same : (x n : ℕ) → x ≡ n → hit x n ≡ 1
unfolding hit
hit_same x n e = ap (λ b. if b then 1 else 0) (eq-eqb x n e)

pub hit_other : (x n : ℕ) → x ≢ n → hit x n ≡ 0
unfolding hit
hit_other x n e = ap (λ b. if b then 1 else 0) (ne_eqb x n e)

weigh_below : (x n : ℕ) (g : List Site) → x < n → weigh x n g ≡ 0
weigh_below x n [] lt = refl
weigh_below x n (s ∷ g) lt =
    omega (arith, ap (λ y. y * s.node.cap) (hit_other x n (λ e. omega (arith, lt, e))), weigh_below x (n + 1) g (omega (arith, lt)))

weigh_at : (i n : ℕ) (g : List Site) → weigh (n + i) n g ≡ cap_of (slice_get g i)
weigh_at i n [] = refl
weigh_at zero n (s ∷ g) =
    omega (arith, ap (λ y. y * s.node.cap) (hit_same (n + 0) n (omega arith)), weigh_below (n + 0) (n + 1) g (omega arith))
weigh_at (suc i) n (s ∷ g) =
    let z : n + 1 + i ≡ n + suc i = omega arith in
    omega (arith, ap (λ y. y * s.node.cap) (hit_other (n + suc i) n (λ e. omega (arith, e))), ap (λ y. weigh y (n + 1) g) z, weigh_at i (n + 1) g)

weigh_whole : (o : Option Copy) (m : ℕ → ℕ → ℕ) (x : ℕ) → ((c : Copy) → o ≡ Some c → IsWeighed c m) → (o ≡ None → m x 2 ≡ 0) → hit x 0 + m x 2 ≤ weigh x 0 (sites_of o)
weigh_whole None m x some none = omega (arith, none refl)
weigh_whole (Some c) m x some none = omega (arith, (some c refl).weight_is [] 1 2 1 x)

pub most_is : (p : Program) (x : ℕ) → most p x ≤ cap_of (slice_get (graph p) x)
unfolding graph
most_is p x =
    let cs = copies [] p.funcs in
    let ms = all_once [] [] p.funcs in
    let h = all_weighed p.funcs [] [] tt in
    let o = slice_get cs p.entry in
    let z : 0 + x ≡ x = omega arith in
    let whole = weigh_whole o (onces p.funcs p.entry) x (λ c e. weighed_at cs ms h p.entry c e) (λ e. weighed_none cs ms h p.entry x 2 e) in
    omega (arith, whole, ap (λ y. weigh y 0 (sites_of o)) z, weigh_at x 0 (sites_of o))
