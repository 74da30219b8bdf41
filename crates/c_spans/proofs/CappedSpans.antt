-- Spans up to a cap: sums and products of capped numbers, cut at the cap, are those of the numbers themselves.
use Rattle.std.proofs.Common.{◌≡◌, ℕ, ◌+◌, ◌*◌, ◌≤◌, ◌<◌, ◌^◌, zero, suc, min, Bool, true, false, List, [], ◌∷◌, ◌++◌, map, Option, ⊎_elim, refl, sym, ap, ◌∙◌, arith, lit≤}
use Rattle.std.proofs.lemmas.Bool.{cases_lt}
use Rattle.c_tree.specs.declared.tree.Stmt.{Stmt, Row_of-Stmt, end_of-Stmt, more_of-Stmt, Held-Stmt-For-1, None', Some'}
use Rattle.c_tree.specs.declared.tree.Stmt.TheVariants.{Empty, Scalar, Array, Assign, Call, Break, Continue, Return, If', While', Do', For', Group'}
use Rattle.c_tree.specs.declared.program.Func.{Func}
use Rattle.c_tree.specs.Meaning.Blocks.{is_simple}
use Rattle.c_tree.specs.Meaning.Statements.{held_stmts}
use Rattle.c_tree.specs.Meaning.Spans.{begun_span, span_at, span, row_span, held_span, list_span, func_span, spans}
use Rattle.c_tree.proofs.Layers.SpanLayers.{span_layers}
use Rattle.c_spans.specs.Capped.{capped_span, capped_spans}

-- ---- sums and products

min_add : (a b c : ℕ) → min (min a c + min b c) c ≡ min (a + b) c
min_add a b c = omega arith

min_past : (a c : ℕ) → c ≤ a → min a c ≡ c
min_past a c h = omega arith

ge_mul : (a m : ℕ) → 1 ≤ m → a ≤ a * m
ge_mul a zero h = absurd (omega arith)
ge_mul a (suc m) h = omega arith

-- one factor is at the cap
mul_past : (a b c : ℕ) → 1 ≤ c → c ≤ a → min (c * min b c) c ≡ min (a * b) c
mul_past a zero c h ca =
    let none : min 0 c ≡ 0 = omega arith in
    let left : min (c * 0) c ≡ min (a * 0) c = omega arith in
    ap (λ n. min (c * n) c) none ∙ left
mul_past a (suc b) c h ca =
    let m = ge_mul a (suc b) (omega arith) in
    let n = ge_mul c (min (suc b) c) (omega arith) in
    min_past (c * min (suc b) c) c n ∙ sym (min_past (a * suc b) c (omega arith))

mul_swap : (a b : ℕ) → a * b ≡ b * a
mul_swap a b = omega arith

min_mul : (a b c : ℕ) → 1 ≤ c → min (min a c * min b c) c ≡ min (a * b) c
min_mul a b c h = ⊎_elim (λ ac. ⊎_elim (λ bc. small ac bc) (λ cb. right cb) (cases_lt b c)) (λ ca. left ca) (cases_lt a c)
  where
    small : a < c → b < c → min (min a c * min b c) c ≡ min (a * b) c
    small ac bc =
        let x : min a c ≡ a = omega arith in
        let y : min b c ≡ b = omega arith in
        λ i. min (x i * y i) c

    left : c ≤ a → min (min a c * min b c) c ≡ min (a * b) c
    left ca = ap (λ n. min (n * min b c) c) (min_past a c ca) ∙ mul_past a b c h ca

    right : c ≤ b → min (min a c * min b c) c ≡ min (a * b) c
    right cb =
        ap (λ n. min (min a c * n) c) (min_past b c cb) ∙ ap (λ n. min n c) (mul_swap (min a c) c) ∙ mul_past b a c h cb ∙ ap (λ n. min n c) (mul_swap b a)

pub capped_span-add : (a b : ℕ) → capped_span (capped_span a + capped_span b) ≡ capped_span (a + b)
unfolding capped_span
capped_span-add a b = min_add a b (2 ^ 64 + 1)

pub capped_span-mul : (a b : ℕ) → capped_span (capped_span a * capped_span b) ≡ capped_span (a * b)
unfolding capped_span
capped_span-mul a b = min_mul a b (2 ^ 64 + 1) (lit≤ tt)

pub capped_span-right : (a b : ℕ) → capped_span (a + capped_span b) ≡ capped_span (a + b)
unfolding capped_span
capped_span-right a b = omega arith

pub capped_span-twice : (a : ℕ) → capped_span (capped_span a) ≡ capped_span a
unfolding capped_span
capped_span-twice a = omega arith

min_step : (t n rest c : ℕ) → min (min (t + min n c) c + rest) c ≡ min (t + (n + rest)) c
min_step t n rest c = omega arith

-- the step of a sum that is cut at the cap
pub capped_span-step : (t n rest : ℕ) → capped_span (capped_span (t + capped_span n) + rest) ≡ capped_span (t + (n + rest))
unfolding capped_span
capped_span-step t n rest = min_step t n rest (2 ^ 64 + 1)

-- numbers that are the same up to the cap
pub add_alike : (a b c d : ℕ) → capped_span a ≡ capped_span c → capped_span b ≡ capped_span d → capped_span (a + b) ≡ capped_span (c + d)
add_alike a b c d e f = sym (capped_span-add a b) ∙ (λ i. capped_span (e i + f i)) ∙ capped_span-add c d

pub mul_alike : (a b c d : ℕ) → capped_span a ≡ capped_span c → capped_span b ≡ capped_span d → capped_span (a * b) ≡ capped_span (c * d)
mul_alike a b c d e f = sym (capped_span-mul a b) ∙ (λ i. capped_span (e i * f i)) ∙ capped_span-mul c d

-- ---- spans

-- the same spans above, up to the cap
abbrev pub Alike : List ℕ → List ℕ → Type 0
Alike ss ts = (g : ℕ) → capped_span (span_at ss g) ≡ capped_span (span_at ts g)

begun_alike : (k l : ℕ) (run : Bool) → capped_span k ≡ capped_span l → capped_span (begun_span k run) ≡ capped_span (begun_span l run)
begun_alike k l true e = refl
begun_alike k l false e = e

mutual
  unfolding span row_span held_span

  pub span_alike : (ss ts : List ℕ) (k l : ℕ) → Alike ss ts → capped_span k ≡ capped_span l → (s : Stmt) (run : Bool) → capped_span (span ss k s run) ≡ capped_span (span ts l s run)
  span_alike ss ts k l h e Empty run = begun_alike k l run e
  span_alike ss ts k l h e (Scalar n x) run = begun_alike k l run e
  span_alike ss ts k l h e (Array n xs) run = begun_alike k l run e
  span_alike ss ts k l h e (Assign p op x) run = begun_alike k l run e
  span_alike ss ts k l h e (Call t g xs) run = add_alike _ _ _ _ e (mul_alike _ _ _ _ e (h g))
  span_alike ss ts k l h e Break run = e
  span_alike ss ts k l h e Continue run = e
  span_alike ss ts k l h e (Return x) run = e
  span_alike ss ts k l h e (If' c a x b y) run =
      add_alike _ _ _ _ (add_alike _ _ _ _ e (row_alike ss ts k l h e x false)) (row_alike ss ts k l h e y false)
  span_alike ss ts k l h e (While' b c a x) run =
      add_alike _ _ _ _ (mul_alike _ _ _ _ e refl) (row_alike ss ts (k * b) (l * b) h (mul_alike _ _ _ _ e refl) x false)
  span_alike ss ts k l h e (Do' b a x c) run =
      add_alike _ _ _ _ (row_alike ss ts (k * b) (l * b) h (mul_alike _ _ _ _ e refl) x false) (mul_alike _ _ _ _ e refl)
  span_alike ss ts k l h e (For' b i c j a x) run =
      add_alike _ _ _ _ (add_alike _ _ _ _ (add_alike _ _ _ _ (held_alike ss ts k l h e i) (mul_alike _ _ _ _ e refl)) (held_alike ss ts (k * b) (l * b) h (mul_alike _ _ _ _ e refl) j)) (row_alike ss ts (k * b) (l * b) h (mul_alike _ _ _ _ e refl) x false)
  span_alike ss ts k l h e (Group' a x) run = row_alike ss ts k l h e x false

  row_alike : {m : _} (ss ts : List ℕ) (k l : ℕ) → Alike ss ts → capped_span k ≡ capped_span l → (x : Row_of-Stmt m) (run : Bool) → capped_span (row_span ss k x run) ≡ capped_span (row_span ts l x run)
  row_alike ss ts k l h e end_of-Stmt run = refl
  row_alike ss ts k l h e (more_of-Stmt s rest) run =
      add_alike _ _ _ _ (span_alike ss ts k l h e s run) (row_alike ss ts k l h e rest (is_simple s))

  held_alike : (ss ts : List ℕ) (k l : ℕ) → Alike ss ts → capped_span k ≡ capped_span l → (x : Held-Stmt-For-1) → capped_span (held_span ss k x) ≡ capped_span (held_span ts l x)
  held_alike ss ts k l h e None' = refl
  held_alike ss ts k l h e (Some' a x) = row_alike ss ts k l h e x false

pub list_alike : (ss ts : List ℕ) (k l : ℕ) → Alike ss ts → capped_span k ≡ capped_span l → (xs : List Stmt) (run : Bool) → capped_span (list_span ss k xs run) ≡ capped_span (list_span ts l xs run)
list_alike ss ts k l h e [] run = refl
list_alike ss ts k l h e (x ∷ xs) run = add_alike _ _ _ _ (span_alike ss ts k l h e x run) (list_alike ss ts k l h e xs (is_simple x))

-- at a capped scale
pub capped_span-list : (ss : List ℕ) (k : ℕ) (xs : List Stmt) (run : Bool) → capped_span (list_span ss (capped_span k) xs run) ≡ capped_span (list_span ss k xs run)
capped_span-list ss k xs run = list_alike ss ss (capped_span k) k (λ g. refl) (capped_span-twice k) xs run

-- the parts of a `for`
pub for_capped : (ss : List ℕ) (k b : ℕ) (i j : Option Stmt) (xs : List Stmt) (inside first condition step body one two three : ℕ)
    → inside ≡ capped_span (k * b) → first ≡ capped_span (list_span ss k (held_stmts i) false) → condition ≡ capped_span (k * (b + 1)) → step ≡ capped_span (list_span ss inside (held_stmts j) false) → body ≡ capped_span (list_span ss inside xs false)
    → one ≡ capped_span (first + condition) → two ≡ capped_span (one + step) → three ≡ capped_span (two + body)
    → three ≡ capped_span (list_span ss k (held_stmts i) false + k * (b + 1) + list_span ss (k * b) (held_stmts j) false + list_span ss (k * b) xs false)
for_capped ss k b i j xs inside first condition step body one two three scale initial head next rest h g f =
    let p = list_span ss k (held_stmts i) false in
    let q = k * (b + 1) in
    let r = list_span ss (k * b) (held_stmts j) false in
    let u = list_span ss (k * b) xs false in
    let stepped = next ∙ ap (λ n. capped_span (list_span ss n (held_stmts j) false)) scale ∙ capped_span-list ss (k * b) (held_stmts j) false in
    let repeated = rest ∙ ap (λ n. capped_span (list_span ss n xs false)) scale ∙ capped_span-list ss (k * b) xs false in
    let sum_one = h ∙ (λ n. capped_span (initial n + head n)) ∙ capped_span-add p q in
    let sum_two = g ∙ (λ n. capped_span (sum_one n + stepped n)) ∙ capped_span-add (p + q) r in
    f ∙ (λ n. capped_span (sum_two n + repeated n)) ∙ capped_span-add (p + q + r) u

pub capped_span-zero : capped_span 0 ≡ 0
unfolding capped_span
capped_span-zero = refl

pub ruleset capped_layers = (span_layers, capped_span-step, capped_span-right, capped_span-add, capped_span-mul, capped_span-twice, capped_span-list, capped_span-zero)

-- ---- the spans of functions

at_capped : (ss : List ℕ) (g : ℕ) → capped_span (span_at (map capped_span ss) g) ≡ capped_span (span_at ss g)
at_capped [] g = refl
at_capped (s ∷ ss) zero = capped_span-twice s
at_capped (s ∷ ss) (suc g) = at_capped ss g

map_append : (xs ys : List ℕ) → map capped_span (xs ++ ys) ≡ map capped_span xs ++ map capped_span ys
map_append [] ys = refl
map_append (x ∷ xs) ys = ap (λ l. capped_span x ∷ l) (map_append xs ys)

capped_spans-map : (ss : List ℕ) (fs : List Func) → capped_spans (map capped_span ss) fs ≡ map capped_span (spans ss fs)
capped_spans-map ss [] = refl
capped_spans-map ss (f ∷ fs) =
    let one = list_alike (map capped_span ss) ss 1 1 (at_capped ss) refl f.body false in
    ap (λ xs. capped_spans xs fs) (ap (λ n. map capped_span ss ++ n ∷ []) one ∙ sym (map_append ss (func_span ss f ∷ [])))
    ∙ capped_spans-map (ss ++ func_span ss f ∷ []) fs

pub spans_capped : (fs : List Func) → capped_spans [] fs ≡ map capped_span (spans [] fs)
spans_capped fs = capped_spans-map [] fs
