-- Calls in turn: what is laid out and what is still to come.
use Rattle.std.proofs.Common.{◌≡◌, ℕ, zero, suc, ◌+◌, ◌-◌, ◌^◌, ◌<◌, ◌≤◌, min, Bool, true, false, if◌then◌else◌, List, [], ◌∷◌, ◌++◌, length, take, get_or, Option, Some, None, option_map, refl, sym, ap, ◌∙◌, subst, arith, append_assoc, append-nil, length-append, length-take, zero-add}
use Rattle.std.specs.Prelude.{slice_get, unwrap_or, nat_lt}
use Rattle.std.proofs.lemmas.Bool.{lt-ltb, le-ltb}
use Rattle.c_tree.specs.declared.program.BlockName.{BlockName}
use Rattle.c_tree.specs.declared.program.Func.{Func}
use Rattle.c_tree.specs.declared.tree.Stmt.{Stmt}
use Rattle.flow_laws.specs.Sites.{Copy, head, list_size}
use Rattle.flow_laws.specs.Graphs.{all_to, copies, copy_of, sites_of}
use Rattle.graph_lists.specs.declared.spot.Spot.{Spot}
use Rattle.graph_lists.specs.declared.spot.Ends.TheVariants as ends
use Rattle.flow_graph.specs.declared.layout.Item.{Item}
use Rattle.graph_lists.specs.Amounts.{capped_amount, amounts}
use Rattle.flow_graph.specs.Spots.{spots}
use Rattle.flow_graph.specs.Layout.{each, AreSizes, copies_above, position_at, HasRoom, body_spots, copy_spots, item_spots, laid_out, laid_back, list_spots, outer_spot}
use Rattle.flow_graph.proofs.Layouts.Along.{list_spots_is}
use Rattle.flow_graph.proofs.Layouts.Copied.{copy_at, size_at}
use Rattle.flow_graph.proofs.Layouts.Laid.{laid_last}
use Rattle.graph_lists.proofs.Sums.{amounts_take, amounts_length}

pub back_last : (all : List Copy) (xs : List Item) (x : Item) → laid_back all (xs ++ x ∷ []) ≡ item_spots all x ++ laid_back all xs
back_last all [] x = sym (append-nil (item_spots all x))
back_last all (y ∷ xs) x = ap (λ z. z ++ item_spots all y) (back_last all xs x) ∙ append_assoc (item_spots all x) (laid_back all xs) (item_spots all y)

-- one item is moved
pub moved : (all : List Copy) (old new todo later : List Item) (x : Item) (whole : List Spot) → old ≡ new ++ x ∷ [] → later ≡ todo ++ x ∷ [] → laid_out all old ++ laid_back all todo ≡ whole → laid_out all new ++ laid_back all later ≡ whole
moved all old new todo later x whole e1 e2 h =
    ap (λ y. laid_out all new ++ laid_back all y) e2 ∙ ap (λ y. laid_out all new ++ y) (back_last all todo x) ∙ sym (append_assoc (laid_out all new) (item_spots all x) (laid_back all todo)) ∙ ap (λ y. y ++ laid_back all todo) (sym (laid_last all new x)) ∙ ap (λ y. laid_out all y ++ laid_back all todo) (sym e1) ∙ h

-- ---- places in lists

pub record Got {X : Type 0} (xs : List X) (n : ℕ) : Type 0 where
  pub value : X
  pub is : slice_get xs n ≡ Some value

pub got : {X : Type 0} → (xs : List X) (n : ℕ) → n < length xs → Got xs n
got [] n lt = absurd (omega (arith, lt))
got (y ∷ xs) zero lt = record { value = y; is = refl }
got (y ∷ xs) (suc n) lt = let r = got xs n (omega (arith, lt)) in record { value = r.value; is = r.is }

-- ---- a function's copy

module _ (funcs : List Func) (sizes : List ℕ) (known : sizes ≡ amounts each [] funcs) where
  pub long : length sizes ≡ length funcs
  long = ap length known ∙ amounts_length each [] funcs ∙ zero-add (length funcs)

  pub cut : (f : ℕ) → f < length funcs → f ≡ length (take f sizes)
  cut f h = omega (arith, h, long, length-take f sizes)

  pub above : (f : ℕ) → f < length funcs → AreSizes funcs (take f sizes) f
  above f h = record { sizes = ap (take f) known ∙ amounts_take each funcs f h; within = h }

  pub size_is : (g : ℕ) → slice_get sizes g ≡ option_map (λ c. capped_amount c.size) (slice_get (copies [] funcs) g)
  size_is g = ap (λ ds. slice_get ds g) known ∙ size_at funcs g

pub copy_is : (funcs : List Func) (g : ℕ) (f : Func) → slice_get funcs g ≡ Some f → slice_get (copies [] funcs) g ≡ Some (copy_of g f (copies_above funcs g))
copy_is funcs g f e =
    ap (slice_get (copies [] funcs)) (sym (zero-add g)) ∙ copy_at [] funcs g ∙ ap (option_map (λ f. copy_of (0 + g) f (copies_above funcs g))) e ∙ ap (λ z. Some (copy_of z f (copies_above funcs g))) (zero-add g)

pub body_room : (funcs : List Func) (g n : ℕ) (f : Func) (xs : List Stmt) → slice_get funcs g ≡ Some f → xs ≡ f.body → HasRoom (slice_get (copies [] funcs) g) n → n + list_size (copies_above funcs g) xs false < 2 ^ 32
body_room funcs g n f xs e hx h =
    let r : HasRoom (Some (copy_of g f (copies_above funcs g))) n = subst (λ o. HasRoom o n) (copy_is funcs g f e) h in
    let s : list_size (copies_above funcs g) xs false ≡ list_size (copies_above funcs g) f.body false = ap (λ ys. list_size (copies_above funcs g) ys false) hx in
    omega (arith, r, s)

pub body_is : (funcs : List Func) (g : ℕ) (f : Func) (xs : List Stmt) (chain : List BlockName) (scale n landing : ℕ) → slice_get funcs g ≡ Some f → xs ≡ f.body
    → list_spots (copies_above funcs g) (position_at g chain scale) xs 0 n false (all_to landing) ≡ body_spots (slice_get (copies [] funcs) g) chain scale n landing
body_is funcs g f xs chain scale n landing e hx =
    ap (λ ys. list_spots (copies_above funcs g) (position_at g chain scale) ys 0 n false (all_to landing)) hx ∙ sym (list_spots_is (copies_above funcs g) (position_at g chain scale) f.body 0 n [] (all_to landing)) ∙ ap (λ o. body_spots o chain scale n landing) (sym (copy_is funcs g f e))

pub pushed : (funcs : List Func) (g : ℕ) (f : Func) (xs : List Stmt) (chain : List BlockName) (scale n landing : ℕ) (first items new old : List Item) → slice_get funcs g ≡ Some f → xs ≡ f.body → first ≡ []
    → laid_out (copies [] funcs) items ≡ laid_out (copies [] funcs) first ++ list_spots (copies_above funcs g) (position_at g chain scale) xs 0 n false (all_to landing)
    → laid_back (copies [] funcs) new ≡ laid_out (copies [] funcs) items ++ laid_back (copies [] funcs) old
    → laid_back (copies [] funcs) new ≡ body_spots (slice_get (copies [] funcs) g) chain scale n landing ++ laid_back (copies [] funcs) old
pushed funcs g f xs chain scale n landing first items new old e hx he h1 h2 =
    let all = copies [] funcs in
    h2 ∙ ap (λ y. y ++ laid_back all old) (h1 ∙ ap (λ y. laid_out all y ++ list_spots (copies_above funcs g) (position_at g chain scale) xs 0 n false (all_to landing)) he ∙ body_is funcs g f xs chain scale n landing e hx)

-- ---- a callee's copy

pub none_of : (o : Option Copy) → None ≡ option_map (λ c. capped_amount c.size) o → o ≡ None
none_of None e = refl
none_of (Some c) e = absurd (cc)

pub no_copy : (o : Option Copy) (d : Option ℕ) (chain : List BlockName) (scale n : ℕ) (rest : List Spot) → d ≡ option_map (λ c. capped_amount c.size) o → d ≡ None → rest ≡ copy_spots o chain scale n ++ rest
no_copy o d chain scale n rest e h = ap (λ x. copy_spots x chain scale n ++ rest) (sym (none_of o (sym h ∙ e)))

fits : (m s d l n : ℕ) → d ≡ min s m → l ≡ min (d + n) m → 2 ^ 32 ≤ m → l < 2 ^ 32 → l ≡ n + s
fits m s d l n e1 e2 h lt = omega (arith, e1, e2, h, lt)

pub has_room : (o : Option Copy) (d l n : ℕ) → Some d ≡ option_map (λ c. capped_amount c.size) o → l ≡ min (d + n) (2 ^ 64 - 1) → l < 2 ^ 32 → HasRoom o n
has_room None d l n e h lt = tt
has_room (Some c) d l n e h lt =
    let p : d ≡ capped_amount c.size = cc in
    let q = fits (2 ^ 64 - 1) c.size d l n p h (omega arith) lt in
    omega (arith, q, lt)

choice_true : (b : Bool) (xs ys : List Spot) → b ≡ true → (if b then xs else ys) ≡ xs
choice_true true xs ys e = refl
choice_true false xs ys e = absurd (cc)

choice_false : (b : Bool) (xs ys : List Spot) → b ≡ false → (if b then xs else ys) ≡ ys
choice_false true xs ys e = absurd (cc)
choice_false false xs ys e = refl

pub copied : (o : Option Copy) (d l n scale : ℕ) (chain : List BlockName) → Some d ≡ option_map (λ c. capped_amount c.size) o → l ≡ min (d + n) (2 ^ 64 - 1) → l < 2 ^ 32 → body_spots o chain scale n l ≡ copy_spots o chain scale n
copied None d l n scale chain e h lt = refl
copied (Some c) d l n scale chain e h lt =
    let p : d ≡ capped_amount c.size = cc in
    let q = fits (2 ^ 64 - 1) c.size d l n p h (omega arith) lt in
    let below : n + c.size < 2 ^ 32 = omega (arith, q, lt) in
    ap (λ z. spots (c.sites chain scale n z)) q ∙ sym (choice_true (nat_lt (n + c.size) (2 ^ 32)) (spots (c.sites chain scale n (n + c.size))) [] (lt-ltb (n + c.size) (2 ^ 32) below))

far : (m s d l n : ℕ) → d ≡ min s m → l ≡ min (d + n) m → 2 ^ 32 ≤ l → 2 ^ 32 ≤ n + s
far m s d l n e1 e2 h = omega (arith, e1, e2, h)

pub too_far : (o : Option Copy) (d l n scale : ℕ) (chain : List BlockName) (rest : List Spot) → Some d ≡ option_map (λ c. capped_amount c.size) o → l ≡ min (d + n) (2 ^ 64 - 1) → 2 ^ 32 ≤ l → rest ≡ copy_spots o chain scale n ++ rest
too_far None d l n scale chain rest e h le = refl
too_far (Some c) d l n scale chain rest e h le =
    let p : d ≡ capped_amount c.size = cc in
    let q = far (2 ^ 64 - 1) c.size d l n p h le in
    ap (λ y. y ++ rest) (sym (choice_false (nat_lt (n + c.size) (2 ^ 32)) (spots (c.sites chain scale n (n + c.size))) [] (le-ltb (n + c.size) (2 ^ 32) q)))

-- ---- the first nodes

pub first_is : (s : ℕ) → 2 + s < 2 ^ 32 → capped_amount s ≡ s
first_is s h = omega (arith, h)

begins : (o : Option Copy) (c : Copy) (d : Option ℕ) → o ≡ Some c → d ≡ option_map (λ c. capped_amount c.size) o → HasRoom o 2 → spots (sites_of o) ≡ outer_spot ends.Once (head (unwrap_or d 0) 2 1) ∷ outer_spot ends.Never 1 ∷ body_spots o [] 1 2 1
begins None c d e h r = absurd (cc)
begins (Some x) c d e h r =
    ap (λ z. outer_spot ends.Once (head z 2 1) ∷ outer_spot ends.Never 1 ∷ spots (x.sites [] 1 2 1)) (sym (first_is x.size r) ∙ ap (λ z. unwrap_or z 0) (sym h))

pub begun : (funcs : List Func) (sizes : List ℕ) (g : ℕ) (out0 out1 out2 : List Spot) (todo0 todo : List Item) (e0 e1 : Spot) → sizes ≡ amounts each [] funcs → g < length funcs → HasRoom (slice_get (copies [] funcs) g) 2
    → out0 ≡ [] → out1 ≡ out0 ++ e0 ∷ [] → e0 ≡ outer_spot ends.Once (head (unwrap_or (slice_get sizes g) 0) 2 1) → out2 ≡ out1 ++ e1 ∷ [] → e1 ≡ outer_spot ends.Never 1 → todo0 ≡ []
    → laid_back (copies [] funcs) todo ≡ body_spots (slice_get (copies [] funcs) g) [] 1 2 1 ++ laid_back (copies [] funcs) todo0
    → out2 ++ laid_back (copies [] funcs) todo ≡ spots (sites_of (slice_get (copies [] funcs) g))
begun funcs sizes g out0 out1 out2 todo0 todo e0 e1 known lt room h0 h1 h2 h3 h4 h5 h6 =
    let all = copies [] funcs in
    let o = slice_get all g in
    let f = got funcs g lt in
    let body = body_spots o [] 1 2 1 in
    let front : out2 ≡ outer_spot ends.Once (head (unwrap_or (slice_get sizes g) 0) 2 1) ∷ outer_spot ends.Never 1 ∷ [] = h3 ∙ ap (λ y. y ++ e1 ∷ []) (h1 ∙ ap (λ y. y ++ e0 ∷ []) h0) ∙ (λ i. h2 i ∷ h4 i ∷ []) in
    let tail : laid_back all todo ≡ body = h6 ∙ ap (λ y. body ++ laid_back all y) h5 ∙ append-nil body in
    (λ i. front i ++ tail i) ∙ sym (begins o (copy_of g f.value (copies_above funcs g)) (slice_get sizes g) (copy_is funcs g f.value f.is) (size_is funcs sizes known g) room)

-- ---- one more node

pub stepped : (all : List Copy) (old new : List Item) (x : Item) (out more whole : List Spot) (later : List Item) → old ≡ new ++ x ∷ [] → more ++ laid_back all later ≡ out ++ (item_spots all x ++ laid_back all new) → out ++ laid_back all old ≡ whole → more ++ laid_back all later ≡ whole
stepped all old new x out more whole later e h k =
    h ∙ ap (λ y. out ++ y) (sym (back_last all new x)) ∙ ap (λ y. out ++ laid_back all y) (sym e) ∙ k

shorter : (a b c w : ℕ) → b ≡ suc a → b + c ≡ w → w - b < w - a
shorter a b c w e h = omega (arith, e, h)

pub smaller : (out more rest whole : List Spot) → length more ≡ suc (length out) → more ++ rest ≡ whole → length whole - length more < length whole - length out
smaller out more rest whole e h = shorter (length out) (length more) (length rest) (length whole) e (sym (length-append more rest) ∙ ap length h)

pub no_rest : (all : List Copy) (todo : List Item) (out whole : List Spot) → todo ≡ [] → out ++ laid_back all todo ≡ whole → out ≡ whole
no_rest all todo out whole e h = sym (append-nil out) ∙ ap (λ y. out ++ laid_back all y) (sym e) ∙ h
