-- A call, as it is laid out.
use Rattle.std.proofs.Common.{◌≡◌, ℕ, suc, ◌+◌, ◌-◌, ◌^◌, ◌<◌, min, if◌then◌else◌, List, [], ◌∷◌, ◌++◌, take, Option, Some, None, option_map, refl, sym, ap, ◌∙◌, arith, append_assoc}
use Rattle.std.specs.Prelude.{slice_get}
use Rattle.std.proofs.lemmas.Bool.{lt-ltb}
use Rattle.std.proofs.lemmas.List.{map-append}
use Rattle.c_tree.specs.declared.tree.Expr.{Expr}
use Rattle.c_tree.specs.declared.tree.Target.{Target}
use Rattle.c_tree.specs.declared.program.BlockName.{BlockName}
use Rattle.c_tree.specs.declared.program.Func.{Func}
use Rattle.c_tree.specs.Meaning.Statements.{block}
use Rattle.flow_laws.specs.Sites.{Copy, Land, call_sites, call_size, head, one_end_site}
use Rattle.flow_laws.specs.Graphs.{copies}
use Rattle.graph_lists.specs.declared.spot.Spot.{Spot}
use Rattle.graph_lists.specs.declared.spot.Ends.TheVariants as ends
use Rattle.flow_graph.specs.declared.layout.Item.{Item}
use Rattle.flow_graph.specs.declared.layout.Item.TheVariants as item
use Rattle.graph_lists.specs.Amounts.{capped_amount}
use Rattle.flow_graph.specs.Spots.{spot_of, spots}
use Rattle.flow_graph.specs.Layout.{AreSizes, copies_above, position_at, copy_spots, spot_at, landing_at, laid_out}
use Rattle.flow_graph.proofs.Alike.{copies_alike}
use Rattle.flow_graph.proofs.Layouts.Copied.{copy_of_all, size_above}
use Rattle.flow_graph.proofs.Layouts.Laid.{laid_last, laid_one}
use Rattle.plain_laws.proofs.Numbers.{min_twice}
use Rattle.flow_graph.proofs.Layouts.Unfolded.{none_of}

small : (n s d : ℕ) → d ≡ min s (2 ^ 64 - 1) → n + suc (suc s) < 2 ^ 32 → d ≡ s
small n s d e h = omega (arith, e, h)

-- the copy of which the code knows the size
pub record Known (o : Option Copy) (d : ℕ) : Type 0 where
  pub copy : Copy
  pub is : o ≡ Some copy
  pub size : d ≡ copy.size

known_of : (o : Option Copy) (d n : ℕ) → Some d ≡ option_map (λ c. capped_amount c.size) o → n + call_size o < 2 ^ 32 → Known o d
known_of None d n e h = absurd (cc)
known_of (Some c) d n e h = let p : d ≡ capped_amount c.size = cc in record { copy = c; is = refl; size = small n c.size d p h }

pub known : (funcs : List Func) (above : List ℕ) (f g d n : ℕ) → AreSizes funcs above f → slice_get above g ≡ Some d → n + call_size (slice_get (copies_above funcs f) g) < 2 ^ 32 → Known (slice_get (copies_above funcs f) g) d
known funcs above f g d n sizes e h = known_of (slice_get (copies_above funcs f) g) d n (sym e ∙ size_above funcs above f g sizes) h

pub unknown : (funcs : List Func) (above : List ℕ) (f g : ℕ) → AreSizes funcs above f → slice_get above g ≡ None → slice_get (copies_above funcs f) g ≡ None
unknown funcs above f g sizes e = none_of (slice_get (copies_above funcs f) g) (sym e ∙ size_above funcs above f g sizes)

pub room : (o : Option Copy) (d n : ℕ) → Known o d → n + call_size o < 2 ^ 32 → n + 1 + d < 2 ^ 32
room o d n k h = let e : call_size o ≡ suc (suc k.copy.size) = ap call_size k.is in omega (arith, e, h, k.size)

fits : (n s : ℕ) → n + suc (suc s) < 2 ^ 32 → n + 1 + s < 2 ^ 32
fits n s h = omega (arith, h)

copy_is : (o : Option Copy) (c : Copy) (chain : List BlockName) (s n : ℕ) → o ≡ Some c → n + c.size < 2 ^ 32 → copy_spots o chain s n ≡ spots (c.sites chain s n (n + c.size))
copy_is o c chain s n e h =
    ap (λ x. copy_spots x chain s n) e ∙ ap (λ b. if b then spots (c.sites chain s n (n + c.size)) else []) (lt-ltb (n + c.size) (2 ^ 32) h)

-- the call's node, the callee's copy and the landing
call_spots : (funcs : List Func) (f g : ℕ) (chain : List BlockName) (scale b n next : ℕ) (c : Copy) (t : Target) (es : List Expr) → slice_get (copies_above funcs f) g ≡ Some c → n + suc (suc c.size) < 2 ^ 32
    → spot_at (position_at f chain scale) b ends.Once (head c.size (n + 1) (n + 1 + c.size)) (head c.size (n + 1) (n + 1 + c.size)) ∷ (copy_spots (slice_get (copies [] funcs) g) (chain ++ block f b ∷ []) (capped_amount scale) (n + 1) ++ landing_at (position_at f chain scale) (Some (block f b)) next ∷ []) ≡ spots (call_sites (position_at f chain scale) (Some c) t es (block f b) n next)
call_spots funcs f g chain scale b n next c t es e h =
    let inner = chain ++ block f b ∷ [] in
    let landing = n + 1 + c.size in
    let copy = copy_is (slice_get (copies [] funcs) g) c inner (capped_amount scale) (n + 1) (copy_of_all funcs f g c e) (fits n c.size h) ∙ copies_alike (take f funcs) g c e inner (capped_amount scale) scale (n + 1) landing (min_twice (2 ^ 64 - 1) scale) in
    let first = spot_at (position_at f chain scale) b ends.Once (head c.size (n + 1) landing) (head c.size (n + 1) landing) in
    let land = one_end_site (position_at f chain scale) (Land t c.result (block f b)) None next in
    (λ i. first ∷ (copy i ++ spot_of land ∷ [])) ∙ ap (λ y. first ∷ y) (sym (map-append spot_of (c.sites inner scale (n + 1) landing) (land ∷ [])))

pub called : (funcs : List Func) (f g : ℕ) (chain : List BlockName) (scale b n next d : ℕ) (old mid new : List Item) (enter last : Spot) (name : BlockName) (first : ℕ) (t : Target) (es : List Expr) → Known (slice_get (copies_above funcs f) g) d → n + call_size (slice_get (copies_above funcs f) g) < 2 ^ 32
    → mid ≡ old ++ item.Call enter name g first ∷ [] → new ≡ mid ++ item.One last ∷ [] → enter ≡ spot_at (position_at f chain scale) b ends.Once (head d (n + 1) (n + 1 + d)) (head d (n + 1) (n + 1 + d)) → name ≡ block f b → first ≡ n + 1 → last ≡ landing_at (position_at f chain scale) (Some name) next
    → laid_out (copies [] funcs) new ≡ laid_out (copies [] funcs) old ++ spots (call_sites (position_at f chain scale) (slice_get (copies_above funcs f) g) t es (block f b) n next)
called funcs f g chain scale b n next d old mid new enter last name first t es k h e1 e2 is_enter is_name is_first is_last =
    let c = k.copy in
    let all = copies [] funcs in
    let o = slice_get (copies_above funcs f) g in
    let room_c : n + suc (suc c.size) < 2 ^ 32 = (let e : call_size o ≡ suc (suc c.size) = ap call_size k.is in omega (arith, e, h)) in
    let node = λ (s : ℕ). spot_at (position_at f chain scale) b ends.Once (head s (n + 1) (n + 1 + s)) (head s (n + 1) (n + 1 + s)) in
    let copy = λ (s : ℕ). node s ∷ copy_spots (slice_get all g) (chain ++ block f b ∷ []) (capped_amount scale) (n + 1) in
    let land = landing_at (position_at f chain scale) (Some (block f b)) next in
    let made : laid_out all mid ≡ laid_out all old ++ copy c.size = ap (laid_out all) e1 ∙ laid_last all old (item.Call enter name g first) ∙ (λ i. laid_out all old ++ (is_enter i ∷ copy_spots (slice_get all g) ((is_enter i).node.chain ++ is_name i ∷ []) (is_enter i).node.cap (is_first i))) ∙ ap (λ s. laid_out all old ++ copy s) k.size in
    laid_one all mid new last land e2 (is_last ∙ ap (λ (x : BlockName). landing_at (position_at f chain scale) (Some x) next) is_name) ∙ ap (λ y. y ++ land ∷ []) made ∙ append_assoc (laid_out all old) (copy c.size) (land ∷ []) ∙ ap (λ y. laid_out all old ++ y) (call_spots funcs f g chain scale b n next c t es k.is room_c ∙ ap (λ x. spots (call_sites (position_at f chain scale) x t es (block f b) n next)) (sym k.is))

pub missed : (funcs : List Func) (f g : ℕ) (chain : List BlockName) (scale b n next : ℕ) (old mid new : List Item) (last : Spot) (t : Target) (es : List Expr) → slice_get (copies_above funcs f) g ≡ None
    → laid_out (copies [] funcs) mid ≡ laid_out (copies [] funcs) old ++ spot_at (position_at f chain scale) b ends.Once (n + 1) (n + 1) ∷ [] → new ≡ mid ++ item.One last ∷ [] → last ≡ landing_at (position_at f chain scale) None next
    → laid_out (copies [] funcs) new ≡ laid_out (copies [] funcs) old ++ spots (call_sites (position_at f chain scale) (slice_get (copies_above funcs f) g) t es (block f b) n next)
missed funcs f g chain scale b n next old mid new last t es none made e is_last =
    let all = copies [] funcs in
    let land = landing_at (position_at f chain scale) None next in
    let node = spot_at (position_at f chain scale) b ends.Once (n + 1) (n + 1) in
    laid_one all mid new last land e is_last ∙ ap (λ y. y ++ land ∷ []) made ∙ append_assoc (laid_out all old) (node ∷ []) (land ∷ []) ∙ ap (λ x. laid_out all old ++ spots (call_sites (position_at f chain scale) x t es (block f b) n next)) (sym none)
