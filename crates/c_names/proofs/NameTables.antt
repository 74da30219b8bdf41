-- The table of names: what a look-up finds after a declaration and after it is taken back.
use Rattle.std.proofs.Common.{◌≡◌, ℕ, Bool, true, false, List, [], ◌∷◌, ◌++◌, Option, Some, None, option_map, refl, sym, ap, ◌∙◌, append_assoc}
use Rattle.std.specs.Prelude.{bytes_eq, if◌then◌else◌}
use Rattle.std.specs.Option.{option_or}
use Rattle.std.specs.Ordering.{nat_cmp}
use Rattle.std.specs.Cmp.Lexicographic.{slice_cmp}
use Rattle.std.specs.BTreeMap.{BTreeMap, UpdatesBy, is_at}
use Rattle.std.specs.Map.{lookup}
use Rattle.std.proofs.lemmas.Map.Text.{btree_map_updates_str}
use Rattle.std.proofs.lemmas.Slice.Eq.{bytes_eq-Decides}
use denote.Ref.{Bor}
use Rattle.c_tree.specs.Checking.Scopes as scope
use Rattle.c_names.specs.declared.names.Binding.{Binding}
use Rattle.c_names.specs.declared.names.Declaration.{Declaration}
use Rattle.c_names.specs.Tables.{known, known_of, known_as, last_binding, Rebinds, HideAfter, IsTable}
use Rattle.plain_laws.proofs.Options.{option_or-assoc, option_or-None}

option_map-or : {A B : Type 0} (f : A → B) (a b : Option A) → option_map f (option_or a b) ≡ option_or (option_map f a) (option_map f b)
option_map-or f None b = refl
option_map-or f (Some x) b = refl

append_nil : (xs : List Declaration) → xs ++ [] ≡ xs
append_nil [] = refl
append_nil (x ∷ xs) = ap (λ l. x ∷ l) (append_nil xs)

-- what a declaration of a name binds at q
abbrev pub bound_at : Declaration → List ℕ → Option Binding
bound_at d q = if bytes_eq d.name.now q then Some d.binding else None

pub last_binding-push : (ds : List Declaration) (d : Declaration) (q : List ℕ) → last_binding (ds ++ d ∷ []) q ≡ option_or (bound_at d q) (last_binding ds q)
last_binding-push [] d q = sym (option_or-None (bound_at d q))
last_binding-push (x ∷ xs) d q =
    ap (λ o. option_or o (bound_at x q)) (last_binding-push xs d q) ∙ option_or-assoc (bound_at d q) (last_binding xs q) (bound_at x q)

HideAfter-push : (before ds : List Declaration) (d : Declaration) → HideAfter before ds → d.hidden ≡ last_binding (before ++ ds) d.name.now → HideAfter before (ds ++ d ∷ [])
HideAfter-push before [] d h e = (e ∙ ap (λ l. last_binding l d.name.now) (append_nil before), tt)
HideAfter-push before (x ∷ xs) d h e =
    (h.0, HideAfter-push (before ++ x ∷ []) xs d h.1 (e ∙ ap (λ l. last_binding l d.name.now) (sym (append_assoc before (x ∷ []) xs))))

-- of all but the last, and of the last
HideAfter-front : (before ds : List Declaration) (d : Declaration) → HideAfter before (ds ++ d ∷ []) → HideAfter before ds
HideAfter-front before [] d h = tt
HideAfter-front before (x ∷ xs) d h = (h.0, HideAfter-front (before ++ x ∷ []) xs d h.1)

HideAfter-last : (before ds : List Declaration) (d : Declaration) → HideAfter before (ds ++ d ∷ []) → d.hidden ≡ last_binding (before ++ ds) d.name.now
HideAfter-last before [] d h = h.0 ∙ ap (λ l. last_binding l d.name.now) (sym (append_nil before))
HideAfter-last before (x ∷ xs) d h =
    HideAfter-last (before ++ x ∷ []) xs d h.1 ∙ ap (λ l. last_binding l d.name.now) (append_assoc before (x ∷ []) xs)

known_here : (d : Declaration) (q : List ℕ) (b : Bool) → (b ≡ true → d.name.now ≡ q) → (if b then Some (known_of d) else None) ≡ option_map (known_as q) (if b then Some d.binding else None)
known_here d q true same = ap (λ n. Some (known_as n d.binding)) (same refl)
known_here d q false same = refl

-- the view finds what the table finds
pub latest-known : (ds : List Declaration) (q : List ℕ) → scope.latest (known ds) q ≡ option_map (known_as q) (last_binding ds q)
latest-known [] q = refl
latest-known (d ∷ ds) q =
    ap (λ o. option_or o (if bytes_eq d.name.now q then Some (known_of d) else None)) (latest-known ds q)
    ∙ ap (λ o. option_or (option_map (known_as q) (last_binding ds q)) o) (known_here d q (bytes_eq d.name.now q) (bytes_eq-Decides d.name.now q).0)
    ∙ sym (option_map-or (known_as q) (last_binding ds q) (bound_at d q))

-- a change of the map at a name
pub Rebinds-changed : (m n : BTreeMap (Bor (List ℕ)) Binding) (name : List ℕ) (w : Option Binding) → UpdatesBy (λ x y. slice_cmp nat_cmp x.now y.now) (λ k. slice_cmp nat_cmp name k.now) m n w → Rebinds m n name w
Rebinds-changed m n name w change = btree_map_updates_str name m n w change

found_after : (d : Declaration) (q : List ℕ) (b : Bool) (rest : Option Binding) → (if b then Some d.binding else rest) ≡ option_or (if b then Some d.binding else None) rest
found_after d q true rest = refl
found_after d q false rest = refl

pub IsTable-push : (m n : BTreeMap (Bor (List ℕ)) Binding) (ds : List Declaration) (d : Declaration) → IsTable m ds → Rebinds m n d.name.now (Some d.binding) → d.hidden ≡ last_binding ds d.name.now → IsTable n (ds ++ d ∷ [])
IsTable-push m n ds d table change hidden = record {
  shows = λ q. change q
      ∙ ap (λ o. if bytes_eq d.name.now q then Some d.binding else o) (table.shows q)
      ∙ found_after d q (bytes_eq d.name.now q) (last_binding ds q)
      ∙ sym (last_binding-push ds d q);
  hides = HideAfter-push [] ds d table.hides hidden;
}

put_back : (d : Declaration) (ds : List Declaration) (q : List ℕ) (b : Bool) → (b ≡ true → d.name.now ≡ q) → d.hidden ≡ last_binding ds d.name.now → (if b then d.hidden else option_or (if b then Some d.binding else None) (last_binding ds q)) ≡ last_binding ds q
put_back d ds q true same hidden = hidden ∙ ap (last_binding ds) (same refl)
put_back d ds q false same hidden = refl

pub IsTable-front : (m n : BTreeMap (Bor (List ℕ)) Binding) (ds : List Declaration) (d : Declaration) → IsTable m (ds ++ d ∷ []) → Rebinds m n d.name.now d.hidden → IsTable n ds
IsTable-front m n ds d table change = record {
  shows = λ q. change q
      ∙ ap (λ o. if bytes_eq d.name.now q then d.hidden else o) (table.shows q ∙ last_binding-push ds d q)
      ∙ put_back d ds q (bytes_eq d.name.now q) (bytes_eq-Decides d.name.now q).0 (HideAfter-last [] ds d table.hides);
  hides = HideAfter-front [] ds d table.hides;
}

-- the same entries show the same
pub IsTable-same : (m n : BTreeMap (Bor (List ℕ)) Binding) (ds : List Declaration) → IsTable m ds → n.entries ≡ m.entries → IsTable n ds
IsTable-same m n ds table same = record {
  shows = λ q. ap (lookup (is_at (λ (k : Bor (List ℕ)). slice_cmp nat_cmp q k.now))) same ∙ table.shows q;
  hides = table.hides;
}
