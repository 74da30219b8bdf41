-- Scopes of a text and of its printed text: behind a declaration and inside a list their names still stand for the same.
use Rattle.std.proofs.Common.{◌≡◌, ℕ, ◌+◌, ◌≤◌, Bool, true, false, List, [], ◌∷◌, ◌++◌, length, Option, Some, None, refl, sym, ap, ◌∙◌, arith}
use Rattle.std.specs.Prelude.{is_some, bytes_eq, option_map, if◌then◌else◌, ◌==◌}
use Rattle.std.specs.Option.{option_or, option_map_or}
use Rattle.std.proofs.lemmas.Slice.Eq.{bytes_eq-Decides}
use Rattle.c_tree.specs.declared.tree.Ty.{Ty}
use Rattle.c_tree.specs.declared.tree.Var.TheVariants as var
use Rattle.c_tree.specs.declared.program.Func.{Func}
use Rattle.c_tree.specs.declared.program.Local.{Local}
use Rattle.c_tree.specs.declared.program.Program.{Program}
use Rattle.c_tree.specs.Checking.Scopes.{Entity, Variable, Known, latest}
use Rattle.c_tree.specs.Checking.Naming.{Scope, local_of, scope_with_local, inner_scope, loop_scope, scope_past_list}
use Rattle.print_laws.proofs.Again.Scoped.{plain, Sees, ScopeAlike, Follows, entity_name, AreNames}
use Rattle.print_laws.proofs.AtFileScope.KnownNames.{latest_append}

-- ---- one more name

-- the last one is found first
latest_more : (ks : List Known) (k : Known) (name : List ℕ) → latest (ks ++ k ∷ []) name ≡ option_or (if bytes_eq k.name name then Some k else None) (latest ks name)
latest_more ks k name = latest_append ks (k ∷ []) name

-- the last one, where it has the name, and else what is found among the others
abbrev found : Bool → Known → List Known → List ℕ → Option Known
found is_last k ks name = option_or (if is_last then Some k else None) (latest ks name)

abbrev entity : Option Known → Option Entity
entity o = option_map (λ (k : Known). k.entity) o

abbrev is_at : ℕ → Option Known → Bool
is_at depth o = option_map_or (λ (k : Known). k.depth == depth) o false

last_is : (k : Known) (e : Entity) → Some k.entity ≡ Some e → k.entity ≡ e
last_is k e h = cc

module _ (ks ls : List Known) (k j : Known) (named : j.name ≡ k.name) where
  -- a list that grew has what is found as before, or the new one
  found_there : {A : Type 0} (read : Option Known → A) (name : List ℕ) → read (latest (ls ++ j ∷ []) name) ≡ read (found (bytes_eq k.name name) j ls name)
  found_there read name = ap read (latest_more ls j name ∙ ap (λ n. found (bytes_eq n name) j ls name) named)

  seen_last : (b : Bool) (name : List ℕ) (e : Entity) → j.entity ≡ plain k.entity → Sees ks ls → entity (found b k ks name) ≡ Some e → entity (found b j ls name) ≡ Some (plain e)
  seen_last true name e same sees h = ap Some (same ∙ ap plain (last_is k e h))
  seen_last false name e same sees h = sees name e h

  pub sees_more : j.entity ≡ plain k.entity → Sees ks ls → Sees (ks ++ k ∷ []) (ls ++ j ∷ [])
  sees_more same sees name e h =
      found_there entity name ∙ seen_last (bytes_eq k.name name) name e same sees (sym (ap entity (latest_more ks k name)) ∙ h)

  alike_last : (b : Bool) (depth : ℕ) (name : List ℕ) → j.depth ≡ k.depth → 2 ≤ depth → ScopeAlike ks ls → is_at depth (found b j ls name) ≡ is_at depth (found b k ks name)
  alike_last true depth name same deep alike = ap (λ n. n == depth) same
  alike_last false depth name same deep alike = alike depth name deep

  pub alike_more : j.depth ≡ k.depth → ScopeAlike ks ls → ScopeAlike (ks ++ k ∷ []) (ls ++ j ∷ [])
  alike_more same alike depth name deep =
      found_there (is_at depth) name ∙ alike_last (bytes_eq k.name name) depth name same deep alike ∙ sym (ap (is_at depth) (latest_more ks k name))

module _ (p : Program) (f : Func) (ks : List Known) (k : Known) where
  named_last : (b : Bool) (name : List ℕ) (e : Entity) → (b ≡ true → k.name ≡ name) → entity_name p f k.entity ≡ k.name → AreNames p f ks → entity (found b k ks name) ≡ Some e → entity_name p f e ≡ name
  named_last true name e same here names h = sym (ap (entity_name p f) (last_is k e h)) ∙ here ∙ same refl
  named_last false name e same here names h = names name e h

  pub names_more : entity_name p f k.entity ≡ k.name → AreNames p f ks → AreNames p f (ks ++ k ∷ [])
  names_more here names name e h =
      named_last (bytes_eq k.name name) name e (bytes_eq-Decides k.name name).0 here names (sym (ap entity (latest_more ks k name)) ∙ h)

-- ---- scopes that follow one another

pub opened_follows : (s t : Scope) → Follows s t → Follows (inner_scope s) (inner_scope t)
opened_follows s t h = record {
  sees = h.sees;
  alike = h.alike;
  inner = omega (arith, h.inner);
  depth = ap (λ n. n + 1) h.depth;
  locals = h.locals;
  func = h.func;
  result = h.result;
  looped = h.looped;
}

pub looping_follows : (s t : Scope) → Follows s t → Follows (loop_scope s) (loop_scope t)
looping_follows s t h = record {
  sees = h.sees;
  alike = h.alike;
  inner = omega (arith, h.inner);
  depth = ap (λ n. n + 1) h.depth;
  locals = h.locals;
  func = h.func;
  result = h.result;
  looped = refl;
}

pub past_follows : (s t : Scope) (ls ms : List Local) → ms ≡ ls → Follows s t → Follows (scope_past_list s ls) (scope_past_list t ms)
past_follows s t ls ms same h = record {
  sees = h.sees;
  alike = h.alike;
  inner = h.inner;
  depth = h.depth;
  locals = λ i. h.locals i ++ same i;
  func = h.func;
  result = h.result;
  looped = h.looped;
}

-- a scope, behind a declarator of the next local
abbrev declares : Scope → Bool → Local → Known
declares s constant l =
    record { name = l.name; depth = s.depth; entity = Variable (var.Local (length s.locals)) (is_some l.length) constant }

-- the same local is declared in both
pub declared_follows : (s t : Scope) (constant : Bool) (y z : Ty) (a b : List ℕ) (m n : Option ℕ) → local_of z b n ≡ local_of y a m → Follows s t → Follows (scope_with_local s constant y a m) (scope_with_local t false z b n)
declared_follows s t constant y z a b m n same h =
    let k = declares s constant (local_of y a m) in
    let j = declares t false (local_of z b n) in
    let named : b ≡ a = ap (λ (l : Local). l.name) same in
    record {
      sees = sees_more s.known t.known k j named (λ i. Variable (var.Local (length (h.locals i))) (is_some ((same i).length)) false) h.sees;
      alike = alike_more s.known t.known k j named h.depth h.alike;
      inner = h.inner;
      depth = h.depth;
      locals = λ i. h.locals i ++ same i ∷ [];
      func = h.func;
      result = h.result;
      looped = h.looped;
    }
