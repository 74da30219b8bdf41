-- Scripts that code ran, one after the other, and what is left of one that was begun.
use Rattle.std.proofs.Common.{◌≡◌, ◌<◌, ◌≤◌, ℕ, List, [], ◌∷◌, ◌++◌, length, refl, sym, ap, ◌∙◌, subst, arith, append_assoc, append-nil}
use Rattle.bv_term.specs.declared.op.Op.{Op}
use Rattle.bv_term.specs.Stores.{Terms}
use Rattle.bv_term.specs.Scripts.{Script, Done, ◌>>=◌, ops_after, outcome}
use Rattle.bv_term.proofs.ScriptLaws.{ops_then, outcome_then}
use Rattle.term_steps.specs.Gives.{Gives}

-- ---- one after the other

pub gives_then : {A B : Type 0} {P : ℕ → A → Type 0} {Q : ℕ → B → Type 0} {s : Script A} {old mid new : Terms} {x : A} {y : B} (f : A → Script B) → Gives P s old mid x → Gives Q (f x) mid new y → Gives Q (s >>= f) old new y
gives_then {s = s} {old = old} {mid = mid} {new = new} {x = x} {y = y} f h k = record {
  inputs = k.inputs ∙ h.inputs;
  ops = k.ops ∙ (ap (ops_after (f x)) h.ops ∙ (ap (λ x. ops_after (f x) (ops_after s old.ops)) h.done ∙ sym (ops_then s f old.ops)));
  done = k.done ∙ (ap (outcome (f x)) h.ops ∙ (ap (λ x. outcome (f x) (ops_after s old.ops)) h.done ∙ sym (outcome_then s f old.ops)));
  fits = k.fits;
  grows = omega (arith, h.grows, k.grows);
}

-- nothing more is put
pub gives_done : {A B : Type 0} {P : ℕ → A → Type 0} {s : Script A} {old new : Terms} {x : A} (Q : ℕ → B → Type 0) (f : A → B) → Gives P s old new x → Q (length new.ops) (f x) → Gives Q (s >>= (λ x. Done (f x))) old new (f x)
gives_done {new = new} {x = x} Q f h q = gives_then {new = new} (λ x. Done (f x)) h (record { inputs = refl; ops = refl; done = refl; fits = q; grows = omega arith })

pub nothing_given : {A : Type 0} (P : ℕ → A → Type 0) (t : Terms) (x : A) → P (length t.ops) x → Gives P (Done x) t t x
nothing_given P t x h = record { inputs = refl; ops = refl; done = refl; fits = h; grows = omega arith }

-- ---- a script that was begun

-- what was begun is `all`; what is left is `rest`, and what it is done with is still joined to what there is
pub record Rest {A B : Type 0} (all : Script A) (rest : Script B) (join : B → A) (start now : Terms) : Type 0 where
  pub inputs : now.inputs ≡ start.inputs
  pub ops : ops_after all start.ops ≡ ops_after rest now.ops
  pub done : outcome all start.ops ≡ join (outcome rest now.ops)
  pub grows : length start.ops ≤ length now.ops

-- one part of what is left was run
pub rest_next : {A B C D : Type 0} {P : ℕ → C → Type 0} {all : Script A} {s : Script C} {join : B → A} {start now new : Terms} {y : C} (more : C → Script D) (g : C → D → B) → Rest all (s >>= (λ y. more y >>= (λ r. Done (g y r)))) join start now → Gives P s now new y → Rest all (more y) (λ r. join (g y r)) start new
rest_next {B = B} {C = C} {D = D} {s = s} {join = join} {start = start} {now = now} {new = new} {y = y} more g h k =
    let f : C → Script B = λ y. more y >>= (λ r. Done (g y r)) in
    let after : ops_after (f y) new.ops ≡ ops_after (s >>= f) now.ops = ap (ops_after (f y)) k.ops ∙ (ap (λ y. ops_after (f y) (ops_after s now.ops)) k.done ∙ sym (ops_then s f now.ops)) in
    let out : outcome (f y) new.ops ≡ outcome (s >>= f) now.ops = ap (outcome (f y)) k.ops ∙ (ap (λ y. outcome (f y) (ops_after s now.ops)) k.done ∙ sym (outcome_then s f now.ops)) in
    record {
      inputs = k.inputs ∙ h.inputs;
      ops = h.ops ∙ (sym after ∙ ops_then (more y) (λ r. Done (g y r)) new.ops);
      done = h.done ∙ ap join (sym out ∙ outcome_then (more y) (λ r. Done (g y r)) new.ops);
      grows = omega (arith, h.grows, k.grows);
    }

-- the same, where what comes next is all
pub rest_goes : {A B C : Type 0} {P : ℕ → C → Type 0} {all : Script A} {s : Script C} {join : B → A} {start now new : Terms} {y : C} (more : C → Script B) → Rest all (s >>= more) join start now → Gives P s now new y → Rest all (more y) join start new
rest_goes {s = s} {join = join} {now = now} {new = new} {y = y} more h k = record {
  inputs = k.inputs ∙ h.inputs;
  ops = h.ops ∙ sym (ap (ops_after (more y)) k.ops ∙ (ap (λ y. ops_after (more y) (ops_after s now.ops)) k.done ∙ sym (ops_then s more now.ops)));
  done = h.done ∙ ap join (sym (ap (outcome (more y)) k.ops ∙ (ap (λ y. outcome (more y) (ops_after s now.ops)) k.done ∙ sym (outcome_then s more now.ops))));
  grows = omega (arith, h.grows, k.grows);
}

pub rest_begun : {A : Type 0} (s : Script A) (t : Terms) → Rest s s (λ x. x) t t
rest_begun s t = record { inputs = refl; ops = refl; done = refl; grows = omega arith }

pub rest_joined : {A B : Type 0} {all : Script A} {rest : Script B} {join : B → A} {start now : Terms} (other : B → A) → ((x : B) → join x ≡ other x) → Rest all rest join start now → Rest all rest other start now
rest_joined {rest = rest} {now = now} other e h = record { inputs = h.inputs; ops = h.ops; done = h.done ∙ e (outcome rest now.ops); grows = h.grows }

-- nothing is left
pub rest_done : {A B : Type 0} {all : Script A} {x : B} {join : B → A} {start now : Terms} (P : ℕ → A → Type 0) (y : A) → Rest all (Done x) join start now → join x ≡ y → P (length now.ops) y → Gives P all start now y
rest_done P y h e p = record { inputs = h.inputs; ops = sym h.ops; done = sym (h.done ∙ e); fits = p; grows = h.grows }

-- ---- lists that grow

pub moved : {A : Type 0} (xs : List A) (x : A) (ys : List A) → xs ++ (x ∷ ys) ≡ (xs ++ x ∷ []) ++ ys
moved xs x ys = sym (append_assoc xs (x ∷ []) ys)
