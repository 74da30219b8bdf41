-- What putting comes to, for either outcome.
use Rattle.std.proofs.Common.{◌≡◌, ◌<◌, ℕ, ◌*◌, ◌/◌, ◌%◌, ◌^◌, true, List, length, Some, Result, Ok, Err, sym, ap, ◌∙◌, subst}
use Rattle.std.specs.Prelude.{slice_get, slice_index, OnOk, OnErr, IfOk, bit_and}
use Rattle.c_tree.specs.declared.program.Input.{Input}
use Rattle.bv_term.specs.declared.op.Op.{Op}
use Rattle.bv_term.specs.declared.op.Op.TheVariants as op
use Rattle.bv_term.specs.Stores.{Terms, AreTerms, FitsOp, ops_with, op_number, tv, fits_store}
use Rattle.bv_term.proofs.PutLaws.{put_found}
use Rattle.bv_fold.specs.declared.stand.Stand.{Stand}
use Rattle.bv_fold.specs.declared.stand.Stand.TheVariants as stand
use Rattle.bv_fold.specs.Folding.{IsConst, IsExtended}
use Rattle.bv_fold.specs.Steps.{renamed_op, is_over_constants, AreWords, IsSame, AreSame}
use Rattle.bv_fold.specs.Standing.{StandsFor, IsPut}
use Rattle.bv_fold.proofs.Extended.{put_extends, unchanged_extends, tv_kept, fits_before}
use Rattle.bv_fold.proofs.NextFolds.{put_operator_is, stand_is_same, constant_is_same}

-- it only adds terms
pub put_only_adds : {E : Type 0} (r : Result ℕ E) (old new : Terms) (o : Op) → new.inputs ≡ old.inputs
    → OnOk r (new.ops ≡ ops_with o old.ops) → OnErr r (new.ops ≡ old.ops) → IsExtended old new
put_only_adds (Ok t) old new o inputs ops kept = put_extends old new o inputs ops
put_only_adds (Err e) old new o inputs ops kept = unchanged_extends old new inputs kept

if_put : {E : Type 0} (P : ℕ → Type 0) (Q : Type 0) (r : Result ℕ E) (n : ℕ) → IfOk r (λ t. t ≡ n) → OnOk r Q → (Q → P n) → IfOk r P
if_put P Q (Ok t) n is q holds = subst P (sym is) (holds q)
if_put P Q (Err e) n is q holds = tt

pub operator_put : {E : Type 0} (r : Result ℕ E) (old new : Terms) (o : Op) → AreTerms old → FitsOp (length old.inputs) (length old.ops) o
    → new.inputs ≡ old.inputs → IfOk r (λ t. t ≡ op_number o old.ops) → OnOk r (new.ops ≡ ops_with o old.ops)
    → IfOk r (λ t. IsPut old new (stand.Operator o) t)
operator_put r old new o fit fits inputs number ops =
    if_put (IsPut old new (stand.Operator o)) (new.ops ≡ ops_with o old.ops) r (op_number o old.ops) number ops
    (λ put. put_operator_is old new o fit fits inputs put)

pub operator_found : {E : Type 0} (r : Result ℕ E) (old new : Terms) (o : Op)
    → IfOk r (λ t. t ≡ op_number o old.ops) → OnOk r (new.ops ≡ ops_with o old.ops) → IfOk r (λ t. slice_get new.ops t ≡ Some o)
operator_found r old new o number ops =
    if_put (λ t. slice_get new.ops t ≡ Some o) (new.ops ≡ ops_with o old.ops) r (op_number o old.ops) number ops
    (λ put. ap (λ l. slice_get l (op_number o old.ops)) put ∙ put_found o old.ops)

pub if_ok : {A E : Type 0} (P Q : A → Type 0) (r : Result A E) → IfOk r P → ((x : A) → P x → Q x) → IfOk r Q
if_ok P Q (Ok x) h more = more x h
if_ok P Q (Err e) h more = tt

pub constant_put : (old new : Terms) (n t : ℕ) → IsPut old new (stand.Operator (op.Const n)) t → IsPut old new (stand.Constant n) t
constant_put old new n t put = record { there = put.there; value = put.value }

-- ---- an operator over a term and a constant that is put first

-- the words of both, once the constant is put
record AreBoth (old mid : Terms) (t constant n : ℕ) (i : Input) : Type 0 where
  pub term : tv mid t i ≡ tv old t i
  pub word : tv mid constant i ≡ n

both_words : (old mid new : Terms) (t constant n : ℕ) (i : Input) → IsExtended old mid → IsExtended mid new → t < length old.ops
    → IsPut old mid (stand.Constant n) constant → fits_store new i ≡ true → AreBoth old mid t constant n i
both_words old mid new t constant n i d e h put fits = record {
  term = tv_kept old mid t i d h;
  word = put.value i (fits_before mid new i e fits);
}

pub raised_put : (old mid new : Terms) (t constant n r : ℕ) → IsExtended old mid → IsExtended mid new → t < length old.ops
    → IsPut old mid (stand.Constant n) constant → IsPut mid new (stand.Operator (op.Shl t constant)) r → IsPut old new (stand.Raised t n) r
raised_put old mid new t constant n r d e h first then = record {
  there = then.there;
  value = λ i fits. let both = both_words old mid new t constant n i d e h first fits in
      then.value i fits ∙ ap (λ x. (x * 2 ^ (tv mid constant i % 32)) % 2 ^ 32) both.term ∙ ap (λ x. (tv old t i * 2 ^ (x % 32)) % 2 ^ 32) both.word;
}

pub lowered_put : (old mid new : Terms) (t constant n r : ℕ) → IsExtended old mid → IsExtended mid new → t < length old.ops
    → IsPut old mid (stand.Constant n) constant → IsPut mid new (stand.Operator (op.ShrU t constant)) r → IsPut old new (stand.Lowered t n) r
lowered_put old mid new t constant n r d e h first then = record {
  there = then.there;
  value = λ i fits. let both = both_words old mid new t constant n i d e h first fits in
      then.value i fits ∙ ap (λ x. x / 2 ^ (tv mid constant i % 32)) both.term ∙ ap (λ x. tv old t i / 2 ^ (x % 32)) both.word;
}

pub masked_put : (old mid new : Terms) (t constant n r : ℕ) → IsExtended old mid → IsExtended mid new → t < length old.ops
    → IsPut old mid (stand.Constant n) constant → IsPut mid new (stand.Operator (op.And t constant)) r → IsPut old new (stand.Masked t n) r
masked_put old mid new t constant n r d e h first then = record {
  there = then.there;
  value = λ i fits. let both = both_words old mid new t constant n i d e h first fits in
      then.value i fits ∙ ap (λ x. bit_and x (tv mid constant i)) both.term ∙ ap (bit_and (tv old t i)) both.word;
}

-- ---- the next term

-- what stands for the operator over the folds was put
pub stand_same : {E : Type 0} (r : Result ℕ E) (old new : Terms) (folded : List ℕ) (term : ℕ) (o over : Op) (s : Stand)
    → AreTerms old → slice_get old.ops term ≡ Some o → length folded ≡ term → AreSame old folded
    → over ≡ renamed_op (slice_index folded) o → StandsFor old over s → IsExtended old new
    → IfOk r (λ t. IsPut old new s t) → IfOk r (λ t. IsSame new term t)
stand_same r old new folded term o over s fit is count folds over_is stands extends put =
    if_ok (IsPut old new s) (IsSame new term) r put
    (λ t is_put. stand_is_same old new folded term o s t fit is count folds (subst (λ (x : Op). StandsFor old x s) over_is stands) extends is_put)

-- a constant was put
pub constant_same : {E : Type 0} (r : Result ℕ E) (old new : Terms) (words folded : List ℕ) (term w : ℕ) (o over : Op)
    → AreTerms old → slice_get old.ops term ≡ Some o → length folded ≡ term → AreSame old folded
    → AreWords old words → term < length words → w ≡ slice_index words term
    → over ≡ renamed_op (slice_index folded) o → is_over_constants old.ops over ≡ true → IsExtended old new
    → IfOk r (λ t. IsPut old new (stand.Constant w) t) → IfOk r (λ t. IsSame new term t)
constant_same r old new words folded term w o over fit is count folds are within word over_is consts extends put =
    if_ok (IsPut old new (stand.Constant w)) (IsSame new term) r put
    (λ t is_put. constant_is_same old new words folded term t o fit is count folds are within
    (subst (λ (x : Op). is_over_constants old.ops x ≡ true) over_is consts) extends (subst (λ x. IsPut old new (stand.Constant x) t) word is_put))

pub constant_found : {E : Type 0} (P : Type 0) (r : Result ℕ E) (new : Terms) (w : ℕ)
    → IfOk r (λ t. slice_get new.ops t ≡ Some (op.Const w)) → IfOk r (λ t. P → IsConst (slice_get new.ops t))
constant_found P r new w found =
    if_ok (λ t. slice_get new.ops t ≡ Some (op.Const w)) (λ t. P → IsConst (slice_get new.ops t)) r found (λ t is _. (w, is))
