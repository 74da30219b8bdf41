-- The first key of a table is the first in byte order of those at which a test is true.
use Rattle.std.proofs.Common.{◌≡◌, ℕ, Bool, true, false, List, Option, Some, None, Ordering, Less, Equal, Greater, nat_cmp, refl, sym, ap, subst, ◌∙◌, inl, inr}
use Rattle.std.specs.Ordering.{is_lt, is_gt}
use Rattle.std.specs.Cmp.{tied_itself}
use Rattle.std.specs.Cmp.Lexicographic.{slice_cmp}
use Rattle.std.proofs.lemmas.Bool.{cases_Bool, true≢false}
use Rattle.std.proofs.lemmas.Cmp.{nat_list_cmp_total}
use Rattle.toml.specs.Data.{Data, Members, no_members, member}
use Rattle.cost_document.specs.Documents.{earlier, first_key}
use Rattle.cost_document.proofs.Reading.{equal_is}
use Rattle.cost_table.specs.Orders.{IsFirstKey, IsFirstOrNone}

-- ---- byte order

abbrev bytes : List ℕ → List ℕ → Ordering
bytes = slice_cmp nat_cmp

not_before_itself : (key : List ℕ) → is_lt (bytes key key) ≡ false
not_before_itself key = ap is_lt (tied_itself nat_list_cmp_total key)

after_is_not_before : (o : Ordering) → is_gt o ≡ true → is_lt o ≡ false
after_is_not_before Less after = absurd (true≢false (sym after))
after_is_not_before Equal after = refl
after_is_not_before Greater after = refl

-- what is not before the last is not before the first either
not_before : (other key last : List ℕ) (o p : Ordering) → bytes other key ≡ o → bytes key last ≡ p → is_gt p ≡ false → is_lt (bytes other last) ≡ false → is_lt o ≡ false
not_before other key last Equal p is less not_after apart = refl
not_before other key last Greater p is less not_after apart = refl
not_before other key last Less Greater is less not_after apart = absurd (true≢false not_after)
not_before other key last Less Less is less not_after apart =
    absurd (true≢false (sym (ap is_lt (nat_list_cmp_total.trans other key last is less)) ∙ apart))
not_before other key last Less Equal is less not_after apart =
    absurd (true≢false (sym (ap is_lt (subst (λ k. bytes other k ≡ Less) (equal_is key last less) is)) ∙ apart))

-- ---- one member more

module _ (test : List ℕ → Data → Bool) (key : List ℕ) (d : Data) (ms : Members) where
  fails : test key d ≡ false → (found : Option (List ℕ)) → IsFirstOrNone test ms found → IsFirstOrNone test (member key d ms) found
  fails not None rest = λ other e holds. elim holds [
    | inl same ↦ ap (λ k. test k e) same.0 ∙ ap (test key) same.1 ∙ not
    | inr more ↦ rest other e more
  ]
  fails not (Some k) rest = record {
    passes = (rest.passes.0, inr rest.passes.1, rest.passes.2);
    first = λ other e holds at. elim holds [
      | inl same ↦ absurd (true≢false (sym at ∙ ap (λ k. test k e) same.0 ∙ ap (test key) same.1 ∙ not))
      | inr more ↦ rest.first other e more at
    ];
  }

  passes : test key d ≡ true → (found : Option (List ℕ)) → IsFirstOrNone test ms found → IsFirstKey test (member key d ms) (earlier key found)
  passes is None rest = record {
    passes = (d, inl (refl, refl), is);
    first = λ other e holds at. elim holds [
      | inl same ↦ ap (λ k. is_lt (bytes k key)) same.0 ∙ not_before_itself key
      | inr more ↦ absurd (true≢false (sym at ∙ rest other e more))
    ];
  }
  passes is (Some k) rest =
      elim (cases_Bool (is_gt (bytes key k))) [
        | inl after ↦ rw after (record {
          passes = (rest.passes.0, inr rest.passes.1, rest.passes.2);
          first = λ other e holds at. elim holds [
            | inl same ↦ ap (λ l. is_lt (bytes l k)) same.0 ∙ after_is_not_before (bytes key k) after
            | inr more ↦ rest.first other e more at
          ];
        })
        | inr before ↦ rw before (record {
          passes = (d, inl (refl, refl), is);
          first = λ other e holds at. elim holds [
            | inl same ↦ ap (λ l. is_lt (bytes l key)) same.0 ∙ not_before_itself key
            | inr more ↦ not_before other key k (bytes other key) (bytes key k) refl refl before (rest.first other e more at)
          ];
        })
      ]

pub first_in_order : (test : List ℕ → Data → Bool) (ms : Members) → IsFirstOrNone test ms (first_key test ms)
first_in_order test no_members = λ key d holds. absurd holds
first_in_order test (member key d ms) =
    elim (cases_Bool (test key d)) [
      | inl is ↦ rw is (passes test key d ms is (first_key test ms) (first_in_order test ms))
      | inr not ↦ rw not (fails test key d ms not (first_key test ms) (first_in_order test ms))
    ]
