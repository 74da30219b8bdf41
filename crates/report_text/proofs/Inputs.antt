-- The input line, byte by byte.
use Rattle.std.proofs.Common.{◌≡◌, ◌≢◌, ℕ, ◌^◌, ◌<◌, ◌==◌, not, ◌⊎◌, inl, inr, List, [], ◌∷◌, ◌++◌, length, codes, All, refl, sym, ◌∙◌, ap, subst, arith, append_assoc, length-append}
use Rattle.std.specs.List.{list_all}
use Rattle.std.proofs.lemmas.Bool.{false≢true, and_parts}
use Rattle.std.proofs.lemmas.List.Folds.{list_all-append}
use Rattle.std.proofs.lemmas.List.Elements.{All-nil, All-cons, All-head, All-tail, All-push}
use Rattle.text_lines.specs.Cutting.{HasNoFeed, EndsInFeed, IsUnfinished}
use Rattle.report_text.specs.declared.report.ReportLine.TheVariants.{Input}
use Rattle.report_text.specs.declared.stage.Stage.TheVariants.{BehindExact}
use Rattle.report_text.specs.Courses.{IsOne, Stops}
use Rattle.report_text.specs.Form.{Allows}
use Rattle.report_text.proofs.Injective.{same_back}

feedless_back : (a b : List ℕ) → HasNoFeed (a ++ b) → HasNoFeed b
feedless_back a b one = (and_parts (list_all (λ b. not (b == 10)) a) (list_all (λ b. not (b == 10)) b) (sym (list_all-append (λ b. not (b == 10)) a b) ∙ one)).1

ends_back : (w b v : List ℕ) → 0 < length b → w ++ b ≡ v ++ 10 ∷ [] → (before : List ℕ) × (b ≡ before ++ 10 ∷ [])
ends_back [] b v some same = (v, same)
ends_back (x ∷ xs) b [] some same = let tail : xs ++ b ≡ [] = cc in absurd (omega (arith, some, ap length tail, length-append xs b))
ends_back (x ∷ xs) b (y ∷ ys) some same = let tail : xs ++ b ≡ ys ++ 10 ∷ [] = cc in ends_back xs b ys some tail

pub begun_input : (text behind : List ℕ) → text ≡ codes "input " ++ behind → length behind < 1 → Stops (Allows BehindExact) text
begun_input text [] split none = record {
  line = Input (48 ∷ []);
  among = (refl, All-push (λ b. b < 2 ^ 8) [] 48 (All-nil (λ b. b < 2 ^ 8)) (omega arith));
  more = 48 ∷ 10 ∷ [];
  some = omega arith;
  whole = ap (λ t. t ++ 48 ∷ 10 ∷ []) split;
}
begun_input text (b ∷ bs) split none = absurd (omega (arith, none))

pub open_is : (text behind : List ℕ) → EndsInFeed text ⊎ IsUnfinished text → 0 < length behind → ((before : List ℕ) → behind ≢ before ++ 10 ∷ []) → text ≡ codes "input " ++ behind → All (λ b. b < 2 ^ 8) behind → Stops (Allows BehindExact) text
open_is text [] shape some bare split bytes = absurd (omega (arith, some))
open_is text (b ∷ bs) (inl ends) some bare split bytes = let back = ends_back (codes "input ") (b ∷ bs) ends.visible some (sym split ∙ ends.is) in absurd (bare back.0 back.1)
open_is text (b ∷ bs) (inr unfinished) some bare split bytes = record {
  line = Input (b ∷ bs);
  among = (feedless_back (codes "input ") (b ∷ bs) (subst HasNoFeed split unfinished.no_feed), bytes);
  more = 10 ∷ [];
  some = omega arith;
  whole = ap (λ t. t ++ 10 ∷ []) split;
}

closed_feedless : (text input : List ℕ) → EndsInFeed text ⊎ IsUnfinished text → text ≡ codes "input " ++ (input ++ 10 ∷ []) → HasNoFeed input
closed_feedless text input (inl ends) split =
    let visible = same_back ends.visible (codes "input " ++ input) (sym ends.is ∙ split) in
    feedless_back (codes "input ") input (subst HasNoFeed visible ends.no_feed)
closed_feedless text input (inr unfinished) split = absurd (false≢true (feedless_back (codes "input " ++ input) (10 ∷ []) (subst HasNoFeed split unfinished.no_feed)))

pub bytes_front : (a b : List ℕ) → All (λ byte. byte < 2 ^ 8) (a ++ b) → All (λ byte. byte < 2 ^ 8) a
bytes_front [] b each = All-nil (λ byte. byte < 2 ^ 8)
bytes_front (x ∷ xs) b each = All-cons (λ byte. byte < 2 ^ 8) x xs (All-head (λ byte. byte < 2 ^ 8) x (xs ++ b) each) (bytes_front xs b (All-tail (λ byte. byte < 2 ^ 8) x (xs ++ b) each))

pub last_feed : (a b : List ℕ) (last : ℕ) → a ++ last ∷ [] ≡ b ++ 10 ∷ [] → last ≡ 10
last_feed [] [] last same = cc
last_feed [] (y ∷ ys) last same = let tail : [] ≡ ys ++ 10 ∷ [] = cc in absurd (omega (arith, ap length tail, length-append ys (10 ∷ [])))
last_feed (x ∷ xs) [] last same = let tail : xs ++ last ∷ [] ≡ [] = cc in absurd (omega (arith, ap length tail, length-append xs (last ∷ [])))
last_feed (x ∷ xs) (y ∷ ys) last same = let tail : xs ++ last ∷ [] ≡ ys ++ 10 ∷ [] = cc in last_feed xs ys last tail

pub closed_is : (text input : List ℕ) → EndsInFeed text ⊎ IsUnfinished text → 0 < length input → text ≡ codes "input " ++ (input ++ 10 ∷ []) → All (λ b. b < 2 ^ 8) input → IsOne (Allows BehindExact) text (Input input)
closed_is text [] shape some split bytes = absurd (omega (arith, some))
closed_is text (b ∷ bs) shape some split bytes = record { among = (closed_feedless text (b ∷ bs) shape split, bytes); whole = split }

pub word_stops : (text rest : List ℕ) → codes "input" ≡ text ++ rest → Stops (Allows BehindExact) text
word_stops text rest split = record {
  line = Input [];
  among = (refl, λ k d less. absurd (omega (arith, less)));
  more = rest ++ 10 ∷ [];
  some = omega (arith, length-append rest (10 ∷ []));
  whole = sym (append_assoc text rest (10 ∷ [])) ∙ ap (λ t. t ++ 10 ∷ []) (sym split);
}
