-- The line `p log N`.
use Rattle.std.proofs.Common.{◌≡◌, ◌≢◌, ℕ, ◌<◌, ◌≤◌, ◌^◌, List, [], ◌∷◌, ◌++◌, length, take, drop, codes, refl, sym, ◌∙◌, ap, arith, append_assoc, length-append}
use Rattle.std.specs.Fmt.{decimal}
use Rattle.std.proofs.lemmas.List.{take-append-le, take-append-drop, take_at}
use Rattle.cnf_form.specs.Literals.{most}
use Rattle.cnf_form.specs.LogReading.{log_head, IsLogHead, StopsInLogHead, IsNoLogHead, CutsAt, HasNoCut}
use Rattle.cnf_form.proofs.Formulas.Heads.{zero_is}
use Rattle.cnf_form.proofs.Words.Growing.{number_front}
use Rattle.cnf_form.proofs.Words.Tokens.{solid_decimal, cut_same, goes_to}

small : (n : ℕ) → n ≤ most → n < 2 ^ 64
small n few = omega (arith, few)

-- behind `p log `
behind_mark : (behind more : List ℕ) (count : ℕ) → (codes "p log " ++ behind) ++ more ≡ log_head count → behind ++ more ≡ decimal count ++ 10 ∷ []
behind_mark behind more count same = cc

pub lacks_number : (behind : List ℕ) → length behind ≡ 0 → StopsInLogHead (codes "p log " ++ behind)
lacks_number [] none = record { more = codes "0\n"; some = omega arith; count = 0; few = omega arith; whole = ap (λ d. codes "p log " ++ (d ++ codes "\n")) (sym zero_is) }
lacks_number (b ∷ bs) none = absurd (omega (arith, none))

pub lacks_feed : (behind : List ℕ) (count : ℕ) → count ≤ most → behind ≡ decimal count → StopsInLogHead (codes "p log " ++ behind)
lacks_feed behind count few is = record { more = codes "\n"; some = omega arith; count = count; few = few; whole = ap (λ d. codes "p log " ++ (d ++ codes "\n")) is }

pub open_stray : (behind : List ℕ) → HasNoCut 10 behind → 0 < length behind → ((n : ℕ) → n ≤ most → behind ≢ decimal n) → IsNoLogHead (codes "p log " ++ behind)
open_stray behind bare some none = record {
  never = λ more count few same.
      let goes = goes_to 10 behind more (decimal count) [] bare (solid_decimal count (small count few)) (behind_mark behind more count same) in
      let front = number_front behind goes.rest count some (omega (arith, few)) goes.is in
      none front.0 (omega (arith, front.1, few)) front.2;
}

spread : (behind digits rest more : List ℕ) → CutsAt 10 behind digits rest → behind ++ more ≡ digits ++ 10 ∷ (rest ++ more)
spread behind digits rest more cut = ap (λ t. t ++ more) cut.split ∙ append_assoc digits (10 ∷ rest) more

pub stray_number : (behind digits rest : List ℕ) → CutsAt 10 behind digits rest → ((n : ℕ) → n ≤ most → digits ≢ decimal n) → IsNoLogHead (codes "p log " ++ behind)
stray_number behind digits rest cut none = record {
  never = λ more count few same.
      none count few (cut_same digits (decimal count) 10 10 (rest ++ more) [] cut.solid (solid_decimal count (small count few)) refl refl (sym (spread behind digits rest more cut) ∙ behind_mark behind more count same)).token;
}

pub stray_rest : (behind digits rest : List ℕ) → CutsAt 10 behind digits rest → 0 < length rest → IsNoLogHead (codes "p log " ++ behind)
stray_rest behind digits rest cut some = record {
  never = λ more count few same.
      let found = cut_same digits (decimal count) 10 10 (rest ++ more) [] cut.solid (solid_decimal count (small count few)) refl refl (sym (spread behind digits rest more cut) ∙ behind_mark behind more count same) in
      omega (arith, some, ap length found.behind, length-append rest more);
}

pub whole_head : (behind digits rest : List ℕ) (count : ℕ) → CutsAt 10 behind digits rest → length rest ≡ 0 → count ≤ most → digits ≡ decimal count → IsLogHead (codes "p log " ++ behind) count
whole_head behind digits [] count cut none few is = record { few = few; whole = ap (λ b. codes "p log " ++ b) (cut.split ∙ ap (λ d. d ++ 10 ∷ []) is) }
whole_head behind digits (b ∷ bs) count cut none few is = absurd (omega (arith, none))

-- ---- the mark

pub stops_in_mark : (line : List ℕ) (n : ℕ) → line ≡ take n (codes "p log ") → StopsInLogHead line
stops_in_mark line n is = record {
  more = drop n (codes "p log ") ++ codes "0\n";
  some = omega (arith, length-append (drop n (codes "p log ")) (codes "0\n"));
  count = 0;
  few = omega arith;
  whole = sym (append_assoc line (drop n (codes "p log ")) (codes "0\n")) ∙ ap (λ t. (t ++ drop n (codes "p log ")) ++ codes "0\n") is ∙ ap (λ t. t ++ codes "0\n") (take-append-drop n (codes "p log "))
      ∙ ap (λ d. codes "p log " ++ (d ++ codes "\n")) (sym zero_is);
}

pub no_mark : (line : List ℕ) → length line < 6 → line ≢ take (length line) (codes "p log ") → IsNoLogHead line
no_mark line short differs = record {
  never = λ more count few same. differs (sym (take_at line more (length line) refl) ∙ ap (take (length line)) same ∙ take-append-le (length line) (codes "p log ") (decimal count ++ codes "\n") (omega (arith, short)));
}

pub other_mark : (line begun behind : List ℕ) → line ≡ begun ++ behind → length begun ≡ 6 → begun ≢ codes "p log " → IsNoLogHead line
other_mark line begun behind split six differs = record {
  never = λ more count few same. differs (sym (take_at begun (behind ++ more) 6 six) ∙ ap (take 6) (sym (append_assoc begun behind more) ∙ ap (λ l. l ++ more) (sym split) ∙ same));
}
