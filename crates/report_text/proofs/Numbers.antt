-- Which texts are words and a number, or may grow to them.
use Rattle.std.proofs.Common.{◌≡◌, ◌≢◌, ℕ, zero, suc, ◌*◌, ◌/◌, ◌^◌, ◌<◌, ◌≤◌, ◌==◌, true, false, ◌⊎◌, inl, inr, Option, Some, None, List, [], ◌∷◌, ◌++◌, length, refl, sym, ◌∙◌, ap, arith, append_assoc, length-append, eqb-true, ne_eqb}
use Rattle.std.specs.Fmt.{decimal}
use Rattle.std.proofs.lemmas.Bool.{false≢true}
use Rattle.report_text.specs.Texts.{same}
use Rattle.report_text.specs.Courses.{IsChoice, StopsInNumber, IsNoNumber, IsNumberCourse}
use Rattle.report_text.specs.declared.course.NumberCourse.{NumberCourse}
use Rattle.report_text.specs.declared.course.NumberCourse.TheVariants.{Is, MayGrow, Breaks}
use Rattle.text_lines.proofs.Decimals.{wide, one_number}
use Rattle.report_text.proofs.Decimals.{digits, closed, opened, front_of, with_zero}
use Rattle.std.proofs.lemmas.List.{append_cancel_left}

-- ---- behind the words

joined : (ds more : List ℕ) → (ds ++ 10 ∷ []) ++ more ≡ ds ++ 10 ∷ more
joined ds more = append_assoc ds (10 ∷ []) more

pub no_closed : (ds : List ℕ) (limit : ℕ) (except : Option ℕ) → limit < 2 ^ 128 → ((n : ℕ) → n ≤ limit → same except (Some n) ≡ false → ds ≢ decimal n) → IsNoNumber [] limit except (ds ++ 10 ∷ [])
no_closed ds limit except small none = record {
  never = λ n more choice is. none n choice.0 choice.1 (closed ds (decimal n) more (digits n (omega (arith, choice.0, small))) (sym (joined ds more) ∙ is)).0;
}

pub no_open : (ds : List ℕ) (limit : ℕ) (except : Option ℕ) → limit < 2 ^ 128 → 0 < length ds → ((before : List ℕ) → ds ≢ before ++ 10 ∷ [])
    → ((k n : ℕ) → ds ≡ decimal k → n ≤ limit → same except (Some n) ≡ false → (k ≡ n) ⊎ ((1 ≤ k) × (10 * k ≤ n)) → ⊥) → IsNoNumber [] limit except ds
no_open ds limit except small some bare none = record {
  never = λ n more choice is.
      let rest = opened ds (decimal n) more bare is in
      let front = front_of n ds rest.0 (omega (arith, choice.0, small)) some rest.1 in
      none front.k n front.is choice.0 choice.1 front.cases;
}

pub same_number : (bytes : List ℕ) (m n : ℕ) → m < 2 ^ 128 → n < 2 ^ 128 → bytes ≡ decimal m → bytes ≡ decimal n → m ≡ n
same_number bytes m n small_m small_n is other = one_number m n (wide m small_m) (wide n small_n) (sym is ∙ other)

pub front_small : (k n limit : ℕ) → n ≤ limit → limit < 2 ^ 128 → (k ≡ n) ⊎ ((1 ≤ k) × (10 * k ≤ n)) → (k ≤ n) × (k < 2 ^ 128)
front_small k n limit within small (inl is) = (omega (arith, is), omega (arith, is, within, small))
front_small k n limit within small (inr more) = (omega (arith, more.1), omega (arith, more.1, within, small))

-- the digits are the excepted number's, which has no ten times within the limit
pub not_again : (except : Option ℕ) (k n : ℕ) → same except (Some k) ≡ true → same except (Some n) ≡ false → ((1 ≤ k) × (10 * k ≤ n) → ⊥) → (k ≡ n) ⊎ ((1 ≤ k) × (10 * k ≤ n)) → ⊥
not_again except k n old new none (inl is) = false≢true (sym new ∙ ap (λ m. same except (Some m)) (sym is) ∙ old)
not_again except k n old new none (inr more) = none more

pub stops_whole : (ds : List ℕ) (limit : ℕ) (except : Option ℕ) (n : ℕ) → n ≤ limit → same except (Some n) ≡ false → ds ≡ decimal n → StopsInNumber [] limit except ds
stops_whole ds limit except n within new is = record { n = n; choice = (within, new); more = 10 ∷ []; some = omega arith; whole = ap (λ d. d ++ 10 ∷ []) is }

-- the excepted number, where it may stand for others
pub same_is : (except : Option ℕ) (n : ℕ) → same except (Some n) ≡ true → except ≡ Some n
same_is None n is = absurd (false≢true is)
same_is (Some m) n is = ap (λ k. Some k) (eqb-true m n is)

pub other_is : (m n : ℕ) → m < n → (m == n) ≡ false
other_is m n less = ne_eqb m n (λ e. omega (arith, e, less))

pub stops_longer : (ds : List ℕ) (limit : ℕ) (except : Option ℕ) (k : ℕ) → limit < 2 ^ 128 → 1 ≤ k → k ≤ limit / 10 → same except (Some k) ≡ true → ds ≡ decimal k → StopsInNumber [] limit except ds
stops_longer ds limit except k small some within old is =
    let top : 10 * k ≤ limit = omega (arith, within) in
    let longer = with_zero k some (omega (arith, top, small)) in
    record {
      n = 10 * k;
      choice = (top, ap (λ e. same e (Some (10 * k))) (same_is except k old) ∙ other_is k (10 * k) (omega (arith, some)));
      more = 48 ∷ 10 ∷ [];
      some = omega arith;
      whole = ap (λ d. d ++ 48 ∷ 10 ∷ []) is ∙ sym (append_assoc (decimal k) (48 ∷ []) (10 ∷ [])) ∙ ap (λ d. d ++ 10 ∷ []) (sym longer);
    }

-- the text of the least number, or of the next one, where the least is excepted
pub some_choice : (limit : ℕ) (except : Option ℕ) → 0 < limit → (n : ℕ) × IsChoice limit except n
some_choice limit None some = (0, (omega arith, refl))
some_choice limit (Some zero) some = (1, (omega (arith, some), refl))
some_choice limit (Some (suc m)) some = (0, (omega arith, ne_eqb (suc m) 0 (λ e. omega (arith, e))))

pub stops_empty : (limit : ℕ) (except : Option ℕ) → 0 < limit → StopsInNumber [] limit except []
stops_empty limit except some =
    let least = some_choice limit except some in
    record { n = least.0; choice = least.1; more = decimal least.0 ++ 10 ∷ []; some = omega (arith, length-append (decimal least.0) (10 ∷ [])); whole = refl }

pub stops_none : (text : List ℕ) (limit : ℕ) (except : Option ℕ) → length text < 1 → 0 < limit → StopsInNumber [] limit except text
stops_none [] limit except none some = stops_empty limit except some
stops_none (b ∷ bs) limit except none some = absurd (omega (arith, none))

-- ---- with the words

pub behind_words : (words text behind : List ℕ) (limit : ℕ) (except : Option ℕ) (course : NumberCourse) → text ≡ words ++ behind → IsNumberCourse [] limit except behind course → IsNumberCourse words limit except text course
behind_words words text behind limit except (Is n) split is = record { choice = is.choice; whole = split ∙ ap (λ t. words ++ t) is.whole }
behind_words words text behind limit except MayGrow split is = record {
  n = is.n;
  choice = is.choice;
  more = is.more;
  some = is.some;
  whole = ap (λ t. t ++ is.more) split ∙ append_assoc words behind is.more ∙ ap (λ t. words ++ t) is.whole;
}
behind_words words text behind limit except Breaks split is = record {
  never = λ n more choice same. is.never n more choice (append_cancel_left words (behind ++ more) (decimal n ++ 10 ∷ []) (sym (append_assoc words behind more) ∙ ap (λ t. t ++ more) (sym split) ∙ same));
}

pub within_words : (words text rest : List ℕ) (limit : ℕ) (except : Option ℕ) → 0 < limit → words ≡ text ++ rest → StopsInNumber words limit except text
within_words words text rest limit except some split =
    let least = some_choice limit except some in
    record {
      n = least.0;
      choice = least.1;
      more = rest ++ (decimal least.0 ++ 10 ∷ []);
      some = omega (arith, length-append rest (decimal least.0 ++ 10 ∷ []), length-append (decimal least.0) (10 ∷ []));
      whole = sym (append_assoc text rest (decimal least.0 ++ 10 ∷ [])) ∙ ap (λ t. t ++ (decimal least.0 ++ 10 ∷ [])) (sym split);
    }

-- of two texts that go on to the same, one begins the other
pub one_begins : (a b x y : List ℕ) → a ++ x ≡ b ++ y → ((r : List ℕ) × (a ≡ b ++ r)) ⊎ ((r : List ℕ) × (b ≡ a ++ r))
one_begins [] b x y is = inr (b, refl)
one_begins (a ∷ ats) [] x y is = inl (a ∷ ats, refl)
one_begins (a ∷ ats) (b ∷ bs) x y is =
    let first : a ≡ b = cc in
    let tail : ats ++ x ≡ bs ++ y = cc in
    by_rest first (one_begins ats bs x y tail)
  where
    by_rest : a ≡ b → ((r : List ℕ) × (ats ≡ bs ++ r)) ⊎ ((r : List ℕ) × (bs ≡ ats ++ r)) → ((r : List ℕ) × (a ∷ ats ≡ (b ∷ bs) ++ r)) ⊎ ((r : List ℕ) × (b ∷ bs ≡ (a ∷ ats) ++ r))
    by_rest first (inl part) = inl (part.0, ap (λ z. z ∷ ats) first ∙ ap (λ zs. b ∷ zs) part.1)
    by_rest first (inr part) = inr (part.0, ap (λ z. z ∷ bs) (sym first) ∙ ap (λ zs. a ∷ zs) part.1)

pub no_words : (words text : List ℕ) (limit : ℕ) (except : Option ℕ) → ((r : List ℕ) → text ≢ words ++ r) → ((r : List ℕ) → words ≢ text ++ r) → IsNoNumber words limit except text
no_words words text limit except no_front no_back = record {
  never = λ n more choice is. by_case (one_begins text words more (decimal n ++ 10 ∷ []) is);
}
  where
    by_case : ((r : List ℕ) × (text ≡ words ++ r)) ⊎ ((r : List ℕ) × (words ≡ text ++ r)) → ⊥
    by_case (inl part) = no_front part.0 part.1
    by_case (inr part) = no_back part.0 part.1
