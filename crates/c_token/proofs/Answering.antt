-- An answer that holds is the only one.
use Rattle.std.proofs.Common.{◌≡◌, ℕ, List, length, Some, None, Result, Ok, Err, refl, ◌∙◌, ap, subst}
use Rattle.std.specs.Prelude.{◌↔◌, MatchResult, IsOkAnd}
use Rattle.c_tree.specs.declared.token.Token.{Token}
use Rattle.c_tree.specs.Tokens.Lexing.{Lexes}
use Rattle.c_token.specs.declared.fault.TokenFault.{TokenFault}
use Rattle.c_token.specs.declared.fault.TokenFault.TheVariants.{Byte, Comment, Number, Directive, NoMemory}
use Rattle.c_token.specs.declared.piece.Flaw.{Flaw}
use Rattle.c_token.specs.declared.piece.Flaw.TheVariants as flaws
use Rattle.c_token.specs.Pieces.{IsFlaw, token_fault}
use Rattle.c_token.specs.Faults.{StopsAt}
use Rattle.c_token.specs.Answers.{IsFault, UnlessNoMemory}
use Rattle.c_token.proofs.Reaching.{reached_once}

-- the answer holds of the text
abbrev pub Answers : {V : Type 0} → (V → List Token) → List ℕ → Result V TokenFault → Type 0
Answers items text r = MatchResult r (λ v. Lexes text (items v)) (IsFault text)

abbrev Stops : List ℕ → Flaw → ℕ → Type 0
Stops text flaw at = StopsAt text (λ before here. IsFlaw before here flaw) at

pub lexed_once : (text : List ℕ) (ts us : List Token) → Lexes text ts → Lexes text us → ts ≡ us
lexed_once text ts us a b = (reached_once text (length text) (length text) None None refl refl a b).tokens

no_stop : (text : List ℕ) (ts : List Token) (flaw : Flaw) (at : ℕ) → Lexes text ts → Stops text flaw at → ⊥
no_stop text ts flaw at a s = let end = (reached_once text (length text) at None (Some flaw) refl s.stops a s.reached).end in cc

one_stop : (text : List ℕ) (f g : Flaw) (a b : ℕ) → Stops text f a → Stops text g b → token_fault f a ≡ token_fault g b
one_stop text f g a b s t =
    let same = reached_once text a b (Some f) (Some g) s.stops t.stops s.reached t.reached in
    let end = same.end in
    let flaw : f ≡ g = cc in
    ap (λ (h : Flaw). token_fault h a) flaw ∙ ap (λ (n : ℕ). token_fault g n) same.place

-- what is answered of a text that is tokens
pub complete : {V : Type 0} (items : V → List Token) (text : List ℕ) (r : Result V TokenFault) → Answers items text r → (ts : List Token) → Lexes text ts → UnlessNoMemory r (IsOkAnd r (λ v. items v ≡ ts))
complete items text (Ok v) a ts l = lexed_once text (items v) ts a l
complete items text (Err (Byte at)) a ts l = absurd (no_stop text ts flaws.Byte at l a)
complete items text (Err (Comment at)) a ts l = absurd (no_stop text ts flaws.Comment at l a)
complete items text (Err (Number at)) a ts l = absurd (no_stop text ts flaws.Number at l a)
complete items text (Err (Directive at)) a ts l = absurd (no_stop text ts flaws.Directive at l a)
complete items text (Err NoMemory) a ts l = tt

stopped : {V : Type 0} (items : V → List Token) (text : List ℕ) (flaw : Flaw) (at : ℕ) (r : Result V TokenFault) → Answers items text r → r ≡ Err (token_fault flaw at) → Stops text flaw at
stopped items text flaws.Byte at r a e = subst (λ r. Answers items text r) e a
stopped items text flaws.Comment at r a e = subst (λ r. Answers items text r) e a
stopped items text flaws.Number at r a e = subst (λ r. Answers items text r) e a
stopped items text flaws.Directive at r a e = subst (λ r. Answers items text r) e a

err_same : {V : Type 0} {f g : TokenFault} → f ≡ g → ◌≡◌ {A = Result V TokenFault} (Err f) (Err g)
err_same e = ap (λ (f : TokenFault). Err f) e

-- what is answered of a text with a flaw
pub exact : {V : Type 0} (items : V → List Token) (text : List ℕ) (flaw : Flaw) (at : ℕ) (r : Result V TokenFault) → Answers items text r
    → UnlessNoMemory r ((r ≡ Err (token_fault flaw at)) ↔ Stops text flaw at)
exact items text flaw at (Ok v) a = (λ e. cc, λ s. absurd (no_stop text (items v) flaw at a s))
exact items text flaw at (Err (Byte n)) a = (λ e. stopped items text flaw at (Err (Byte n)) a e, λ s. err_same (one_stop text flaws.Byte flaw n at a s))
exact items text flaw at (Err (Comment n)) a = (λ e. stopped items text flaw at (Err (Comment n)) a e, λ s. err_same (one_stop text flaws.Comment flaw n at a s))
exact items text flaw at (Err (Number n)) a = (λ e. stopped items text flaw at (Err (Number n)) a e, λ s. err_same (one_stop text flaws.Number flaw n at a s))
exact items text flaw at (Err (Directive n)) a = (λ e. stopped items text flaw at (Err (Directive n)) a e, λ s. err_same (one_stop text flaws.Directive flaw n at a s))
exact items text flaw at (Err NoMemory) a = tt
