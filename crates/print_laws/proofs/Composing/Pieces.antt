-- Some texts one behind another, as code writes them.
use Rattle.std.proofs.Common.{◌≡◌, ℕ, List, ◌++◌, sym, ◌∙◌, ap, append_assoc}

pub two : (s a b : List ℕ) → s ++ (a ++ b) ≡ s ++ a ++ b
two s a b = sym (append_assoc s a b)

pub three : (s a b c : List ℕ) → s ++ (a ++ b ++ c) ≡ s ++ a ++ b ++ c
three s a b c = two s (a ++ b) c ∙ ap (λ t. t ++ c) (two s a b)

pub four : (s a b c d : List ℕ) → s ++ (a ++ b ++ c ++ d) ≡ s ++ a ++ b ++ c ++ d
four s a b c d = two s (a ++ b ++ c) d ∙ ap (λ t. t ++ d) (three s a b c)

pub five : (s a b c d e : List ℕ) → s ++ (a ++ b ++ c ++ d ++ e) ≡ s ++ a ++ b ++ c ++ d ++ e
five s a b c d e = two s (a ++ b ++ c ++ d) e ∙ ap (λ t. t ++ e) (four s a b c d)

pub six : (s a b c d e f : List ℕ) → s ++ (a ++ b ++ c ++ d ++ e ++ f) ≡ s ++ a ++ b ++ c ++ d ++ e ++ f
six s a b c d e f = two s (a ++ b ++ c ++ d ++ e) f ∙ ap (λ t. t ++ f) (five s a b c d e)

-- the same, before another text

pub before2 : (a b r : List ℕ) → a ++ (b ++ r) ≡ (a ++ b) ++ r
before2 a b r = sym (append_assoc a b r)

pub before3 : (a b c r : List ℕ) → a ++ (b ++ (c ++ r)) ≡ (a ++ b ++ c) ++ r
before3 a b c r = before2 a b (c ++ r) ∙ before2 (a ++ b) c r

pub before4 : (a b c d r : List ℕ) → a ++ (b ++ (c ++ (d ++ r))) ≡ (a ++ b ++ c ++ d) ++ r
before4 a b c d r = before2 a b (c ++ (d ++ r)) ∙ before3 (a ++ b) c d r

pub before5 : (a b c d e r : List ℕ) → a ++ (b ++ (c ++ (d ++ (e ++ r)))) ≡ (a ++ b ++ c ++ d ++ e) ++ r
before5 a b c d e r = before2 a b (c ++ (d ++ (e ++ r))) ∙ before4 (a ++ b) c d e r
