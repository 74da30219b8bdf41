-- A line that was written whole stands in a text that may be written.
use Rattle.std.proofs.Common.{◌≡◌, ℕ, zero, suc, List, [], ◌∷◌, ◌++◌, take, drop, Option, Some, refl, sym, ◌∙◌, ap, subst}
use Rattle.std.specs.Prelude.{option_map}
use Rattle.std.proofs.lemmas.List.{append_assoc}
use Rattle.wc_outside.specs.Contents.{Files}
use Rattle.wc_outside.specs.Growth.{Grew, GrewByPrefix}
use Rattle.text_lines.specs.Whole.{HasLine}
use Rattle.word_line.specs.declared.job.Job.{Job}
use Rattle.front_end.specs.declared.status.Status.{Status}
use Rattle.front_end.specs.declared.status.Status.TheVariants as status
use Rattle.squeeze_top.specs.Lines.{WroteLine}
use Rattle.squeeze_top.specs.Written.{MayBeWritten, Wrote}
use Rattle.squeeze_top.specs.Written.MayBeWritten.{Empty, Answer, Line}
use Rattle.squeeze_top.proofs.Written.{grew_nothing}

cancel : (a b c : List ℕ) → Some (a ++ b) ≡ Some (a ++ c) → b ≡ c
cancel a b c h = behind a (from_some (a ++ b) (a ++ c) h)
  where
    from_some : (x y : List ℕ) → Some x ≡ Some y → x ≡ y
    from_some x y e = cc

    behind : (a : List ℕ) → a ++ b ≡ a ++ c → b ≡ c
    behind [] e = e
    behind (x ∷ a) e = let tail : a ++ b ≡ a ++ c = cc in behind a tail

take_drop : (n : ℕ) (text : List ℕ) → take n text ++ drop n text ≡ text
take_drop zero text = refl
take_drop (suc n) [] = refl
take_drop (suc n) (x ∷ text) = ap (λ l. x ∷ l) (take_drop n text)

has : (old new : Option (List ℕ)) (text line : List ℕ) → Grew old new text → WroteLine old new line → HasLine text line
has old new text line grew w =
    let same = cancel w.before w.text text (sym w.written ∙ grew ∙ ap (option_map (λ b. b ++ text)) w.told) in
    subst (λ l. HasLine l line) same w.has

-- what a part of a text has, the text has
has_more : (text more line : List ℕ) → HasLine text line → HasLine (text ++ more) line
has_more text more line h = record {
  front = h.front;
  back = h.back ++ more;
  is = ap (λ l. l ++ more) h.is ∙ append_assoc h.front (line ++ h.back) more ∙ ap (λ l. h.front ++ l) (append_assoc line h.back more);
  lines = h.lines;
}

has_in_part : (old new : Option (List ℕ)) (text line : List ℕ) → GrewByPrefix old new text → WroteLine old new line → HasLine text line
has_in_part old new text line part w =
    subst (λ l. HasLine l line) (take_drop part.count text)
    (has_more (take part.count text) (drop part.count text) line (has old new (take part.count text) line part.grew w))

pub record Stands (job : Job) (told : Option Files) (line : List ℕ) : Type 0 where
  pub text : List ℕ
  pub may : MayBeWritten job told text
  pub has : HasLine text line

pub stands : (s : Status) (job : Job) (told : Option Files) (old new : Option (List ℕ)) (line : List ℕ) → Wrote s job told old new → WroteLine old new line → Stands job told line
stands status.Whole job told old new line w l = record { text = w.text; may = Answer status.Whole w.answer; has = has old new w.text line w.written l }
stands status.Inexact job told old new line w l = record { text = w.text; may = Answer status.Inexact w.answer; has = has old new w.text line w.written l }
stands status.Words job told old new line w l = record { text = _; may = Line w.refusal w.refused refl; has = has old new _ line w.written l }
stands status.Program job told old new line w l = record { text = _; may = Line w.refusal w.refused refl; has = has old new _ line w.written l }
stands status.Costs job told old new line w l = record { text = _; may = Line w.refusal w.refused refl; has = has old new _ line w.written l }
stands status.ReadFault job told old new line w l = record { text = []; may = Empty refl; has = has old new [] line (grew_nothing old new w) l }
stands status.WriteFault job told old new line w l = record { text = w.text; may = w.may; has = has_in_part old new w.text line w.written l }
stands status.NoMemory job told old new line w l = record { text = w.text; may = w.may; has = has_in_part old new w.text line w.written l }
