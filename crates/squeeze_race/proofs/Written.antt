-- The first lines and the end make a report on the race; and what stands of them is a part of one.
use Rattle.std.proofs.Common.{◌≡◌, ◌≢◌, ◌≤◌, ◌<◌, ◌^◌, ◌+◌, ◌⊎◌, inl, inr, ℕ, zero, suc, false, List, [], ◌∷◌, ◌++◌, length, take, Option, Some, None, refl, sym, ◌∙◌, ap, subst, arith, length-append}
use Rattle.std.specs.Prelude.{option_map}
use Rattle.std.proofs.lemmas.List.{append-nil, append_assoc}
use Rattle.std.proofs.lemmas.Grind.{flat_map-append}
use Rattle.wc_outside.specs.Growth.{Grew, GrewByPrefix}
use Rattle.board_core.specs.declared.event.End.TheVariants as end
use Rattle.board_core.specs.Machine.{Setup}
use Rattle.board_core.specs.Boards.{BoardOf}
use Rattle.front_end.specs.declared.status.Status.{Status}
use Rattle.front_end.specs.declared.status.Status.TheVariants as status
use Rattle.report_text.specs.declared.report.Last.{Last}
use Rattle.report_text.specs.declared.report.Report.{Report}
use Rattle.report_text.specs.declared.report.ReportLine.{ReportLine}
use Rattle.report_text.specs.Texts.{line_text, lines_text, front_lines, last_lines, report_text}
use Rattle.report_text.proofs.Whole.{front_are}
use Rattle.race_report.specs.Telling.{race_end, Tells, TellsSoFar}
use Rattle.squeeze_race.specs.declared.cut.Cut.{Cut}
use Rattle.squeeze_race.specs.declared.cut.Cut.TheVariants.{WriteFault, NoMemory}
use Rattle.squeeze_race.specs.Races.{WroteReport, WrotePart, Raced}
use Rattle.squeeze_race.specs.Races.MayBeWritten.{Told, SoFar}
use Rattle.squeeze_race.specs.Endings.{IsFront, SomeFront, IsEnding, WroteFront, WroteFrontPart, WroteEnd, WroteEndPart, WroteUpTo, status_of_cut}

-- ---- bytes

grew_both : (old mid new : Option (List ℕ)) (a b : List ℕ) → Grew old mid a → Grew mid new b → Grew old new (a ++ b)
grew_both None mid new a b first second = second ∙ ap (λ m. option_map (λ bytes. bytes ++ b) m) first
grew_both (Some bytes) mid new a b first second =
    second ∙ ap (λ m. option_map (λ bytes. bytes ++ b) m) first ∙ ap Some (append_assoc bytes a b)

all_taken : (text : List ℕ) → take (length text) text ≡ text
all_taken [] = refl
all_taken (x ∷ text) = ap (λ l. x ∷ l) (all_taken text)

grew_whole : (old new : Option (List ℕ)) (text : List ℕ) → Grew old new text → GrewByPrefix old new text
grew_whole old new text grew = record {
  count = length text;
  within = omega arith;
  grew = subst (Grew old new) (sym (all_taken text)) grew;
}

grew_none : (old new : Option (List ℕ)) (text : List ℕ) → new ≡ old → GrewByPrefix old new text
grew_none None new text same = record { count = 0; within = omega arith; grew = same }
grew_none (Some bytes) new text same = record { count = 0; within = omega arith; grew = same ∙ ap Some (sym (append-nil bytes)) }

take_behind : (a b : List ℕ) (n : ℕ) → take (length a + n) (a ++ b) ≡ a ++ take n b
take_behind [] b n = let e : 0 + n ≡ n = omega arith in ap (λ m. take m b) e
take_behind (x ∷ a) b n =
    let e : length (x ∷ a) + n ≡ suc (length a + n) = omega arith in
    ap (λ m. take m (x ∷ (a ++ b))) e ∙ ap (λ l. x ∷ l) (take_behind a b n)

grew_behind : (old mid new : Option (List ℕ)) (a b : List ℕ) → Grew old mid a → GrewByPrefix mid new b → GrewByPrefix old new (a ++ b)
grew_behind old mid new a b first part = record {
  count = length a + part.count;
  within = omega (arith, length-append a b, part.within);
  grew = subst (Grew old new) (sym (take_behind a b part.count)) (grew_both old mid new a (take part.count b) first part.grew);
}

-- ---- the first lines

so_far : (b : BoardOf) (copies ipet : ℕ) → IsFront b.setup.rows.plan copies ipet → TellsSoFar false b (front_lines copies ipet)
so_far b copies ipet front = record {
  copies = copies;
  ipet = ipet;
  values = [];
  plan = front.tells;
  shown = refl;
  lines_are = refl;
  are_lines = front_are copies ipet [] front.few front.cost (λ k d h. absurd (omega (arith, h)));
}

front_part : (b : BoardOf) (copies ipet : ℕ) (old new : Option (List ℕ)) → IsFront b.setup.rows.plan copies ipet
    → GrewByPrefix old new (lines_text (front_lines copies ipet)) → WrotePart false b old new
front_part b copies ipet old new front part = record {
  text = lines_text (front_lines copies ipet);
  may = SoFar (front_lines copies ipet) (so_far b copies ipet front) refl;
  written = part;
}

-- ---- reports

abbrev report_of : ℕ → ℕ → Last → Report
report_of copies ipet last = record { copies = copies; ipet = ipet; shown = []; last = last }

tells : (b : BoardOf) (copies ipet : ℕ) (last : Last) → IsFront b.setup.rows.plan copies ipet → IsEnding b last → Tells false b (report_of copies ipet last)
tells b copies ipet last front ending = record {
  report = record {
    copies = front.few;
    ipet = front.cost;
    shown = λ k d h. absurd (omega (arith, h));
    last = ending.numbers;
    tellable = record { last = ending.plain; bests = tt };
  };
  plan = front.tells;
  shown = refl;
  last = ending.tells;
}

text_is : (copies ipet : ℕ) (last : Last) → lines_text (front_lines copies ipet) ++ lines_text (last_lines last) ≡ report_text (report_of copies ipet last)
text_is copies ipet last = sym (flat_map-append line_text (front_lines copies ipet) (last_lines last))

wrote_report : (b : BoardOf) (old mid new : Option (List ℕ)) → WroteFront b.setup.rows.plan old mid → WroteEnd b mid new → WroteReport false b old new
wrote_report b old mid new first rest = record {
  report = report_of first.copies first.ipet rest.last;
  tells = tells b first.copies first.ipet rest.last first.front rest.ending;
  written = subst (Grew old new) (text_is first.copies first.ipet rest.last)
      (grew_both old mid new (lines_text (front_lines first.copies first.ipet)) (lines_text (last_lines rest.last)) first.written rest.written);
}

end_part : (b : BoardOf) (old mid new : Option (List ℕ)) → WroteFront b.setup.rows.plan old mid → WroteEndPart b mid new → WrotePart false b old new
end_part b old mid new first rest = record {
  text = lines_text (front_lines first.copies first.ipet) ++ lines_text (last_lines rest.last);
  may = Told (report_of first.copies first.ipet rest.last) (tells b first.copies first.ipet rest.last first.front rest.ending) (text_is first.copies first.ipet rest.last);
  written = grew_behind old mid new (lines_text (front_lines first.copies first.ipet)) (lines_text (last_lines rest.last)) first.written rest.written;
}

-- the first lines tell every board that is set up so
pub front_later : (u v : Setup) (old new : Option (List ℕ)) → v ≡ u → WroteFront u.rows.plan old new → WroteFront v.rows.plan old new
front_later u v old new same wrote = subst (λ (w : Setup). WroteFront w.rows.plan old new) (sym same) wrote

-- ---- by the status

-- the first lines were cut short
pub raced_front : (s : Status) (cut : Cut) (b : BoardOf) (old new : Option (List ℕ)) → s ≡ status_of_cut cut → SomeFront b.setup.rows.plan
    → WroteUpTo cut (WroteFrontPart b.setup.rows.plan old new) old new → Raced s false b old new
raced_front s WriteFault b old new is front part =
    subst (λ s. Raced s false b old new) (sym is) (front_part b part.copies part.ipet old new part.front part.written)
raced_front s NoMemory b old new is front same =
    subst (λ s. Raced s false b old new) (sym is) (front_part b front.copies front.ipet old new front.front (grew_none old new _ same))

-- they were written, and no more
pub raced_no_more : (b : BoardOf) (old new : Option (List ℕ)) → WroteFront b.setup.rows.plan old new → WrotePart false b old new
raced_no_more b old new wrote = front_part b wrote.copies wrote.ipet old new wrote.front (grew_whole old new _ wrote.written)

-- the end was cut short
pub raced_end : (s : Status) (cut : Cut) (b : BoardOf) (old mid new : Option (List ℕ)) → s ≡ status_of_cut cut → WroteFront b.setup.rows.plan old mid
    → WroteUpTo cut (WroteEndPart b mid new) mid new → Raced s false b old new
raced_end s WriteFault b old mid new is first part = subst (λ s. Raced s false b old new) (sym is) (end_part b old mid new first part)
raced_end s NoMemory b old mid new is first same =
    subst (λ s. Raced s false b old new) (sym is)
    (raced_no_more b old new (subst (WroteFront b.setup.rows.plan old) (sym same) first))

-- all was written
pub raced_whole : (s : Status) (b : BoardOf) (old mid new : Option (List ℕ)) → (s ≡ status.Whole) ⊎ (s ≡ status.Inexact)
    → (s ≡ status.Whole → race_end b ≡ Some end.Done) → (s ≡ status.Inexact → race_end b ≢ Some end.Done)
    → WroteFront b.setup.rows.plan old mid → WroteEnd b mid new → Raced s false b old new
raced_whole s b old mid new (inl is) whole inexact first rest = subst (λ s. Raced s false b old new) (sym is) (wrote_report b old mid new first rest, whole is)
raced_whole s b old mid new (inr is) whole inexact first rest = subst (λ s. Raced s false b old new) (sym is) (wrote_report b old mid new first rest, inexact is)
