-- A printed text is typed as the program.
use Rattle.std.proofs.Common.{◌≡◌, ℕ, Bool, false, not, List, [], ◌∷◌, ◌++◌, map, refl, sym, ap, ◌∙◌, subst, append-nil}
use Rattle.std.specs.Prelude.{is_none, unwrap_or}
use Rattle.std.specs.List.{list_any, flat_map}
use Rattle.c_tree.specs.declared.program.Global.{Global as Outside}
use Rattle.c_tree.specs.declared.program.Func.{Func}
use Rattle.c_tree.specs.declared.program.Program.{Program}
use Rattle.c_tree.specs.declared.unit.RawFunc.{RawFunc}
use Rattle.c_tree.specs.declared.unit.RawTop.{RawTop}
use Rattle.c_tree.specs.declared.unit.RawTop.TheVariants as top
use Rattle.c_tree.specs.declared.unit.Unit.{Unit as Tree}
use Rattle.c_tree.specs.Checking.Checked.{IsSpelled}
use Rattle.c_tree.specs.Checking.Naming.{File, with_func, behind_top, file_start, known_funcs, func_in_file, funcs_of, globals_of, entry_number, program_of}
use Rattle.c_tree.specs.Checking.Uses.{func_uses, top_uses, tops_uses, uses}
use Rattle.c_tree.specs.Checking.Refusals.{NoEntry, func_named, faults_of, no_entry_faults, input_faults, span_faults, faults, Typed}
use Rattle.c_tree.specs.Keeping.WellFormed.{WellFormed}
use Rattle.typed_laws.proofs.Faultless.{none_of, not_there}
use Rattle.typed_laws.proofs.EntryFunction.{has_name}
use Rattle.typed_laws.proofs.Formed.FormedPrograms.{shaped_typed_formed}
use Rattle.typed_laws.proofs.Shaped.ShapedUnits.{unit_shaped}
use Rattle.print_laws.specs.Shown.{ShowsGlobals, ShowsFuncs, ShowsProgram}
use Rattle.print_laws.proofs.Again.FaultlessUses.{AreFaultless, faultless_parts, faultless_both}
use Rattle.print_laws.proofs.AtFileScope.DifferentNames.{AreDifferent}
use Rattle.print_laws.proofs.AtFileScope.FilesAgain.{program_names, global_names, func_names}
use Rattle.print_laws.proofs.AtFileScope.PrintedKnown.{funcs_known, funcs_at}
use Rattle.print_laws.proofs.AtFileScope.NamesOfUnits.{names_different, program_different}
use Rattle.print_laws.proofs.AtFileScope.FileWalks.{IsTextAt, IsPrintedAt, known_funcs_are, known_funcs_shown, text_started, text_outer, text_inner, text_func, printed_func}
use Rattle.print_laws.proofs.AtFileScope.PrintedGlobals.{known_behind, globals_again}
use Rattle.print_laws.proofs.AtFileScope.FunctionsAgain.{AreAt, func_again, func_faultless}
use Rattle.print_laws.proofs.AtFileScope.EntriesAgain.{not_named, unit_faultless}

-- ---- the functions

-- the functions of the rest are those of the program, without faults
record AreFuncsAgain (fu fv : File) (ts : List RawTop) (hs : List RawFunc) : Type 0 where
  same : funcs_of fv (map top.Func hs) ≡ funcs_of fu ts
  faultless : AreFaultless (tops_uses fv (map top.Func hs))

module _ (p : Program) (different : AreDifferent (program_names p)) where
  funcs_again : (fu fv : File) (ts : List RawTop) (hs : List RawFunc) (before : List Outside) (above : List Func) → IsTextAt p fu before above ts → IsPrintedAt p fv above (funcs_of fu ts) → ShowsFuncs p hs (funcs_of fu ts) → AreFaultless (tops_uses fu ts) → AreFuncsAgain fu fv ts hs
  funcs_again fu fv [] [] before above text printed shows clean = record { same = refl; faultless = refl }
  funcs_again fu fv [] (h ∷ hs) before above text printed shows clean = absurd shows
  funcs_again fu fv (top.Outer constant t x e ∷ ts) hs before above text printed shows clean =
      let r : RawTop = top.Outer constant t x e in
      let parts = faultless_parts (top_uses fu r) (tops_uses (behind_top fu r) ts) clean in
      let rest = funcs_again (behind_top fu r) fv ts hs _ above (text_outer p fu constant t x e before above ts text) printed shows parts.1 in
      record { same = rest.same; faultless = rest.faultless }
  funcs_again fu fv (top.Global kept constant t x sh ∷ ts) hs before above text printed shows clean =
      let r : RawTop = top.Global kept constant t x sh in
      let parts = faultless_parts (top_uses fu r) (tops_uses (behind_top fu r) ts) clean in
      let rest = funcs_again (behind_top fu r) fv ts hs _ above (text_inner p fu kept constant t x sh before above ts text) printed shows parts.1 in
      record { same = rest.same; faultless = rest.faultless }
  funcs_again fu fv (top.Func g ∷ ts) [] before above text printed shows clean = absurd shows
  funcs_again fu fv (top.Func g ∷ ts) (h ∷ hs) before above text printed shows clean =
      let after = with_func fu g in
      let again = with_func fv h in
      let made = func_in_file fu g in
      let parts = faultless_parts (func_uses fu g) (tops_uses after ts) clean in
      let at : AreAt p fu fv g h = record { before = before; above = above; ts = ts; more = funcs_of after ts; text = text; printed = printed; shows = shows.0 } in
      let next = printed_func p fv h made above (funcs_of after ts) shows.0 printed in
      let rest = funcs_again after again ts hs before (above ++ made ∷ []) (text_func p fu g before above ts text) next shows.1 parts.1 in
      record {
        same = λ i. func_again p different fu fv g h at parts.0 i ∷ rest.same i;
        faultless = faultless_both (func_uses fv h) (tops_uses again (map top.Func hs)) (func_faultless p different fu fv g h at parts.0) rest.faultless;
      }

-- ---- the unit

-- what no fault says of a unit
record IsSound (u : Tree) (entry : List ℕ) : Type 0 where
  clean : AreFaultless (tops_uses (file_start u.tops) u.tops)
  named : is_none (func_named entry u.tops) ≡ false

sound_unit : (u : Tree) (entry : List ℕ) → faults u entry ≡ [] → IsSound u entry
unfolding faults uses
sound_unit u entry h =
    let first = none_of (flat_map faults_of (uses u)) (no_entry_faults u entry ++ (input_faults u entry ++ span_faults u entry)) h in
    let second = none_of (no_entry_faults u entry) (input_faults u entry ++ span_faults u entry) first.1 in
    record { clean = first.0; named = not_there (is_none (func_named entry u.tops)) NoEntry u.end second.0 }

-- the names of a unit's program
names_apart : (ts : List RawTop) → AreFaultless (tops_uses (file_start ts) ts) → AreDifferent (global_names (globals_of ts) ++ func_names (funcs_of (file_start ts) ts))
names_apart ts clean =
    let fs = funcs_of (file_start ts) ts in
    let known : known_funcs 0 ts ≡ funcs_known 0 0 fs ++ [] = known_funcs_are 0 (file_start ts) ts ∙ sym (append-nil (funcs_known 0 0 fs)) in
    program_different (file_start ts) ts (names_different (file_start ts) (funcs_known 0 0 fs) [] ts known (funcs_at 0 0 fs) tt clean).0

-- the printed text has the program's parts, and no fault in them
record IsProgramAgain (vs : List RawTop) (p : Program) : Type 0 where
  globals : globals_of vs ≡ p.globals
  funcs : funcs_of (file_start vs) vs ≡ p.funcs
  clean : AreFaultless (tops_uses (file_start vs) vs)

no_more : (hs : List RawFunc) → globals_of (map top.Func hs) ≡ []
no_more [] = refl
no_more (h ∷ hs) = no_more hs

program_again : (p : Program) (ts rs : List RawTop) (hs : List RawFunc) → p.globals ≡ globals_of ts → p.funcs ≡ funcs_of (file_start ts) ts → AreFaultless (tops_uses (file_start ts) ts) → WellFormed p → ShowsGlobals rs p.globals → ShowsFuncs p hs p.funcs
    → IsProgramAgain (rs ++ map top.Func hs) p
program_again p ts rs hs globals funcs clean formed shows shown =
    let vs : List RawTop = rs ++ map top.Func hs in
    let different : AreDifferent (program_names p) = subst (λ gs. AreDifferent (global_names gs ++ func_names p.funcs)) (sym globals) (subst (λ fs. AreDifferent (global_names (globals_of ts) ++ func_names fs)) (sym funcs) (names_apart ts clean)) in
    let known : known_funcs 0 vs ≡ funcs_known 0 0 p.funcs = known_behind 0 rs p.globals (map top.Func hs) shows ∙ known_funcs_shown p 0 hs p.funcs shown in
    let outside = globals_again p (file_start vs) rs (map top.Func hs) different known refl refl shows formed.globals in
    let text = text_started p ts globals funcs in
    let at : IsPrintedAt p outside.after [] (funcs_of (file_start ts) ts) = subst (IsPrintedAt p outside.after []) funcs outside.at in
    let again = funcs_again p different (file_start ts) outside.after ts hs [] [] text at (subst (ShowsFuncs p hs) funcs shown) clean in
    record {
      globals = outside.made ∙ ap (λ gs. p.globals ++ gs) (no_more hs) ∙ append-nil p.globals;
      funcs = outside.funcs ∙ again.same ∙ sym funcs;
      clean = outside.faultless again.faultless;
    }

-- ---- the whole

whole : (v : Tree) (entry : List ℕ) (p : Program) → IsProgramAgain v.tops p → p.entry ≡ unwrap_or (entry_number p.funcs entry) 0 → p ≡ program_of v entry
unfolding program_of
whole v entry p again first =
    (λ i. record { globals = sym again.globals i; funcs = sym again.funcs i; entry = (first ∙ ap (λ fs. unwrap_or (entry_number fs entry) 0) (sym again.funcs)) i })

-- the parts of a program of a unit
record IsMadeOf (p : Program) (u : Tree) (entry : List ℕ) : Type 0 where
  globals : p.globals ≡ globals_of u.tops
  funcs : p.funcs ≡ funcs_of (file_start u.tops) u.tops
  entry_is : p.entry ≡ unwrap_or (entry_number p.funcs entry) 0

made_of : (u : Tree) (entry : List ℕ) (p : Program) → p ≡ program_of u entry → IsMadeOf p u entry
unfolding program_of
made_of u entry p is =
    let funcs : p.funcs ≡ funcs_of (file_start u.tops) u.tops = ap (λ (q : Program). q.funcs) is in
    record {
      globals = ap (λ (q : Program). q.globals) is;
      funcs = funcs;
      entry_is = ap (λ (q : Program). q.entry) is ∙ ap (λ fs. unwrap_or (entry_number fs entry) 0) (sym funcs);
    }

sound_uses : (v : Tree) → AreFaultless (tops_uses (file_start v.tops) v.tops) → AreFaultless (uses v)
unfolding uses
sound_uses v clean = clean

formed_of : (u : Tree) (entry : List ℕ) (p : Program) → IsSpelled u → Typed u entry p → WellFormed p
formed_of u entry p spelled typed =
    shaped_typed_formed u entry p (unit_shaped spelled.text spelled.read.tokens u spelled.read.lexed spelled.read.spelled) typed

pub typed_again : (u v : Tree) (entry : List ℕ) (p : Program) → IsSpelled u → Typed u entry p → ShowsProgram v p → Typed v entry p
typed_again u v entry p spelled typed shows =
    let made = made_of u entry p typed.named in
    let sound = sound_unit u entry typed.sound in
    let formed = formed_of u entry p spelled typed in
    let again : IsProgramAgain v.tops p = subst (λ ts. IsProgramAgain ts p) (sym shows.tops) (program_again p u.tops shows.globals shows.funcs made.globals made.funcs sound.clean formed shows.shows_globals shows.shows_funcs) in
    let same : p ≡ program_of v entry = whole v entry p again made.entry_is in
    let none : (fs : List Func) → Bool = λ (fs : List Func). not (list_any (has_name entry) fs) in
    let named : is_none (func_named entry v.tops) ≡ false = not_named entry (file_start v.tops) v.tops ∙ ap none (again.funcs ∙ made.funcs) ∙ sym (not_named entry (file_start u.tops) u.tops) ∙ sound.named in
    record { sound = unit_faultless v entry (subst WellFormed same formed) named (sound_uses v again.clean); named = same }
