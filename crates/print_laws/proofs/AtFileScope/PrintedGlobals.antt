-- Behind its globals a printed text has them all, and no fault so far.
use Rattle.std.proofs.Common.{◌≡◌, ℕ, ◌+◌, Bool, true, false, List, [], ◌∷◌, ◌++◌, length, refl, sym, ap, ◌∙◌, subst, arith, append_assoc, append-nil}
use Rattle.std.proofs.lemmas.List.{map-append}
use Rattle.c_tree.specs.declared.program.Global.{Global as Outside}
use Rattle.c_tree.specs.declared.program.Program.{Program}
use Rattle.c_tree.specs.declared.unit.RawTop.{RawTop}
use Rattle.c_tree.specs.Checking.Scopes.{is_known_at}
use Rattle.c_tree.specs.Checking.Naming.{File, behind_top, known_funcs, funcs_of, globals_of}
use Rattle.c_tree.specs.Checking.Uses.{top_uses, tops_uses}
use Rattle.c_tree.specs.Keeping.WellFormed.{WellFormedGlobals}
use Rattle.typed_laws.proofs.FileScope.{length_more}
use Rattle.print_laws.specs.Shown.{ShowsDeclaration, ShowsGlobals}
use Rattle.print_laws.proofs.Again.FaultlessUses.{AreFaultless, faultless_both}
use Rattle.print_laws.proofs.AtFileScope.DifferentNames.{IsNew, AreDifferent, new_at_seam}
use Rattle.print_laws.proofs.AtFileScope.KnownNames.{new_unknown}
use Rattle.print_laws.proofs.AtFileScope.FilesAgain.{global_names, func_names, program_names}
use Rattle.print_laws.proofs.AtFileScope.PrintedKnown.{funcs_known, globals_known, global_known, globals_known_more, names_of_globals, funcs_at, globals_at}
use Rattle.print_laws.proofs.AtFileScope.FileWalks.{IsPrintedAt}
use Rattle.print_laws.proofs.AtFileScope.GlobalsAgain.{IsGlobalAgain, global_again}

-- behind some globals of a printed text
record AreBefore (p : Program) (f : File) (before gs : List Outside) : Type 0 where
  known : f.known ≡ funcs_known 0 0 p.funcs ++ globals_known 0 before
  more : p.globals ≡ before ++ gs
  count : length before ≡ f.globals
  no_func : f.funcs ≡ 0

-- behind all of them, where declarations follow
pub record AreGlobalsAgain (p : Program) (f : File) (rs : List RawTop) (gs : List Outside) (ts : List RawTop) : Type 0 where
  pub after : File
  pub at : IsPrintedAt p after [] p.funcs
  pub made : globals_of (rs ++ ts) ≡ gs ++ globals_of ts
  pub funcs : funcs_of f (rs ++ ts) ≡ funcs_of after ts
  pub faultless : AreFaultless (tops_uses after ts) → AreFaultless (tops_uses f (rs ++ ts))

none_follow : (p : Program) (f : File) (before : List Outside) (ts : List RawTop) → AreBefore p f before [] → AreGlobalsAgain p f [] [] ts
none_follow p f before ts h =
    let all : before ≡ p.globals = sym (append-nil before) ∙ sym h.more in
    record {
      after = f;
      at = record {
        known = h.known ∙ (λ i. funcs_known 0 0 p.funcs ++ (ap (globals_known 0) all ∙ sym (append-nil (globals_known 0 p.globals))) i);
        more_funcs = refl;
        count_funcs = sym h.no_func;
      };
      made = refl;
      funcs = refl;
      faultless = λ clean. clean;
    }

-- a global's name is new behind those before it
global_new : (p : Program) (f : File) (before gs : List Outside) (g : Outside) → AreDifferent (program_names p) → AreBefore p f before (g ∷ gs) → is_known_at f.known 1 g.name ≡ false
global_new p f before gs g different h =
    let names : program_names p ≡ global_names before ++ g.name ∷ (global_names gs ++ func_names p.funcs) = ap (λ l. global_names l ++ func_names p.funcs) h.more ∙ ap (λ l. l ++ func_names p.funcs) (map-append (λ (o : Outside). o.name) before (g ∷ gs)) ∙ append_assoc (global_names before) (g.name ∷ global_names gs) (func_names p.funcs) in
    let new : IsNew g.name (global_names before) = new_at_seam g.name (global_names before) _ (subst AreDifferent names different) in
    ap (λ ks. is_known_at ks 1 g.name) h.known
    ∙ new_unknown (funcs_known 0 0 p.funcs) (globals_known 0 before) g.name (funcs_at 0 0 p.funcs) (globals_at 0 before) (subst (IsNew g.name) (sym (names_of_globals 0 before)) new)

one_more : (p : Program) (f : File) (r : RawTop) (before gs : List Outside) (g : Outside) → IsGlobalAgain f r g → AreBefore p f before (g ∷ gs) → AreBefore p (behind_top f r) (before ++ g ∷ []) gs
one_more p f r before gs g again h =
    let n : 0 + length before ≡ f.globals = omega (arith, h.count) in
    let last : globals_known 0 before ++ global_known f.globals g ∷ [] ≡ globals_known 0 (before ++ g ∷ []) = ap (λ k. globals_known 0 before ++ global_known k g ∷ []) (sym n) ∙ sym (globals_known_more 0 before g) in
    subst (λ t. AreBefore p t (before ++ g ∷ []) gs) (sym again.behind) (record {
      known = ap (λ ks. ks ++ global_known f.globals g ∷ []) h.known ∙ append_assoc (funcs_known 0 0 p.funcs) (globals_known 0 before) _ ∙ ap (λ ks. funcs_known 0 0 p.funcs ++ ks) last;
      more = h.more ∙ sym (append_assoc before (g ∷ []) gs);
      count = length_more before g f.globals h.count;
      no_func = h.no_func;
    })

all_follow : (p : Program) (f : File) (rs : List RawTop) (before gs : List Outside) (ts : List RawTop) → AreDifferent (program_names p) → AreBefore p f before gs → ShowsGlobals rs gs → WellFormedGlobals gs → AreGlobalsAgain p f rs gs ts
all_follow p f [] before [] ts different h shows formed = none_follow p f before ts h
all_follow p f [] before (g ∷ gs) ts different h shows formed = absurd shows
all_follow p f (r ∷ rs) before [] ts different h shows formed = absurd shows
all_follow p f (r ∷ rs) before (g ∷ gs) ts different h shows formed =
    let again = global_again f r g shows.0 formed.0 (global_new p f before gs g different h) in
    let rest = all_follow p (behind_top f r) rs (before ++ g ∷ []) gs ts different (one_more p f r before gs g again h) shows.1 formed.1 in
    record {
      after = rest.after;
      at = rest.at;
      made = again.made (rs ++ ts) ∙ ap (λ l. g ∷ l) rest.made;
      funcs = again.no_func (rs ++ ts) ∙ rest.funcs;
      faultless = λ clean. faultless_both (top_uses f r) (tops_uses (behind_top f r) (rs ++ ts)) again.faultless (rest.faultless clean);
    }

-- the globals make no function known
pub known_behind : (n : ℕ) (rs : List RawTop) (gs : List Outside) (ts : List RawTop) → ShowsGlobals rs gs → known_funcs n (rs ++ ts) ≡ known_funcs n ts
known_behind n [] [] ts shows = refl
known_behind n [] (g ∷ gs) ts shows = absurd shows
known_behind n (r ∷ rs) [] ts shows = absurd shows
known_behind n (r ∷ rs) (g ∷ gs) ts shows = shown_unknown n r g (rs ++ ts) g.outer shows.0.shown ∙ known_behind n rs gs ts shows.1
  where
    shown_unknown : (n : ℕ) (r : RawTop) (g : Outside) (more : List RawTop) (b : Bool) → ShowsDeclaration b r g → known_funcs n (r ∷ more) ≡ known_funcs n more
    shown_unknown n r g more true (y, a, is, named, shown, none) = ap (λ t. known_funcs n (t ∷ more)) is
    shown_unknown n r g more false (y, sh, is, named, shown) = ap (λ t. known_funcs n (t ∷ more)) is

pub globals_again : (p : Program) (f : File) (rs ts : List RawTop) → AreDifferent (program_names p) → f.known ≡ funcs_known 0 0 p.funcs → f.globals ≡ 0 → f.funcs ≡ 0 → ShowsGlobals rs p.globals → WellFormedGlobals p.globals → AreGlobalsAgain p f rs p.globals ts
globals_again p f rs ts different known none no_func shows formed =
    all_follow p f rs [] p.globals ts different (record { known = known ∙ sym (append-nil (funcs_known 0 0 p.funcs)); more = refl; count = sym none; no_func = no_func }) shows formed
