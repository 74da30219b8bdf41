-- Sizes that every program keeps, and terms with it: no list and no array is longer than 2^31, so that an index that
-- is negative is outside as a word too. This project's own.
use Rattle.std.specs.Prelude.{◌≡◌, ◌≤◌, ◌^◌, ℕ, List, [], ◌∷◌, length, slice_get, Option, Some, None}
use Rattle.c_tree.specs.declared.tree.Stmt.{Stmt}
use Rattle.c_tree.specs.declared.tree.Stmt.TheVariants as stmt
use Rattle.c_tree.specs.declared.program.Local.{Local}
use Rattle.flow_laws.specs.Sites.{Content, Simple, Enter, Site, Copy}

abbrev pub HasSmallList : Stmt → Type 0
HasSmallList (stmt.Array l es) = length es ≤ 2 ^ 31
HasSmallList _ = Unit {0}

abbrev pub HaveSmallLists : List Stmt → Type 0
HaveSmallLists [] = Unit {0}
HaveSmallLists (st ∷ rest) = HasSmallList st × HaveSmallLists rest

abbrev pub HasSmallLength : Option ℕ → Type 0
HasSmallLength None = Unit {0}
HasSmallLength (Some n) = n ≤ 2 ^ 31

abbrev pub AreSmallLocals : List Local → Type 0
AreSmallLocals [] = Unit {0}
AreSmallLocals (l ∷ ls) = HasSmallLength l.length × AreSmallLocals ls

abbrev pub IsSmallContent : Content → Type 0
IsSmallContent (Simple ss) = HaveSmallLists ss
IsSmallContent (Enter t ls es) = AreSmallLocals ls
IsSmallContent _ = Unit {0}

abbrev pub IsSmallGraph : List Site → Type 0
IsSmallGraph g = (n : ℕ) (s : Site) → slice_get g n ≡ Some s → IsSmallContent s.content

abbrev pub IsSmallCopy : Option Copy → Type 0
IsSmallCopy None = Unit {0}
IsSmallCopy (Some c) = AreSmallLocals c.locals
